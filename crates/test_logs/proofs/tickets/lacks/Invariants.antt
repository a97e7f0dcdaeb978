use Rattle.std.specs.Prelude.{◌≡◌, All, take}
use Rattle.guest_log.specs.declared.stamped.Stamped.{Stamped}
use Rattle.test_logs.proofs.tickets.lacks.Given as goal

abbrev pub invariant-loop-stamped : goal.invariant-loop-stamped
invariant-loop-stamped l = All (λ (stamped : Stamped). l.ticket ≡ stamped.ticket → ⊥) (take l.stamped-index l.log)
