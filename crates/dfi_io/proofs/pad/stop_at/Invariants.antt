use Rattle.std.proofs.Common.{◌≡◌, ◌==◌, drop}
use Rattle.std.specs.Map.{lookup}
use Rattle.dfi_io.proofs.pad.stop_at.Given as goal

abbrev pub invariant-loop-call : goal.invariant-loop-call
invariant-loop-call l =
    lookup (λ call. call == l.number) (drop l.call-index l.plan) ≡ lookup (λ call. call == l.number) l.plan
