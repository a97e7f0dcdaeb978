use Rattle.std.proofs.Common.{◌≡◌, ℕ, ◌<◌, Some}
use Rattle.std.specs.Prelude.{slice_get}
use Rattle.tac_ir.specs.declared.code.Lined.{Lined}
use Rattle.flow_rules.specs.tools.Made.{Makes}
use Rattle.flow_rules.proofs.reads.index_of.Given as goal

abbrev pub invariant-loop-at : goal.invariant-loop-at
invariant-loop-at l = (i : ℕ) (x : Lined) → i < l.at → slice_get l.code i ≡ Some x → Makes l.made x.instr → ⊥
