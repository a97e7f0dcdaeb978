use Rattle.std.proofs.Common.{ℕ, ◌<◌}
use Rattle.tac_ir.specs.Layout.{instr_at}
use Rattle.flow_rules.specs.PointNumber.{point_at}
use Rattle.flow_rules.specs.tools.Made.{Makes}
use Rattle.flow_rules.proofs.reads.point_of.Given as goal

abbrev pub invariant-loop-fun : goal.invariant-loop-fun
invariant-loop-fun l = (f at : ℕ) → f < l.fun → Makes l.made (instr_at l.c (point_at f at)) → ⊥
