use Rattle.std.proofs.Common.{◌≡◌, ℕ, true, take}
use Rattle.tac_ir.specs.Answers.{has}
use Rattle.flow_rules.specs.Tables.{points_by}
use Rattle.flow_rules.specs.tools.PointRules.{Through}
use Rattle.flow_rules.proofs.point_rules.all_through.Given as goal

abbrev pub invariant-loop-node : goal.invariant-loop-node
invariant-loop-node l = (n : ℕ) → has (take l.node-index l.nodes) n ≡ true → Through l.c (points_by l.points.rows) l.fun l.instr n
