use Rattle.std.proofs.Common.{◌≡◌, drop}
use Rattle.tac_ir.specs.Accesses.{nodes_for}
use Rattle.flow_rules.proofs.rows.nodes_for.Given as goal

abbrev pub invariant-loop-row : goal.invariant-loop-row
invariant-loop-row l = nodes_for (drop l.row-index l.row-items) l.key ≡ nodes_for l.points.rows l.key
