use Rattle.std.proofs.Common.{◌≡◌, drop}
use Rattle.flow_rules.specs.Tables.{facts_at}
use Rattle.flow_rules.proofs.table.facts_at.Given as goal

abbrev pub invariant-loop-row : goal.invariant-loop-row
invariant-loop-row l = facts_at (drop l.row-index l.rows) l.p ≡ facts_at l.rows l.p
