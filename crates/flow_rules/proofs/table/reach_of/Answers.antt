use Rattle.std.proofs.Common.{◌∙◌, ap}
use Rattle.tac_ir.specs.Accesses.{facts_of}
use Rattle.tac_ir.specs.Module.{Module}
use Rattle.flow_rules.proofs.RowTable.{is_reach, is_table}
use Rattle.flow_rules.proofs.table.reach_of.Goals as goal

pub returns-in_ok-rows-in-Ok-clause-rows : goal.returns-in_ok-rows-in-Ok-clause-rows
returns-in_ok-rows-in-Ok-clause-rows c =
    is_reach c.args.md.now c.requires.form (record { facts = c.in-Ok.facts; rows = c.in_ok-rows-in-Ok.rows }) (c.in-Ok.ensures.0 ∙ ap (λ (z : Module). facts_of z.code z.points) c.md.view_is) c.in_ok-rows-in-Ok.ensures

pub returns-in_ok-rows-in-Ok-clause-table : goal.returns-in_ok-rows-in-Ok-clause-table
returns-in_ok-rows-in-Ok-clause-table c =
    is_table c.args.md.now c.requires.form (record { facts = c.in-Ok.facts; rows = c.in_ok-rows-in-Ok.rows }) (c.in-Ok.ensures.0 ∙ ap (λ (z : Module). facts_of z.code z.points) c.md.view_is) c.in_ok-rows-in-Ok.ensures
