use Rattle.std.proofs.Common.{sym, subst}
use Rattle.std.specs.Prelude.{All}
use Rattle.tac_ir.specs.declared.module.Key.{Key}
use Rattle.tac_ir.specs.GoodModule.{IsNode}
use Rattle.flow_rules.proofs.InCode.{names_at}
use Rattle.flow_rules.proofs.PointRules.{nodes_exist}
use Rattle.flow_rules.proofs.point_rules.through_holds.Goals as goal

pub all_through-requires-clause-names : goal.all_through-requires-clause-names
all_through-requires-clause-names c = names_at c.args.c.now c.requires.form c.args.p c.requires.point c.instr_at-instr.result.now c.instr_at-instr.ensures

pub all_through-requires-clause-nodes : goal.all_through-requires-clause-nodes
all_through-requires-clause-nodes c =
    subst (All (IsNode c.args.c.now)) (sym c.nodes_for-nodes.ensures) (nodes_exist c.args.c.now c.args.points.now.rows c.requires.points.good (Key.Temp c.args.p.fun c.in-Some.temp))
