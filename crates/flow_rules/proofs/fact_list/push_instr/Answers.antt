use Rattle.std.proofs.Common.{◌∙◌, sym}
use Rattle.tac_ir.specs.declared.code.Instr.{Instr}
use Rattle.flow_rules.proofs.InCode.{names_at, leaf_is_place}
use Rattle.flow_rules.proofs.fact_list.push_instr.Goals as goal

pub place_node-leaf-requires-clause-place : goal.place_node-leaf-requires-clause-place
place_node-leaf-requires-clause-place c =
    leaf_is_place c.args.c.now c.args.p.fun c.in-Set.place (names_at c.args.c.now c.requires.form c.args.p c.requires.point (Instr.Set c.in-Set.place c.in-Set.a c.in-Set.def) (sym c.in-Set.is ∙ c.instr_at.ensures))

pub link_leaf-leaf-requires-clause-fun : goal.link_leaf-leaf-requires-clause-fun
link_leaf-leaf-requires-clause-fun c =
    (names_at c.args.c.now c.requires.form c.args.p c.requires.point (Instr.Call c.in-Call.to c.in-Call.fun c.in-Call.def c.in-Call.args) (sym c.in-Call.is ∙ c.instr_at.ensures)).exists
