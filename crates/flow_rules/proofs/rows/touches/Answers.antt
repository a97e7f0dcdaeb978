use Rattle.std.proofs.Common.{◌∙◌, sym}
use Rattle.tac_ir.specs.declared.code.Instr.{Instr}
use Rattle.flow_rules.proofs.InCode.{names_at, leaf_is_place, fun_exists}
use Rattle.flow_rules.proofs.rows.touches.Goals as goal

pub place_node-requires-clause-place : goal.place_node-requires-clause-place
place_node-requires-clause-place c =
    leaf_is_place c.args.c.now c.args.p.fun c.in-Set.place (names_at c.args.c.now c.requires.form c.args.p c.requires.point (Instr.Set c.in-Set.place c.in-Set.a c.in-Set.def) (sym c.in-Set.is ∙ c.instr_at.ensures))

pub place_node-requires-in-Get-clause-place : goal.place_node-requires-in-Get-clause-place
place_node-requires-in-Get-clause-place c =
    leaf_is_place c.args.c.now c.args.p.fun c.in-Get.place (names_at c.args.c.now c.requires.form c.args.p c.requires.point (Instr.Get c.in-Get.to c.in-Get.place c.in-Get.read) (sym c.in-Get.is ∙ c.instr_at.ensures))

pub link_leaf-requires-clause-fun : goal.link_leaf-requires-clause-fun
link_leaf-requires-clause-fun c =
    (names_at c.args.c.now c.requires.form c.args.p c.requires.point (Instr.Call c.in-Call.to c.in-Call.fun c.in-Call.def c.in-Call.args) (sym c.in-Call.is ∙ c.instr_at.ensures)).exists

pub link_leaf-requires-in-Ret-default-Some-clause-fun : goal.link_leaf-requires-in-Ret-default-Some-clause-fun
link_leaf-requires-in-Ret-default-Some-clause-fun c = fun_exists c.args.c.now c.args.p c.requires.point
