use Rattle.std.proofs.Common.{◌∙◌, arith, subst, sym}
use Rattle.tac_ir.specs.declared.code.Instr.{Instr}
use Rattle.tac_ir.specs.GoodForm.{IsGoodCall}
use Rattle.flow_rules.proofs.InCode.{names_at, leaf_is_place}
use Rattle.flow_rules.proofs.point_rules.direct_holds.Goals as goal

pub place_node-requires-clause-place : goal.place_node-requires-clause-place
place_node-requires-clause-place c = names_at c.args.c.now c.requires.form c.args.p c.requires.point (Instr.Addr c.in-Addr.to c.in-Addr.place) (sym c.in-Addr.is ∙ c.instr_at.ensures)

pub site_node-requires-clause-site : goal.site_node-requires-clause-site
site_node-requires-clause-site c =
    let low = names_at c.args.c.now c.requires.form c.args.p c.requires.point (Instr.New c.in-New.to c.in-New.a c.in-New.site) (sym c.in-New.is ∙ c.instr_at.ensures) in
    omega (arith, low)

pub args_hold-requires : goal.args_hold-requires
args_hold-requires c =
    subst (IsGoodCall c.args.c.now c.in-Call.fun) (sym c.as_slice.ensures)
    (names_at c.args.c.now c.requires.form c.args.p c.requires.point (Instr.Call c.in-Call.to c.in-Call.fun c.in-Call.def c.in-Call.args) (sym c.in-Call.is ∙ c.instr_at.ensures))

pub place_node-requires-in-Get-clause-place : goal.place_node-requires-in-Get-clause-place
place_node-requires-in-Get-clause-place c =
    leaf_is_place c.args.c.now c.args.p.fun c.in-Get.place (names_at c.args.c.now c.requires.form c.args.p c.requires.point (Instr.Get c.in-Get.to c.in-Get.place c.in-Get.read) (sym c.in-Get.is ∙ c.instr_at.ensures))

pub place_node-requires-in-Set-clause-place : goal.place_node-requires-in-Set-clause-place
place_node-requires-in-Set-clause-place c =
    leaf_is_place c.args.c.now c.args.p.fun c.in-Set.place (names_at c.args.c.now c.requires.form c.args.p c.requires.point (Instr.Set c.in-Set.place c.in-Set.a c.in-Set.def) (sym c.in-Set.is ∙ c.instr_at.ensures))
