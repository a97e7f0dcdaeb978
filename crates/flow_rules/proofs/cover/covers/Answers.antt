use Rattle.std.proofs.Common.{◌≡◌, ◌∙◌, ap, sym, subst}
use Rattle.std.specs.List.{list_all}
use Rattle.tac_ir.specs.Answers.{has, set_of}
use Rattle.flow_rules.specs.Removed.{Covers}
use Rattle.flow_rules.proofs.Covering.{covers_get}
use Rattle.flow_rules.proofs.cover.covers.Goals as goal

pub returns-then-is_same : goal.returns-then-is_same
returns-then-is_same c =
    let all : c.is_within.result ≡ list_all (has (set_of c.args.md.now c.args.read)) (set_of c.args.md.now c.in-Get.earlier) =
    c.is_within.ensures ∙ ap (λ xs. list_all (has xs) c.set_of.result.now) c.set_of-then-is_same.ensures ∙ ap (list_all (has (set_of c.args.md.now c.args.read))) c.set_of.ensures in
    let both = covers_get c.args.md.now c.args.place.now c.in-Get.other c.args.read c.in-Get.earlier c.in-Get.to c.is_within.result all (c.is_same.ensures.0 c.if-is_same.true) in
    (λ h. subst (Covers c.args.md.now c.args.place.now c.args.read) (sym c.in-Get.is) (both.0 h), λ covers. both.1 (subst (Covers c.args.md.now c.args.place.now c.args.read) c.in-Get.is covers))
