use Rattle.std.proofs.Common.{◌≡◌, ◌∙◌, ap, sym, subst, Some}
use Rattle.dfi_base.specs.declared.numbers.Point.{Point}
use Rattle.tac_ir.specs.declared.code.Instr.{Instr}
use Rattle.tac_ir.specs.Module.{Module}
use Rattle.tac_ir.specs.Layout.{instr_at}
use Rattle.tac_ir.specs.Numbers.{new_read}
use Rattle.tac_ir.specs.Bodies.{Parallel}
use Rattle.flow_rules.specs.Removed.{IsCovered}
use Rattle.flow_rules.specs.declared.reads.Made.{Made}
use Rattle.flow_rules.specs.tools.Made.{IsMadeAt}
use Rattle.flow_rules.proofs.ReadPoints.{removed_here, never_removed}
use Rattle.flow_rules.proofs.cover.elided.Goals as goal

pub returns-then-is_alone : goal.returns-then-is_alone
returns-then-is_alone c =
    let m = c.args.md.now in
    let code : c.md.inside.code ≡ m.code = ap (λ (z : Module). z.code) c.md.view_is in
    let p = c.in-Some.p in
    let found = subst (IsMadeAt c.md.inside.code (Made.Read c.from-number.result)) c.in-Some.is c.point_of.ensures in
    let number = c.from-number.ensures in
    let read : new_read (instr_at m.code p) ≡ Some c.args.read.0 = ap (λ k. new_read (instr_at k p)) (sym code) ∙ found.1 ∙ ap Some number in
    let instr : instr_at m.code p ≡ c.instr_at.result.now = ap (λ k. instr_at k p) (sym code) ∙ sym c.instr_at.ensures in
    let get = instr ∙ c.in-Get.is in
    let same : Some c.in-Get.read ≡ Some c.args.read.0 = sym (ap new_read get) ∙ read in
    let equal : c.in-Get.read ≡ c.args.read.0 = cc in
    let here : instr_at m.code p ≡ Instr.Get c.in-Get.to c.in-Get.place c.args.read.0 = get ∙ ap (Instr.Get c.in-Get.to c.in-Get.place) equal in
    let alone = subst (λ k. (q : Point) → Parallel k p q → ⊥) code (c.is_alone.ensures.0 c.if-is_alone.true) in (
      λ h. record {
        at = p;
        to = c.in-Get.to;
        place = c.in-Get.place;
        read = here;
        alone = alone;
        covered = subst (λ n. IsCovered m p.fun p.at n c.in-Get.place) number (c.is_covered.ensures.0 h);
      },
      λ removed. c.is_covered.ensures.1 (subst (λ n. IsCovered m p.fun p.at n c.in-Get.place) (sym number) (removed_here m c.requires.form.form p c.in-Get.to c.args.read.0 c.in-Get.place here removed).covered),
    )

pub returns-else-is_alone : goal.returns-else-is_alone
returns-else-is_alone c =
    let m = c.args.md.now in
    let code : c.md.inside.code ≡ m.code = ap (λ (z : Module). z.code) c.md.view_is in
    let p = c.in-Some.p in
    let found = subst (IsMadeAt c.md.inside.code (Made.Read c.from-number.result)) c.in-Some.is c.point_of.ensures in
    let number = c.from-number.ensures in
    let read : new_read (instr_at m.code p) ≡ Some c.args.read.0 = ap (λ k. new_read (instr_at k p)) (sym code) ∙ found.1 ∙ ap Some number in
    let instr : instr_at m.code p ≡ c.instr_at.result.now = ap (λ k. instr_at k p) (sym code) ∙ sym c.instr_at.ensures in
    let get = instr ∙ c.in-Get.is in
    let same : Some c.in-Get.read ≡ Some c.args.read.0 = sym (ap new_read get) ∙ read in
    let equal : c.in-Get.read ≡ c.args.read.0 = cc in
    let here : instr_at m.code p ≡ Instr.Get c.in-Get.to c.in-Get.place c.args.read.0 = get ∙ ap (Instr.Get c.in-Get.to c.in-Get.place) equal in (
      λ h. (let clash = sym h ∙ c.if-is_alone.false in cc),
      λ removed. c.is_alone.ensures.1 (subst (λ k. (q : Point) → Parallel k p q → ⊥) (sym code) (removed_here m c.requires.form.form p c.in-Get.to c.args.read.0 c.in-Get.place here removed).alone),
    )

pub returns-in_default : goal.returns-in_default
returns-in_default c =
    let m = c.args.md.now in
    let code : c.md.inside.code ≡ m.code = ap (λ (z : Module). z.code) c.md.view_is in
    let p = c.in-Some.p in
    let found = subst (IsMadeAt c.md.inside.code (Made.Read c.from-number.result)) c.in-Some.is c.point_of.ensures in
    let number = c.from-number.ensures in
    let read : new_read (instr_at m.code p) ≡ Some c.args.read.0 = ap (λ k. new_read (instr_at k p)) (sym code) ∙ found.1 ∙ ap Some number in
    let instr : instr_at m.code p ≡ c.instr_at.result.now = ap (λ k. instr_at k p) (sym code) ∙ sym c.instr_at.ensures in (
      λ h. cc,
      λ removed. absurd (never_removed m c.requires.form.form p c.args.read.0 read (λ to s place is. c.in_default.not-Get to place s (sym instr ∙ is)) removed),
    )
