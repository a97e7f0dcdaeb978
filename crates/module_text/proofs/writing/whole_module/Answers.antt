use Rattle.std.proofs.Common.{rules, ◌≡◌, IfErr, Err, sym, subst}
use Rattle.std.specs.String.{string_bytes}
use Rattle.line_writer.specs.declared.fault.WriteFault.TheVariants.{Long}
use Rattle.line_writer.specs.Writes.{Passes}
use Rattle.text_law.specs.ModuleText.{text_then}
use Rattle.module_text.proofs.Behind.{classes_pass, points_pass, reach_pass}
use Rattle.module_text.proofs.writing.whole_module.Goals as goal

pub returns-in_err-classes-clause-long : goal.returns-in_err-classes-clause-long
returns-in_err-classes-clause-long c =
    let past : c.in_err-classes.field-0.0 ≡ Long → Passes (text_then c.args.m.now) (string_bytes c.args.text.now) = λ e.
    subst (λ m. Passes (text_then m) (string_bytes c.args.text.now)) c.m.view_is
    (classes_pass _ _ _ _ c.in_ok-first_line.ensures c.in_ok-code.ensures.text _ c.as_slice.ensures (c.in_err-classes.ensures.long e)) in
    let is : c.from_residual-in_err-classes.result ≡ Err c.in_err-classes.field-0.0 = search rules in
    subst (λ r. IfErr r (λ fault. fault ≡ Long → Passes (text_then c.args.m.now) (string_bytes c.args.text.now))) (sym is) past

pub returns-in_err-points-clause-long : goal.returns-in_err-points-clause-long
returns-in_err-points-clause-long c =
    let past : c.in_err-points.field-0.0 ≡ Long → Passes (text_then c.args.m.now) (string_bytes c.args.text.now) = λ e.
    subst (λ m. Passes (text_then m) (string_bytes c.args.text.now)) c.m.view_is
    (points_pass _ _ _ _ c.in_ok-first_line.ensures c.in_ok-code.ensures.text _ c.as_slice.ensures _ c.as_slice-2.ensures _ c.as_slice-3.ensures _ _ c.in_ok-classes.ensures.text c.in_ok-sets.ensures.text _ c.as_slice-4.ensures (c.in_err-points.ensures.long e)) in
    let is : c.from_residual-in_err-points.result ≡ Err c.in_err-points.field-0.0 = search rules in
    subst (λ r. IfErr r (λ fault. fault ≡ Long → Passes (text_then c.args.m.now) (string_bytes c.args.text.now))) (sym is) past

pub returns-in_err-reach-clause-long : goal.returns-in_err-reach-clause-long
returns-in_err-reach-clause-long c =
    let past : c.in_err-reach.field-0.0 ≡ Long → Passes (text_then c.args.m.now) (string_bytes c.args.text.now) = λ e.
    subst (λ m. Passes (text_then m) (string_bytes c.args.text.now)) c.m.view_is
    (reach_pass _ _ _ _ c.in_ok-first_line.ensures c.in_ok-code.ensures.text _ c.as_slice.ensures _ c.as_slice-2.ensures _ c.as_slice-3.ensures _ _ c.in_ok-classes.ensures.text c.in_ok-sets.ensures.text _ c.as_slice-4.ensures _ c.in_ok-points.ensures.text _ c.as_slice-5.ensures (c.in_err-reach.ensures.long e)) in
    let is : c.from_residual-in_err-reach.result ≡ Err c.in_err-reach.field-0.0 = search rules in
    subst (λ r. IfErr r (λ fault. fault ≡ Long → Passes (text_then c.args.m.now) (string_bytes c.args.text.now))) (sym is) past
