use Rattle.std.proofs.Common.{rules, ◌≡◌, sym, subst, arith}
use Rattle.std.proofs.lemmas.Grind.{common_steps}
use Rattle.line_format.specs.tools.Format.{read, done}
use Rattle.text_law.specs.tools.Whole.{whole}
use Rattle.module_text.proofs.Joining.{end_fails, whole_read, in_order}
use Rattle.module_text.proofs.modules.whole_module.Goals as goal

pub returns-in_err-word : goal.returns-in_err-word
returns-in_err-word c =
    let h = end_fails _ _ _ _ c.in_ok-size.ensures.answer c.in_err-word.ensures in
    first_of (search rules, grind (arith, common_steps))

pub with_findings-requires : goal.with_findings-requires
with_findings-requires c =
    let s = c.in_ok-size in
    in_order s.size s.code s.classes s.findings.removed s.findings.sets s.findings.points s.findings.reach _ _ _ s.ensures.answer c.in_ok-word.ensures s.ensures.even

pub returns : goal.returns
returns c =
    let s = c.in_ok-size in
    subst (λ m. read whole c.args.cursor.now ≡ done m c.word.new.cursor) (sym c.with_findings.ensures)
    (whole_read s.size s.code s.classes s.findings.removed s.findings.sets s.findings.points s.findings.reach _ _ _ s.ensures.answer c.in_ok-word.ensures s.ensures.even)
