use Rattle.std.proofs.Common.{rules, ◌≡◌, ◌+◌, ◌≤◌, [], ◌++◌, get_or, false, length, drop, subst, sym, ap, ◌∙◌, length-append, arith}
use Rattle.std.specs.List.{All}
use Rattle.std.specs.String.{string_bytes}
use Rattle.std.proofs.lemmas.List.{take_all}
use Rattle.line_format.specs.Lines.{line, lines}
use Rattle.line_writer.specs.Writes.{Passes}
use Rattle.line_writer.proofs.Lining.{line_some, longer, fit_more}
use Rattle.text_law.specs.ModuleText.{beside, set_words}
use Rattle.text_law.specs.IsModule.{Are32Bits}
use Rattle.text_law.proofs.Basics.{each_of}
use Rattle.module_text.proofs.Marked.{set_more, none_left}
use Rattle.module_text.proofs.written.set_lines.Goals as goal

pub returns-in_err-within_limit-clause-long : goal.returns-in_err-within_limit-clause-long
returns-in_err-within_limit-clause-long c =
    let i = c.loop-at.at in
    let w = subst (λ z. string_bytes c.set.new.text ≡ string_bytes c.loop-at.text ++ line (set_words (get_or c.args.removed.now i false, z)) []) c.as_slice.ensures c.in_ok-set.ensures.text in
    let past : Passes (lines set_words (beside c.args.removed.now c.args.sets.now)) (string_bytes c.args.text.now) = λ rest.
    longer _ (lines set_words (beside (drop (i + 1) c.args.removed.now) (drop (i + 1) c.args.sets.now)) rest) _
    (set_more c.args.removed.now c.args.sets.now i false c.index-sets-at.result _ _ _ (omega (arith, c.loop-at-test.true, c.requires)) c.loop-at-test.true c.index-sets-at.is c.loop-at.invariant.0 w rest)
    (omega (arith, ap length c.deref.ensures, c.in_err-within_limit.ensures)) in
    search rules

pub loop-at-preserved : goal.loop-at-preserved
loop-at-preserved c =
    let i = c.loop-at.at in
    let words = set_words (get_or c.args.removed.now i false, c.index-sets-at.result) in
    let w : string_bytes c.set.new.text ≡ string_bytes c.loop-at.text ++ line words [] =
    subst (λ z. string_bytes c.set.new.text ≡ string_bytes c.loop-at.text ++ line (set_words (get_or c.args.removed.now i false, z)) []) c.as_slice.ensures c.in_ok-set.ensures.text in
    let more : i + 1 ≤ length (string_bytes c.set.new.text) = omega (arith, c.loop-at.invariant.2, ap length w, length-append (string_bytes c.loop-at.text) (line words []), line_some words []) in (
      set_more c.args.removed.now c.args.sets.now i false c.index-sets-at.result _ _ _ (omega (arith, c.loop-at-test.true, c.requires)) c.loop-at-test.true c.index-sets-at.is c.loop-at.invariant.0 w,
      fit_more Are32Bits c.args.sets.now i c.index-sets-at.result c.loop-at-test.true c.index-sets-at.is c.loop-at.invariant.1 (subst Are32Bits c.as_slice.ensures c.in_ok-set.ensures.fit),
      more,
      omega (arith, more, ap length c.deref.ensures, c.in_ok-within_limit.ensures),
    )

pub returns-clause-text : goal.returns-clause-text
returns-clause-text c = λ rest.
    ap (λ l. string_bytes c.loop-at.text ++ lines set_words l rest) (sym (none_left c.args.removed.now c.args.sets.now c.loop-at.at (omega (arith, c.loop-at-test.false, c.requires)))) ∙ c.loop-at.invariant.0 rest

pub returns-clause-fit : goal.returns-clause-fit
returns-clause-fit c = (
  omega (arith, c.loop-at.invariant.3, c.loop-at-test.false),
  each_of Are32Bits c.args.sets.now (subst (All Are32Bits) (take_all c.loop-at.at c.args.sets.now c.loop-at-test.false) c.loop-at.invariant.1),
)
