use Rattle.std.proofs.Common.{◌≡◌, ◌↔◌, ℕ, ◌+◌, ◌<◌, [], ◌∷◌, ◌++◌, length, sym, ap, ◌∙◌, subst, arith}
use Rattle.std.proofs.lemmas.List.{length-append}
use Rattle.std.specs.Prelude.{IsTrue}
use Rattle.tac_ir.specs.Module.{Module}
use Rattle.flow_rules.specs.Removed.{Removed}
use Rattle.check_elide.proofs.ReadNumbers.{few_reads}
use Rattle.check_elide.proofs.Unchecked.{Marked, marked_more}
use Rattle.check_elide.proofs.marks.Goals as goal

pub overflow_cast-read : goal.overflow_cast-read
overflow_cast-read c = omega (arith, few_reads c.args.md.now.code c.requires.form.form, c.requires.form.sets, c.loop-read-test.true, c.len-read-end.ensures, ap (λ (m : Module). length m.sets) c.md.view_is)

pub overflow_add-read : goal.overflow_add-read
overflow_add-read c = omega (arith, few_reads c.args.md.now.code c.requires.form.form, c.requires.form.sets, c.loop-read-test.true, c.len-read-end.ensures, ap (λ (m : Module). length m.sets) c.md.view_is)

pub loop-read-preserved : goal.loop-read-preserved
loop-read-preserved c =
    let m = c.args.md.now in
    let old = c.loop-read.removed in
    let one = c.elided.result in
    let pushed : c.push.new.self ≡ old ++ one ∷ [] = c.in_ok-push.ensures.ok in
    let more = marked_more m old one c.loop-read.read c.loop-read.invariant.0 c.loop-read.invariant.1 (subst (λ n. IsTrue one ↔ Removed m n) (omega arith) c.elided.ensures) in
    (ap length pushed ∙ length-append old (one ∷ []) ∙ ap (λ n. n + 1) c.loop-read.invariant.0, subst (λ xs. (i : ℕ) → i < length xs → Marked m xs i) (sym pushed) more)
