use Rattle.std.proofs.Common.{[], ◌∷◌, ◌++◌, ◌∙◌, ap, sym}
use Rattle.test_threads.specs.Deep.{nested}
use Rattle.test_threads.proofs.DeepForm.{deeper}
use Rattle.test_threads.proofs.deep.nested.Goals as goal

pub loop-i-preserved : goal.loop-i-preserved
loop-i-preserved c =
    c.in_ok-push.ensures.items ∙ ap (λ xs. xs ++ c.in_ok-outer.outer ∷ []) c.loop-i.invariant ∙ ap (λ s. nested c.args.nesting c.loop-i.i ++ s ∷ []) c.in_ok-outer.ensures
    ∙ sym (deeper c.args.nesting c.loop-i.i)
