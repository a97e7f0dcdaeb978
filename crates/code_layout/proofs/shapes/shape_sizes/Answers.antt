use Rattle.std.proofs.Common.{◌≡◌, ◌++◌, ◌∷◌, [], ap, ◌∙◌, arith, reverse, slice_index, length}
use Rattle.std.specs.Prelude.{IsTrue}
use Rattle.tac_ir.specs.Layout.{words_by}
use Rattle.code_layout.specs.LaidOut.{are_sized}
use Rattle.code_layout.proofs.Sizes.{AreSizes-none, AreSizes-more, AreSizes-all, words_by-fits}
use Rattle.code_layout.proofs.shapes.shape_sizes.Goals as goal

pub loop-shape-init : goal.loop-shape-init
loop-shape-init c = rw c.new-sizes.ensures.items (AreSizes-none _)

pub words_of-words-requires : goal.words_of-words-requires
words_of-words-requires c =
    let sized : IsTrue (are_sized (reverse c.as_slice-shape-items.result.now)) = rw c.as_slice-shape-items.ensures c.requires.shapes in
    rw c.as_slice.ensures.value (words_by-fits _ _ _ _ sized c.loop-shape-test.true c.shape-item.is c.loop-shape.invariant)

pub loop-shape-preserved : goal.loop-shape-preserved
loop-shape-preserved c =
    let pushed : c.push.new.self.items ≡ c.loop-shape.sizes.items ++ words_by (slice_index c.loop-shape.sizes.items) c.shape-item.result ∷ [] = (c.in_ok-push.ensures).items ∙ ap (λ w. c.loop-shape.sizes.items ++ w ∷ []) (c.words_of-words.ensures ∙ ap (λ xs. words_by (slice_index xs) c.shape-item.result) c.as_slice.ensures.value) in
    rw pushed (AreSizes-more _ _ _ _ c.loop-shape-test.true c.shape-item.is c.loop-shape.invariant)

pub returns-clause-count : goal.returns-clause-count
returns-clause-count c = omega (arith, c.loop-shape.invariant.count, ap length c.as_slice-shape-items.ensures)

pub returns-clause-sizes : goal.returns-clause-sizes
returns-clause-sizes c =
    rw (← c.as_slice-shape-items.ensures) (AreSizes-all _ _ _ c.loop-shape-test.false c.loop-shape.invariant)
