use Rattle.std.proofs.Common.{◌≡◌, ◌+◌, [], ◌∷◌, ◌++◌, take, ap, sym, subst, ◌∙◌}
use Rattle.std.proofs.lemmas.List.{take_more}
use Rattle.word_table.specs.tools.BitRows.{IsRow, AreRows}
use Rattle.word_table.proofs.BitRows.{rows_more}
use Rattle.word_table.proofs.rows.rows_of.Goals as goal

-- one more set has its row
pub loop-set-preserved : goal.loop-set-preserved
loop-set-preserved c =
    let m = c.args.m.now in
    let sets = c.args.sets.now in
    let i = c.loop-set.set-index in
    let item = c.set-item.result in
    let row = c.in_ok-row_of.field-0 in
    let is : IsRow m item row = subst (λ s. IsRow m s row) c.as_slice.ensures c.in_ok-row_of.ensures in
    let more : take (i + 1) sets ≡ take i sets ++ item ∷ [] = take_more sets i item c.loop-set-test.true ∙ ap (λ s. take i sets ++ s ∷ []) (sym c.set-item.is) in
    subst (λ l. AreRows m l c.push.new.self.items) (sym more)
    (subst (λ r. AreRows m (take i sets ++ item ∷ []) r) (sym c.in_ok-push.ensures.items)
    (rows_more m (take i sets) c.loop-set.rows.items item row c.loop-set.invariant is))
