use Rattle.std.proofs.Common.{◌≡◌, length, take, take_all, get_or, refl, sym, ◌∙◌, subst, All}
use Rattle.std.proofs.lemmas.List.{take_more}
use Rattle.std.proofs.lemmas.List.Elements.{All-push}
use Rattle.least_rows.proofs.fitting.are_wide.Goals as goal

pub loop-row-preserved : goal.loop-row-preserved
loop-row-preserved c =
    let items = c.args.rows.now in
    let i = c.loop-row.row-index in
    let d = c.row-item.result in
    subst (All (λ row. length row ≡ c.args.width)) (sym (take_more items i d c.loop-row-test.true))
    (All-push (λ row. length row ≡ c.args.width) (take i items) (get_or items i d) c.loop-row.invariant (subst (λ row. length row ≡ c.args.width) c.row-item.is (sym c.len.ensures ∙ c.if-len-width.false)))

pub returns : goal.returns
returns c = (
  λ is. subst (All (λ row. length row ≡ c.args.width)) (take_all c.loop-row.row-index c.args.rows.now c.loop-row-test.false) c.loop-row.invariant,
  λ all. refl,
)
