use Rattle.std.proofs.Common.{ℕ, ◌∙◌, ap, Some, None}
use Rattle.std.specs.Prelude.{slice_get}
use Rattle.tac_ir.specs.Layout.{shape_words}
use Rattle.flat_core.proofs.store.Store.item_words.Goals as goal

pub returns-in-Some : goal.returns-in-Some
returns-in-Some c = λ laid.
    c.shape_words.ensures c.args.m.now.code laid
    ∙ ap (λ o. elim o as (λ x. ℕ) [ None ↦ 0 | Some x ↦ shape_words c.args.m.now.code x.shape ]) (c.in-Some.ensures.value ∙ ap (λ m. slice_get m.code.sites c.args.site) c.m.view_is)
