-- The ends of paths of fields.
use Rattle.std.proofs.Common.{◌≡◌, ℕ, ◌+◌, ◌<◌, List, ◌∷◌, length, slice_index, drop, refl, sym, ap, ◌∙◌, Option, Some, None, drop-cons, add-one}
use Rattle.std.specs.Prelude.{slice_get}
use Rattle.std.proofs.lemmas.Option.{get_or_from_slice_get}
use Rattle.tac_ir.specs.declared.code.Code.{Code}
use Rattle.tac_ir.specs.Layout.{parts_of}
use Rattle.tac_ir.specs.Places.{end_of_path}

-- the end is that of the rest of the path, from the part at which the next field leads
pub end_step : (c : Code) (here : ℕ) (path : List ℕ) (i e : ℕ) → i < length path → end_of_path c here (drop i path) ≡ Some e
    → end_of_path c (slice_index (parts_of c here) (slice_index path i)) (drop (i + 1) path) ≡ end_of_path c here (drop i path)
end_step c here path i e inside is =
    let next : drop i path ≡ slice_index path i ∷ drop (i + 1) path = rw add-one (drop-cons path i 0 inside) in
    by (slice_get (parts_of c here) (slice_index path i)) refl (ap (end_of_path c here) (sym next) ∙ is) ∙ ap (end_of_path c here) (sym next)
  where
    by : (o : Option ℕ) → slice_get (parts_of c here) (slice_index path i) ≡ o → elim o as (λ z. Option ℕ) [ None ↦ None | Some part ↦ end_of_path c part (drop (i + 1) path) ] ≡ Some e
        → end_of_path c (slice_index (parts_of c here) (slice_index path i)) (drop (i + 1) path) ≡ end_of_path c here (slice_index path i ∷ drop (i + 1) path)
    by None found leads = absurd (let no : None ≡ Some e = leads in cc)
    by (Some part) found leads =
        ap (λ p. end_of_path c p (drop (i + 1) path)) (get_or_from_slice_get (parts_of c here) (slice_index path i) part 0 found)
        ∙ sym (ap (λ o. elim o as (λ z. Option ℕ) [ None ↦ None | Some part ↦ end_of_path c part (drop (i + 1) path) ]) found)
