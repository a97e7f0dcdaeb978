-- Bytes are refused at one place, and are then no list.
use Rattle.std.proofs.Common.{◌≡◌, ◌≤◌, ◌<◌, ◌+◌, ◌-◌, ℕ, zero, suc, List, ◌++◌, take, drop, length, Option, Some, None, ◌⊎◌, inl, inr, sym, subst, ap, ◌∙◌, arith, refl}
use Rattle.std.specs.Prelude.{IsTrue, is_some}
use Rattle.std.proofs.lemmas.List.{append_assoc, take-append-drop}
use Rattle.std.proofs.Math.Seq.{take-add}
use Rattle.number_lists.specs.Laws.{HasOneAnswer}
use Rattle.number_lists.specs.Lists.{list_of, Continues, IsRefusedAt}

-- fewer bytes begin a list too
shorter : {A : Type 0} (number : List ℕ → Option A) (bytes : List ℕ) (a b : ℕ) → a ≤ b → Continues number (take b bytes) → Continues number (take a bytes)
shorter number bytes a b le on = (
  take (b - a) (drop a bytes) ++ on.0,
  subst (λ xs. IsTrue (is_some (list_of number xs))) (ap (λ xs. xs ++ on.0) split ∙ append_assoc (take a bytes) (take (b - a) (drop a bytes)) on.0) on.1,
)
  where
    split : take b bytes ≡ take a bytes ++ take (b - a) (drop a bytes)
    split = let whole : b ≡ a + (b - a) = omega (arith, le) in ap (λ n. take n bytes) whole ∙ take-add a (b - a) bytes

-- so do those of a list
begins : {A : Type 0} (number : List ℕ → Option A) (bytes : List ℕ) (a : ℕ) (numbers : List A) → list_of number bytes ≡ Some numbers → Continues number (take a bytes)
begins number bytes a numbers e = (drop a bytes, subst (λ o. IsTrue (is_some o)) (sym (ap (list_of number) (take-append-drop a bytes) ∙ e)) refl)

within : {A : Type 0} (number : List ℕ → Option A) (bytes : List ℕ) (at : ℕ) → IsRefusedAt number bytes at → at ≤ length bytes
within number bytes at refused = elim refused.here [ inl here ↦ (let below = here.0 in omega (arith, below)) | inr end ↦ (let e = end.0 in omega (arith, e)) ]

none_before : {A : Type 0} (number : List ℕ → Option A) (bytes : List ℕ) (a b : ℕ) → IsRefusedAt number bytes a → IsRefusedAt number bytes b → a < b → ⊥
none_before number bytes a b first second less =
    elim first.here [
      | inl here ↦ here.1 (shorter number bytes (suc a) b (omega (arith, less)) second.before)
      | inr end ↦ (let e = end.0 in let most = within number bytes b second in omega (arith, e, most, less))
    ]

in_order : (a b : ℕ) → (a < b) ⊎ ((a ≡ b) ⊎ (b < a))
in_order zero zero = inr (inl refl)
in_order zero (suc b) = inl (omega arith)
in_order (suc a) zero = inr (inr (omega arith))
in_order (suc a) (suc b) = elim (in_order a b) [ inl less ↦ inl (omega (arith, less)) | inr (inl e) ↦ inr (inl (ap suc e)) | inr (inr more) ↦ inr (inr (omega (arith, more))) ]

one_place : {A : Type 0} (number : List ℕ → Option A) (bytes : List ℕ) (a b : ℕ) → IsRefusedAt number bytes a → IsRefusedAt number bytes b → a ≡ b
one_place number bytes a b first second =
    elim (in_order a b) [
      | inl less ↦ absurd (none_before number bytes a b first second less)
      | inr (inl e) ↦ e
      | inr (inr more) ↦ absurd (none_before number bytes b a second first more)
    ]

no_list : {A : Type 0} (number : List ℕ → Option A) (bytes : List ℕ) (at : ℕ) → IsRefusedAt number bytes at → (o : Option (List A)) → list_of number bytes ≡ o → o ≡ None
no_list number bytes at refused None e = refl
no_list number bytes at refused (Some numbers) e =
    elim refused.here [ inl here ↦ absurd (here.1 (begins number bytes (suc at) numbers e)) | inr end ↦ sym e ∙ end.1 ]

pub one_answer : {A : Type 0} (number : List ℕ → Option A) → HasOneAnswer number
one_answer number bytes at refused = (λ other again. one_place number bytes at other refused again, no_list number bytes at refused (list_of number bytes) refl)
