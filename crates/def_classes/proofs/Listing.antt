-- Lists of the numbers that have a property grow by one number after the other.
use Rattle.std.proofs.Common.{◌≡◌, ℕ, suc, ◌≤◌, inl, inr, true, false, List, [], ◌∷◌, ◌++◌, get_or, refl, sym, ap, ◌∙◌, subst, arith}
use Rattle.std.proofs.lemmas.Bool.{cases_lt, eq-eqb, eqb-true, false≢true, or_cases, or_left, or_right}
use Rattle.tac_ir.specs.Answers.{has}
use Rattle.def_classes.specs.tools.Listed.{AreListsOf, IsListOf}
use Rattle.def_classes.specs.tools.Readers.{Ascends}
use Rattle.std.proofs.Math.Seq.{get_or-append_seam}
use Rattle.std.proofs.lemmas.List.{get_or_append_left, length_push}
use Rattle.def_classes.proofs.InOrder.{has-append}

ascends-push : (low n : ℕ) (xs : List ℕ) → low ≤ suc n → Ascends low (suc n) xs → Ascends low (suc (suc n)) (xs ++ suc n ∷ [])
ascends-push low n [] le h = (le, omega arith, tt)
ascends-push low n (x ∷ xs) le h =
    let below = h.1 in
    (h.0, omega (arith, below), ascends-push (suc x) n xs (omega (arith, below)) h.2)

ascends-wide : (low n : ℕ) (xs : List ℕ) → Ascends low (suc n) xs → Ascends low (suc (suc n)) xs
ascends-wide low n [] h = tt
ascends-wide low n (x ∷ xs) h = let below = h.1 in (h.0, omega (arith, below), ascends-wide (suc x) n xs h.2)

module _ (P : ℕ → Type 0) where
  pub list_none : IsListOf P 0 []
  list_none = record { order = tt; each = λ d. (λ h. absurd (false≢true h), λ h. (let low = h.0 in let high = h.1 in absurd (omega (arith, low, high)))) }

  pub list_push : (n : ℕ) (list : List ℕ) → IsListOf P n list → P (suc n) → IsListOf P (suc n) (list ++ suc n ∷ [])
  list_push n list old here = record {
    order = ascends-push 1 n list (omega arith) old.order;
    each = λ d. (to d, from d);
  }
    where
      to : (d : ℕ) → has (list ++ suc n ∷ []) d ≡ true → (1 ≤ d) × (d ≤ suc n) × P d
      to d h = elim (or_cases _ _ (sym (has-append list (suc n ∷ []) d) ∙ h)) [
        | inl there ↦ (let was = (old.each d).0 there in let high = was.1 in (was.0, omega (arith, high), was.2))
        | inr last ↦ elim (or_cases _ _ last) [
          | inl is ↦ (let same : suc n ≡ d = eqb-true (suc n) d is in (omega (arith, same), omega (arith, same), subst P same here))
          | inr none ↦ absurd (false≢true none)
        ]
      ]

      from : (d : ℕ) → (1 ≤ d) × (d ≤ suc n) × P d → has (list ++ suc n ∷ []) d ≡ true
      from d h =
          let high = h.1 in
          has-append list (suc n ∷ []) d ∙ elim (cases_lt n d) [
            | inl more ↦ or_right (has list d) _ (or_left _ false (eq-eqb (suc n) d (omega (arith, more, high))))
            | inr less ↦ or_left _ (has (suc n ∷ []) d) ((old.each d).1 (h.0, omega (arith, less), h.2))
          ]

  pub list_skip : (n : ℕ) (list : List ℕ) → IsListOf P n list → (P (suc n) → ⊥) → IsListOf P (suc n) list
  list_skip n list old none = record {
    order = ascends-wide 1 n list old.order;
    each = λ d. (
      λ h. (let was = (old.each d).0 h in let high = was.1 in (was.0, omega (arith, high), was.2)),
      λ h. elim (cases_lt n d) [
        | inl more ↦ (let high = h.1 in let same : d ≡ suc n = omega (arith, more, high) in absurd (none (subst P same h.2)))
        | inr less ↦ (old.each d).1 (h.0, omega (arith, less), h.2)
      ],
    );
  }

module _ (P : ℕ → ℕ → Type 0) (n : ℕ) where
  pub lists_none : AreListsOf P 0 n []
  lists_none = record { count_is = refl; lists_are = λ k less. absurd (omega (arith, less)) }

  pub lists_push : (count : ℕ) (lists : List (List ℕ)) (list : List ℕ) → AreListsOf P count n lists → IsListOf (P (suc count)) n list → AreListsOf P (suc count) n (lists ++ list ∷ [])
  lists_push count lists list old here = record {
    count_is = omega (arith, old.count_is, length_push lists list);
    lists_are = λ k less. elim (cases_lt k count) [
      | inl before ↦ subst (IsListOf (P (suc k)) n) (sym (get_or_append_left lists (list ∷ []) [] k (omega (arith, before, old.count_is)))) (old.lists_are k before)
      | inr last ↦ (
          let is : count ≡ k = omega (arith, last, less) in
          let seam : get_or (lists ++ list ∷ []) k [] ≡ list =
          ap (λ i. get_or (lists ++ list ∷ []) i []) (sym is ∙ sym old.count_is) ∙ get_or-append_seam lists list [] [] in
          subst (λ k. IsListOf (P (suc k)) n (get_or (lists ++ list ∷ []) k [])) is (subst (IsListOf (P (suc count)) n) (sym (ap (λ i. get_or (lists ++ list ∷ []) i []) is ∙ seam)) here)
          )
    ];
  }
