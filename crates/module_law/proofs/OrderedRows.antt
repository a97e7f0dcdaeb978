-- Rows that are not empty, in the order of their keys: they are those of their table.
use Rattle.std.proofs.Common.{◌≡◌, ℕ, ◌⊎◌, inl, inr, Bool, true, false, nat_lt, List, [], ◌∷◌, refl, sym, ap, ◌∙◌, subst}
use Rattle.std.specs.List.{list_all}
use Rattle.tac_ir.specs.Answers.{has}
use Rattle.tac_ir.specs.Module.{has_members, is_chain, is_row}
use Rattle.module_law.proofs.Ascending.{both, has_first, not_both, same_lists}

module _ {R K : Type 0} (key : R → K) (items : R → List ℕ) (whole : (r s : R) → key r ≡ key s → items r ≡ items s → r ≡ s)
    (before same : K → K → Bool) (is_same : (a b : K) → same a b ≡ true → a ≡ b) (itself : (a : K) → same a a ≡ true)
    (after : (a b c : K) → before a b ≡ true → before b c ≡ true → before a c ≡ true)
    (apart : (a b : K) → before a b ≡ true → (same a b ≡ false) × (same b a ≡ false))
    (total : (a b : K) → (before a b ≡ true) ⊎ (a ≡ b) ⊎ (before b a ≡ true)) where
  -- the items of a key
  abbrev pub find : List R → K → List ℕ
  find [] k = []
  find (r ∷ rows) k = elim (same (key r) k) [ true ↦ items r | false ↦ find rows k ]

  in_order : R → R → Bool
  in_order r s = before (key r) (key s)

  pub record AreInOrder (rows : List R) : Type 0 where
    pub members : list_all (λ r. is_row (items r)) rows ≡ true
    pub order : is_chain (λ r s. before (key r) (key s)) rows ≡ true

  rest_of : (r : R) (rows : List R) → AreInOrder (r ∷ rows) → AreInOrder rows
  rest_of r [] are = record { members = refl; order = refl }
  rest_of r (s ∷ rows) are = record {
    members = (both (is_row (items r)) (list_all (λ r. is_row (items r)) (s ∷ rows)) are.members).1;
    order = (both (before (key r) (key s)) (is_chain (λ r s. before (key r) (key s)) (s ∷ rows)) are.order).1;
  }

  first_row : (r : R) (rows : List R) → AreInOrder (r ∷ rows) → is_row (items r) ≡ true
  first_row r rows are = (both (is_row (items r)) (list_all (λ r. is_row (items r)) rows) are.members).0

  -- a key before the first has no row
  none_below : (k : K) (r : R) (rows : List R) → AreInOrder (r ∷ rows) → before k (key r) ≡ true → find (r ∷ rows) k ≡ []
  none_below k r [] are low = ap (λ b. elim b as (λ z. List ℕ) [ true ↦ items r | false ↦ [] ]) (apart k (key r) low).1
  none_below k r (s ∷ rows) are low =
      let next = (both (before (key r) (key s)) (is_chain (λ r s. before (key r) (key s)) (s ∷ rows)) are.order).0 in
      ap (λ b. elim b as (λ z. List ℕ) [ true ↦ items r | false ↦ find (s ∷ rows) k ]) (apart k (key r) low).1 ∙ none_below k s rows (rest_of r (s ∷ rows) are) (after k (key r) (key s) low next)

  found_first : (r : R) (rows : List R) → find (r ∷ rows) (key r) ≡ items r
  found_first r rows = ap (λ b. elim b as (λ z. List ℕ) [ true ↦ items r | false ↦ find rows (key r) ]) (itself (key r))

  some_member : (xs : List ℕ) → is_row xs ≡ true → ((d : ℕ) → has xs d ≡ has [] d) → ⊥
  some_member [] row same = not_both row
  some_member (x ∷ xs) row same = not_both (sym (same x) ∙ has_first x xs)

  -- where the first key of one is before that of the other, the tables differ
  differ : (r s : R) (rows others : List R) → AreInOrder (r ∷ rows) → AreInOrder (s ∷ others) → ((k : K) (d : ℕ) → has (find (r ∷ rows) k) d ≡ has (find (s ∷ others) k) d) → before (key r) (key s) ≡ true → ⊥
  differ r s rows others one two alike low =
      some_member (items r) (first_row r rows one) (λ d. ap (λ xs. has xs d) (sym (found_first r rows)) ∙ alike (key r) d ∙ ap (λ xs. has xs d) (none_below (key r) s others two low))

  row_chain : (xs : List ℕ) → is_row xs ≡ true → is_chain nat_lt xs ≡ true
  row_chain xs row = (both (has_members xs) (is_chain nat_lt xs) row).1

  -- behind the first row, its key has none
  none_behind : (r : R) (rows : List R) → AreInOrder (r ∷ rows) → find rows (key r) ≡ []
  none_behind r [] are = refl
  none_behind r (s ∷ rows) are = none_below (key r) s rows (rest_of r (s ∷ rows) are) (both (before (key r) (key s)) (is_chain (λ r s. before (key r) (key s)) (s ∷ rows)) are.order).0

  pub same_rows : (rows others : List R) → AreInOrder rows → AreInOrder others → ((k : K) (d : ℕ) → has (find rows k) d ≡ has (find others k) d) → rows ≡ others
  same_rows [] [] one two alike = refl
  same_rows [] (s ∷ others) one two alike =
      absurd (some_member (items s) (first_row s others two) (λ d. ap (λ xs. has xs d) (sym (found_first s others)) ∙ sym (alike (key s) d)))
  same_rows (r ∷ rows) [] one two alike =
      absurd (some_member (items r) (first_row r rows one) (λ d. ap (λ xs. has xs d) (sym (found_first r rows)) ∙ alike (key r) d))
  same_rows (r ∷ rows) (s ∷ others) one two alike = elim (total (key r) (key s)) [
    | inl low ↦ absurd (differ r s rows others one two alike low)
    | inr (inl is) ↦ equal is (λ rest. same_rows rows others (rest_of r rows one) (rest_of s others two) rest)
    | inr (inr high) ↦ absurd (differ s r others rows two one (λ k d. sym (alike k d)) high)
  ]
    where
      equal : key r ≡ key s → (((k : K) (d : ℕ) → has (find rows k) d ≡ has (find others k) d) → rows ≡ others) → (r ∷ rows) ≡ (s ∷ others)
      equal is behind =
          let members : items r ≡ items s = same_lists (items r) (items s) (row_chain (items r) (first_row r rows one)) (row_chain (items s) (first_row s others two))
          (λ d. ap (λ xs. has xs d) (sym (found_first r rows)) ∙ alike (key r) d ∙ ap (λ k. has (find (s ∷ others) k) d) is ∙ ap (λ xs. has xs d) (found_first s others)) in
          let first = whole r s is members in
          let rest = behind (λ k d. by (same (key r) k) k d refl is) in
          λ i. first i ∷ rest i
        where
          by : (b : Bool) (k : K) (d : ℕ) → same (key r) k ≡ b → key r ≡ key s → has (find rows k) d ≡ has (find others k) d
          by true k d at is =
              let here : key r ≡ k = is_same (key r) k at in
              let one_none : find rows k ≡ [] = subst (λ z. find rows z ≡ []) here (none_behind r rows one) in
              let two_none : find others k ≡ [] = subst (λ z. find others z ≡ []) (sym is ∙ here) (none_behind s others two) in
              ap (λ xs. has xs d) one_none ∙ sym (ap (λ xs. has xs d) two_none)
          by false k d at is =
              let other : same (key s) k ≡ false = subst (λ z. same z k ≡ false) is at in
              ap (λ b. has (elim b as (λ z. List ℕ) [ true ↦ items r | false ↦ find rows k ]) d) (sym at) ∙ alike k d ∙ ap (λ b. has (elim b as (λ z. List ℕ) [ true ↦ items s | false ↦ find others k ]) d) other
