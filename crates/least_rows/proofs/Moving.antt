-- The members of a row, moved up, one at a time.
use Rattle.std.proofs.Common.{◌≡◌, ℕ, ◌+◌, ◌<◌, ◌≤◌, Bool, true, false, List, length, length-set, set, sym, ap, ◌∙◌, subst, IsTrue, inl, inr, ◌↔◌, arith, true≢false}
use Rattle.std.proofs.lemmas.Bool.{cases_eq}
use Rattle.dfi_base.specs.Bits.{has}
use Rattle.dfi_base.proofs.RowLaws.{has_put_same, has_put_other}
use Rattle.least_rows.specs.Rules.{Table, row_has, IsMoved}
use Rattle.least_rows.proofs.Gathering.{lt_or}

-- the members before this one, moved
abbrev pub MovedBelow : Table → Table → ℕ → ℕ → ℕ → ℕ → List Bool → Type 0
MovedBelow t masks from mask by at asked =
    (k : ℕ) → IsTrue (has asked k) ↔ ((k < length asked) × ((n : ℕ) × (n < at) × (k ≡ n + by) × IsTrue (row_has t from n) × IsTrue (row_has masks mask n)))

module _ (t masks : Table) (from mask by at n : ℕ) (asked : List Bool) (low : at ≤ n) (there : row_has t from n ≡ true)
    (none : (k : ℕ) → at ≤ k → k < n → row_has t from k ≡ false) (before : MovedBelow t masks from mask by at asked) where
  -- a member is found that may move and does not pass the end
  pub moved_more : row_has masks mask n ≡ true → n + by < length asked → MovedBelow t masks from mask by (n + 1) (set asked (n + by) true)
  moved_more passes within k = (to, back)
    where
      long : length (set asked (n + by) true) ≡ length asked
      long = length-set asked (n + by) true

      to : IsTrue (has (set asked (n + by) true) k)
          → (k < length (set asked (n + by) true)) × ((m : ℕ) × (m < n + 1) × (k ≡ m + by) × IsTrue (row_has t from m) × IsTrue (row_has masks mask m))
      to had = elim (cases_eq k (n + by)) [
        | inl same ↦ (omega (arith, same, within, long), (n, omega arith, same, there, passes))
        | inr apart ↦
            let old = (before k).0 (sym (has_put_other asked (n + by) k true apart) ∙ had) in
            (omega (arith, old.0, long), (old.1.0, omega (arith, old.1.1, low), old.1.2, old.1.3, old.1.4))
      ]

      back : ((k < length (set asked (n + by) true)) × ((m : ℕ) × (m < n + 1) × (k ≡ m + by) × IsTrue (row_has t from m) × IsTrue (row_has masks mask m)))
          → IsTrue (has (set asked (n + by) true) k)
      back one = elim (cases_eq k (n + by)) [
        | inl same ↦ ap (has (set asked (n + by) true)) same ∙ has_put_same asked (n + by) true within
        | inr apart ↦ has_put_other asked (n + by) k true apart ∙ (before k).1 (omega (arith, one.0, long), (one.1.0, earlier apart one, one.1.2, one.1.3, one.1.4))
      ]
        where
          earlier : (k ≡ n + by → ⊥)
              → (one : (k < length (set asked (n + by) true)) × ((m : ℕ) × (m < n + 1) × (k ≡ m + by) × IsTrue (row_has t from m) × IsTrue (row_has masks mask m)))
              → one.1.0 < at
          earlier apart one = elim (lt_or one.1.0 at) [
            | inl early ↦ early
            | inr late ↦ elim (lt_or one.1.0 n) [
              | inl gap ↦ absurd (true≢false (sym one.1.3 ∙ none one.1.0 late gap))
              | inr behind ↦ absurd (apart (let m : one.1.0 ≡ n = omega (arith, behind, one.1.1) in one.1.2 ∙ ap (λ x. x + by) m))
            ]
          ]

  -- one that may not move, or would pass the end
  pub moved_past : (row_has masks mask n ≡ true → length asked ≤ n + by) → MovedBelow t masks from mask by (n + 1) asked
  moved_past past k = (to, back)
    where
      to : IsTrue (has asked k) → (k < length asked) × ((m : ℕ) × (m < n + 1) × (k ≡ m + by) × IsTrue (row_has t from m) × IsTrue (row_has masks mask m))
      to had = (let old = (before k).0 had in (old.0, (old.1.0, omega (arith, old.1.1, low), old.1.2, old.1.3, old.1.4)))

      back : ((k < length asked) × ((m : ℕ) × (m < n + 1) × (k ≡ m + by) × IsTrue (row_has t from m) × IsTrue (row_has masks mask m))) → IsTrue (has asked k)
      back one = (before k).1 (one.0, (one.1.0, earlier, one.1.2, one.1.3, one.1.4))
        where
          earlier : one.1.0 < at
          earlier = elim (lt_or one.1.0 at) [
            | inl early ↦ early
            | inr late ↦ elim (lt_or one.1.0 n) [
              | inl gap ↦ absurd (true≢false (sym one.1.3 ∙ none one.1.0 late gap))
              | inr behind ↦
                  let m : one.1.0 ≡ n = omega (arith, behind, one.1.1) in
                  absurd (let far = past (subst (λ x. row_has masks mask x ≡ true) m one.1.4) in omega (arith, far, one.0, one.1.2, m))
            ]
          ]

-- nothing was found, or nothing is left
pub moved_none : (t masks : Table) (from mask by : ℕ) (asked : List Bool) → ((k : ℕ) → has asked k ≡ false) → MovedBelow t masks from mask by 0 asked
moved_none t masks from mask by asked none k = (λ had. absurd (true≢false (sym had ∙ none k)), λ one. absurd (omega (arith, one.1.1)))

pub moved_all : (t masks : Table) (from mask by at : ℕ) (asked : List Bool) → ((k : ℕ) → at ≤ k → row_has t from k ≡ false)
    → MovedBelow t masks from mask by at asked → (k : ℕ) → IsTrue (has asked k) ↔ ((k < length asked) × IsMoved t masks from mask by k)
moved_all t masks from mask by at asked none is k = (
  λ had. let one = (is k).0 had in (one.0, (one.1.0, one.1.2, one.1.3, one.1.4)),
  λ one. (is k).1 (one.0, (one.1.0, earlier one.1.0 one.1.2, one.1.1, one.1.2, one.1.3)),
)
  where
    earlier : (m : ℕ) → row_has t from m ≡ true → m < at
    earlier m there = elim (lt_or m at) [ inl early ↦ early | inr late ↦ absurd (true≢false (sym there ∙ none m late)) ]
