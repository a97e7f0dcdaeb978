-- Rules that ask one row.
use Rattle.std.proofs.Common.{◌≡◌, ℕ, ◌<◌, Bool, true, false, Option, List, [], ◌∷◌, length, set, replicate, refl, sym, ap, ◌∙◌, subst, IsTrue, Contains, All, ◌↔◌, inl, inr, true≢false}
use Rattle.std.proofs.lemmas.Bool.{cases_eq}
use Rattle.std.proofs.lemmas.List.Elements.{All-get_or}
use Rattle.dfi_base.specs.Bits.{has}
use Rattle.dfi_base.proofs.RowLaws.{no_bits, has_put_same, has_put_other}
use Rattle.least_rows.specs.declared.rules.Rule.{Rule}
use Rattle.least_rows.specs.declared.rules.System.{System}
use Rattle.least_rows.specs.Rules.{Table, row_of, row_has, Passes, IsMoved, IsLoaded}
use Rattle.least_rows.specs.tools.Growing.{IsWritten, IsApplied}
use Rattle.least_rows.proofs.Writing.{written_applied}

pub wide_row : (t : Table) (to width : ℕ) (more : List Bool) → to < length t → All (λ row. length row ≡ width) t → length more ≡ width
    → length (row_of t to) ≡ length more
wide_row t to width more within even long = All-get_or (λ r. length r ≡ width) t to [] within even ∙ sym long

-- a row with one member
pub single : (width member : ℕ) (k : ℕ) → member < width → length (replicate width false) ≡ width
    → IsTrue (has (set (replicate width false) member true) k) ↔ (k ≡ member)
single width member k within long = (
  λ is. elim (cases_eq k member) [
    | inl same ↦ same
    | inr apart ↦ absurd (true≢false (sym is ∙ has_put_other (replicate width false) member k true apart ∙ no_bits width k))
  ],
  λ same. ap (has (set (replicate width false) member true)) same ∙ has_put_same (replicate width false) member true (subst (λ n. member < n) (sym long) within),
)

module _ (s : System) (t : Table) (waiting : List Bool) (to width : ℕ) (more : List Bool) (u : Table) (waking : List Bool) (changed : Bool) (within : to < length t)
    (even : All (λ row. length row ≡ width) t) (long : length more ≡ width) (w : IsWritten s t waiting to more u waking changed) where
  pub has_applied : (member : ℕ) → Contains s.rules (Rule.Has to member) → ((k : ℕ) → IsTrue (has more k) ↔ (k ≡ member))
      → IsApplied s (Rule.Has to member) t waiting u waking changed
  has_applied member one is =
      written_applied s t waiting to more u waking changed within (wide_row t to width more within even long) w (Rule.Has to member) one
      (λ k had. (refl, (is k).0 had)) (λ r k asks. (asks.0, (is k).1 asks.1))

  pub flow_applied : (from : ℕ) (mask : Option ℕ) → Contains s.rules (Rule.Flow from mask to)
      → ((k : ℕ) → IsTrue (has more k) ↔ (IsTrue (row_has t from k) × Passes s.masks mask k)) → IsApplied s (Rule.Flow from mask to) t waiting u waking changed
  flow_applied from mask one is =
      written_applied s t waiting to more u waking changed within (wide_row t to width more within even long) w (Rule.Flow from mask to) one
      (λ k had. (refl, ((is k).0 had).0, ((is k).0 had).1)) (λ r k asks. (asks.0, (is k).1 (asks.1, asks.2)))

  pub shift_applied : (from mask by : ℕ) → Contains s.rules (Rule.Shift from mask by to)
      → ((k : ℕ) → IsTrue (has more k) ↔ ((k < s.width) × IsMoved t s.masks from mask by k)) → IsApplied s (Rule.Shift from mask by to) t waiting u waking changed
  shift_applied from mask by one is =
      written_applied s t waiting to more u waking changed within (wide_row t to width more within even long) w (Rule.Shift from mask by to) one
      (λ k had. let had' = (is k).0 had in (refl, had'.0, had'.1)) (λ r k asks. (asks.0, (is k).1 (asks.1, asks.2)))

  pub meet_applied : (first : ℕ) (rest : List ℕ) → Contains s.rules (Rule.Meet first rest to)
      → ((k : ℕ) → IsTrue (has more k) ↔ ((from : ℕ) → Contains (first ∷ rest) from → IsTrue (row_has t from k)))
      → IsApplied s (Rule.Meet first rest to) t waiting u waking changed
  meet_applied first rest one is =
      written_applied s t waiting to more u waking changed within (wide_row t to width more within even long) w (Rule.Meet first rest to) one
      (λ k had. (refl, (is k).0 had)) (λ r k asks. (asks.0, (is k).1 asks.1))

  pub load_applied : (sources : ℕ) → Contains s.rules (Rule.Load sources to) → ((k : ℕ) → IsTrue (has more k) ↔ IsLoaded t sources k)
      → IsApplied s (Rule.Load sources to) t waiting u waking changed
  load_applied sources one is =
      written_applied s t waiting to more u waking changed within (wide_row t to width more within even long) w (Rule.Load sources to) one
      (λ k had. (refl, (is k).0 had)) (λ r k asks. (asks.0, (is k).1 asks.1))
