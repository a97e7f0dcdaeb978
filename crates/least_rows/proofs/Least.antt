-- A solution lies within each closed table above the start. (Exported.)
use Rattle.std.proofs.Common.{zero, Bool, All, get_or, ◌≡◌, ℕ, suc, ◌+◌, ◌<◌, List, [], ◌∷◌, drop, arith, length, map, refl, sym, ap, ◌∙◌, subst, IsTrue, Contains}
use Rattle.std.proofs.lemmas.List.Elements.{All-contains}
use Rattle.least_rows.specs.declared.rules.Rule.{Rule}
use Rattle.least_rows.specs.declared.rules.System.{System}
use Rattle.least_rows.specs.Rules.{Table, row_has, IsClosed}
use Rattle.least_rows.specs.Derived.{Derived}
use Rattle.least_rows.specs.Derived.Derived.{given, owned, flows, shifts, meets, guards, stores, loads}
use Rattle.least_rows.specs.Solutions.{IsAlike, IsAbove, AreClosed, SolutionsAreLeast}

pub alike_long : (t u : Table) → IsAlike t u → length t ≡ length u
alike_long [] [] alike = refl
alike_long [] (y ∷ u) alike = absurd (omega (arith, ap length alike))
alike_long (x ∷ t) [] alike = absurd (omega (arith, ap length alike))
alike_long (x ∷ t) (y ∷ u) alike = ap suc (alike_long t u (ap (drop 1) alike))

head_same : (n m : ℕ) (ns ms : List ℕ) → n ∷ ns ≡ m ∷ ms → n ≡ m
head_same n m ns ms same = ap (λ l. get_or l 0 0) same

-- tables alike have rows of the same width
pub alike_even : (t u : Table) (width : ℕ) → IsAlike u t → All (λ row. length row ≡ width) t → All (λ row. length row ≡ width) u
alike_even t u width alike even k d within =
    let same : length u ≡ length t = alike_long u t alike in
    row_long u t k d d alike within ∙ even k d (omega (arith, within, same))
  where
    row_long : (u t : Table) (k : ℕ) (d e : List Bool) → IsAlike u t → k < length u → length (get_or u k d) ≡ length (get_or t k e)
    row_long [] t k d e alike within = absurd (omega (arith, within))
    row_long (x ∷ u) [] k d e alike within = absurd (omega (arith, ap length alike))
    row_long (x ∷ u) (y ∷ t) zero d e alike within = head_same (length x) (length y) (map length u) (map length t) alike
    row_long (x ∷ u) (y ∷ t) (suc k) d e alike within = row_long u t k d e (ap (drop 1) alike) (omega (arith, within))

module _ (s : System) (start u : Table) (long : length u ≡ length start) (above : IsAbove start u) (closed : AreClosed s u) where
  closed_at : (rule : Rule) → Contains s.rules rule → IsClosed s u rule
  closed_at rule one = All-contains (IsClosed s u) s.rules rule closed one

  pub derived_in : (r k : ℕ) → Derived s start r k → IsTrue (row_has u r k)
  derived_in _ _ (given r k is) = above r k is
  derived_in _ _ (owned r k one) = closed_at (Rule.Has r k) one r k (refl, refl)
  derived_in _ _ (flows from r k mask one is passes) = closed_at (Rule.Flow from mask r) one r k (refl, derived_in from k is, passes)
  derived_in _ _ (shifts from r mask by n one within is passes) =
      closed_at (Rule.Shift from mask by r) one r (n + by) (refl, within, (n, refl, derived_in from n is, passes))
  derived_in _ _ (meets first r k rest one all) = closed_at (Rule.Meet first rest r) one r k (refl, λ from among. derived_in from k (all from among))
  derived_in _ _ (guards test member from r k one there is) =
      closed_at (Rule.Guard test member from r) one r k (refl, derived_in test member there, derived_in from k is)
  derived_in _ _ (stores targets from r k one within there is) =
      closed_at (Rule.Store targets from) one r k (subst (λ n. r < n) (sym long) within, derived_in targets r there, derived_in from k is)
  derived_in _ _ (loads sources from r k one there is) =
      closed_at (Rule.Load sources r) one r k (refl, (from, derived_in sources from there, derived_in from k is))

pub least : SolutionsAreLeast
least s start t u is alike above closed r k had = derived_in s start u (alike_long u start alike) above closed r k (is.derived r k had)
