-- What holds of all that is derived, if each rule keeps it. (Exported.)
use Rattle.std.proofs.Common.{ℕ, ◌+◌, ◌<◌, ◌∷◌, length, IsTrue, Contains, All}
use Rattle.std.proofs.lemmas.List.Elements.{All-contains}
use Rattle.least_rows.specs.declared.rules.Rule.{Rule}
use Rattle.least_rows.specs.declared.rules.System.{System}
use Rattle.least_rows.specs.Rules.{Table, row_has, Passes}
use Rattle.least_rows.specs.Derived.{Derived}
use Rattle.least_rows.specs.Derived.Derived.{given, owned, flows, shifts, meets, guards, stores, loads}

-- a relation of rows and members is kept by a rule, in a table of so many rows
abbrev pub Keeps : System → ℕ → (ℕ → ℕ → Type 0) → Rule → Type 0
Keeps s rows holds (Rule.Has row member) = holds row member
Keeps s rows holds (Rule.Flow from mask to) = (k : ℕ) → holds from k → Passes s.masks mask k → holds to k
Keeps s rows holds (Rule.Shift from mask by to) = (n : ℕ) → n + by < s.width → holds from n → IsTrue (row_has s.masks mask n) → holds to (n + by)
Keeps s rows holds (Rule.Meet first rest to) = (k : ℕ) → ((from : ℕ) → Contains (first ∷ rest) from → holds from k) → holds to k
Keeps s rows holds (Rule.Guard test member from to) = (k : ℕ) → holds test member → holds from k → holds to k
Keeps s rows holds (Rule.Store targets from) = (r k : ℕ) → r < rows → holds targets r → holds from k → holds r k
Keeps s rows holds (Rule.Load sources to) = (from k : ℕ) → holds sources from → holds from k → holds to k

module _ (s : System) (start : Table) (holds : ℕ → ℕ → Type 0) (given_holds : (r k : ℕ) → IsTrue (row_has start r k) → holds r k)
    (kept : All (Keeps s (length start) holds) s.rules) where
  kept_by : (rule : Rule) → Contains s.rules rule → Keeps s (length start) holds rule
  kept_by rule one = All-contains (Keeps s (length start) holds) s.rules rule kept one

  pub all_kept : (r k : ℕ) → Derived s start r k → holds r k
  all_kept _ _ (given r k is) = given_holds r k is
  all_kept _ _ (owned r k one) = kept_by (Rule.Has r k) one
  all_kept _ _ (flows from r k mask one is passes) = kept_by (Rule.Flow from mask r) one k (all_kept from k is) passes
  all_kept _ _ (shifts from r mask by n one within is passes) = kept_by (Rule.Shift from mask by r) one n within (all_kept from n is) passes
  all_kept _ _ (meets first r k rest one all) = kept_by (Rule.Meet first rest r) one k (λ from among. all_kept from k (all from among))
  all_kept _ _ (guards test member from r k one there is) = kept_by (Rule.Guard test member from r) one k (all_kept test member there) (all_kept from k is)
  all_kept _ _ (stores targets from r k one within there is) = kept_by (Rule.Store targets from) one r k within (all_kept targets r there) (all_kept from k is)
  all_kept _ _ (loads sources from r k one there is) = kept_by (Rule.Load sources r) one from k (all_kept sources from there) (all_kept from k is)
