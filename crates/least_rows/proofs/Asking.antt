-- What rules ask for in a table and in a greater one. (Exported.)
use Rattle.std.proofs.Common.{◌≡◌, ℕ, ◌<◌, List, [], ◌∷◌, length, refl, sym, subst, IsTrue, Contains, inl, inr, arith}
use Rattle.dfi_base.specs.Bits.{has}
use Rattle.least_rows.specs.declared.rules.Rule.{Rule}
use Rattle.least_rows.specs.declared.rules.System.{System}
use Rattle.least_rows.specs.Rules.{Table, row_of, row_has, Asks, IsClosed}
use Rattle.least_rows.specs.Derived.{Derived}
use Rattle.least_rows.specs.Derived.Derived.{owned, flows, shifts, meets, guards, stores, loads}
use Rattle.least_rows.specs.Solutions.{IsAbove}
use Rattle.least_rows.specs.tools.Reads.{LoadsFrom, Reads}

pub first_one : (x : ℕ) (xs : List ℕ) → Contains (x ∷ xs) x
first_one x xs = (0, omega arith, refl)

pub second_one : (x y : ℕ) (xs : List ℕ) → Contains (x ∷ y ∷ xs) y
second_one x y xs = (1, omega arith, refl)

-- what is asked of a table that has only what is derived is derived
pub asked_derived : (s : System) (start t : Table) (rule : Rule) → Contains s.rules rule → length start ≡ length t
    → ((r k : ℕ) → IsTrue (row_has t r k) → Derived s start r k) → (r k : ℕ) → Asks s t rule r k → Derived s start r k
asked_derived s start t (Rule.Has row member) one long sound r k asks =
    subst (λ x. Derived s start x k) (sym asks.0) (subst (λ x. Derived s start row x) (sym asks.1) (owned row member one))
asked_derived s start t (Rule.Flow from mask to) one long sound r k asks =
    subst (λ x. Derived s start x k) (sym asks.0) (flows from to k mask one (sound from k asks.1) asks.2)
asked_derived s start t (Rule.Shift from mask by to) one long sound r k asks =
    let n = asks.2.0 in
    subst (λ x. Derived s start x k) (sym asks.0) (subst (λ x. Derived s start to x) (sym asks.2.1)
    (shifts from to mask by n one (subst (λ x. x < s.width) asks.2.1 asks.1) (sound from n asks.2.2) asks.2.3))
asked_derived s start t (Rule.Meet first rest to) one long sound r k asks =
    subst (λ x. Derived s start x k) (sym asks.0) (meets first to k rest one (λ from among. sound from k (asks.1 from among)))
asked_derived s start t (Rule.Guard test member from to) one long sound r k asks =
    subst (λ x. Derived s start x k) (sym asks.0) (guards test member from to k one (sound test member asks.1) (sound from k asks.2))
asked_derived s start t (Rule.Store targets from) one long sound r k asks =
    stores targets from r k one (subst (λ n. r < n) (sym long) asks.0) (sound targets r asks.1) (sound from k asks.2)
asked_derived s start t (Rule.Load sources to) one long sound r k asks =
    subst (λ x. Derived s start x k) (sym asks.0) (loads sources asks.1.0 to k one (sound sources asks.1.0 asks.1.1) (sound asks.1.0 k asks.1.2))

-- what is asked where the rows that the rule reads are as before was asked before
pub same_asks : (s : System) (t u : Table) (rule : Rule) → length u ≡ length t → ((x : ℕ) → Reads t rule x → row_of u x ≡ row_of t x)
    → (r k : ℕ) → Asks s u rule r k → Asks s t rule r k
same_asks s t u rule long same r k asks = by rule same asks
  where
    back : (x m : ℕ) → row_of u x ≡ row_of t x → IsTrue (row_has u x m) → IsTrue (row_has t x m)
    back x m is had = subst (λ l. IsTrue (has l m)) is had

    by : (rule : Rule) → ((x : ℕ) → Reads t rule x → row_of u x ≡ row_of t x) → Asks s u rule r k → Asks s t rule r k
    by (Rule.Has row member) same asks = asks
    by (Rule.Flow from mask to) same asks = (asks.0, back from k (same from (inl (first_one from []))) asks.1, asks.2)
    by (Rule.Shift from mask far to) same asks =
        (asks.0, asks.1, (asks.2.0, asks.2.1, back from asks.2.0 (same from (inl (first_one from []))) asks.2.2, asks.2.3))
    by (Rule.Meet first rest to) same asks = (asks.0, λ from among. back from k (same from (inl among)) (asks.1 from among))
    by (Rule.Guard test member from to) same asks = (
      asks.0,
      back test member (same test (inl (first_one test (from ∷ [])))) asks.1,
      back from k (same from (inl (second_one test from []))) asks.2,
    )
    by (Rule.Store targets from) same asks = (
      subst (λ n. r < n) long asks.0,
      back targets r (same targets (inl (first_one targets (from ∷ [])))) asks.1,
      back from k (same from (inl (second_one targets from []))) asks.2,
    )
    by (Rule.Load sources to) same asks =
        let source = back sources asks.1.0 (same sources (inl (first_one sources []))) asks.1.1 in
        (asks.0, (asks.1.0, source, back asks.1.0 k (same asks.1.0 (inr source)) asks.1.2))

pub still_closed : (s : System) (t u : Table) (rule : Rule) → length u ≡ length t → IsAbove t u → ((x : ℕ) → Reads t rule x → row_of u x ≡ row_of t x)
    → IsClosed s t rule → IsClosed s u rule
still_closed s t u rule long above same closed r k asks = above r k (closed r k (same_asks s t u rule long same r k asks))

-- a rule reads no less of a greater table
pub reads_more : (t u : Table) (rule : Rule) → IsAbove t u → (x : ℕ) → Reads t rule x → Reads u rule x
reads_more t u rule above x (inl one) = inl one
reads_more t u rule above x (inr through) = inr (by rule through)
  where
    by : (rule : Rule) → LoadsFrom t rule x → LoadsFrom u rule x
    by (Rule.Has row member) none = absurd none
    by (Rule.Flow from mask to) none = absurd none
    by (Rule.Shift from mask far to) none = absurd none
    by (Rule.Meet first rest to) none = absurd none
    by (Rule.Guard test member from to) none = absurd none
    by (Rule.Store targets from) none = absurd none
    by (Rule.Load sources to) had = above sources x had
