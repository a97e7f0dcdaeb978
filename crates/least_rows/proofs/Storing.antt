-- A row that is stored, target by target.
use Rattle.std.proofs.Common.{◌≡◌, ℕ, ◌+◌, ◌<◌, ◌≤◌, Bool, true, false, ◌||◌, Some, List, [], ◌∷◌, length, refl, sym, ◌∙◌, subst, IsTrue, Contains, inl, inr, arith, true≢false}
use Rattle.std.specs.Prelude.{slice_get}
use Rattle.dfi_base.specs.Bits.{has}
use Rattle.least_rows.specs.declared.rules.Rule.{Rule}
use Rattle.least_rows.specs.declared.rules.System.{System}
use Rattle.least_rows.specs.Rules.{Table, row_of, row_has}
use Rattle.least_rows.specs.Derived.Derived.{stores}
use Rattle.least_rows.specs.tools.Growing.{IsGrown, IsWritten, IsApplied}
use Rattle.least_rows.proofs.Gathering.{lt_or}
use Rattle.least_rows.proofs.Least.{alike_long}
use Rattle.least_rows.proofs.Asking.{first_one, second_one}
use Rattle.least_rows.proofs.Writing.{written_above, waited_not, unread, written_grown, written_within, unmoved, further, none_both}

-- the targets before this one have what is stored, and a rule that does not wait reads what it read
pub record IsStoring (s : System) (targets from at : ℕ) (t : Table) (waiting : List Bool) (u : Table) (waking : List Bool) (changed : Bool) : Type 0 where
  pub grown : (but : ℕ) → IsGrown s but t waiting u waking changed
  pub same : changed ≡ false → waking ≡ waiting
  pub stored : (r k : ℕ) → r < at → IsTrue (row_has t targets r) → r < length t → IsTrue (row_has t from k) → IsTrue (row_has u r k)
  pub read : (i : ℕ) → slice_get s.rules i ≡ Some (Rule.Store targets from) → has waking i ≡ false
      → (row_of u targets ≡ row_of t targets) × (row_of u from ≡ row_of t from)

pub begun : (s : System) (targets from : ℕ) (t : Table) (waiting : List Bool) → IsStoring s targets from 0 t waiting t waiting false
begun s targets from t waiting = record {
  grown = λ but. unmoved s but t waiting;
  same = λ is. refl;
  stored = λ r k early. absurd (omega (arith, early));
  read = λ i at idle. (refl, refl);
}

-- where no target is left
pub ended : (s : System) (targets from at : ℕ) (t : Table) (waiting : List Bool) (u : Table) (waking : List Bool) (changed : Bool)
    → IsStoring s targets from at t waiting u waking changed → ((r : ℕ) → at ≤ r → r < length u → row_has u targets r ≡ false)
    → IsApplied s (Rule.Store targets from) t waiting u waking changed
ended s targets from at t waiting u waking changed is none = record {
  grown = is.grown;
  same = is.same;
  closed = λ i one idle r k asks.
      let read = is.read i one idle in
      elim (lt_or r at) [
        | inl early ↦ is.stored r k early (subst (λ l. IsTrue (has l r)) read.0 asks.1) (subst (λ n. r < n) (alike_long u t (is.grown 0).alike) asks.0)
            (subst (λ l. IsTrue (has l k)) read.1 asks.2)
        | inr late ↦ absurd (true≢false (sym asks.1 ∙ none r late asks.0))
      ];
}

pub turn : (s : System) (targets from at target : ℕ) (t u v : Table) (a b c : List Bool) (more : List Bool) (changed new : Bool)
    → Contains s.rules (Rule.Store targets from) → more ≡ row_of t from → target < length u → row_has u targets target ≡ true
    → length (row_of u target) ≡ length more → ((k : ℕ) → at ≤ k → k < target → row_has u targets k ≡ false)
    → IsStoring s targets from at t a u b changed → IsWritten s u b target more v c new
    → IsStoring s targets from (target + 1) t a v c (new || changed)
turn s targets from at target t u v a b c more changed new one stored within there long gap is w = record {
  grown = λ but. further s but t u v a b c changed new (is.grown but) (grown but);
  same = λ still. (let both = none_both changed new still in w.same both.0 ∙ is.same both.1);
  stored = by;
  read = λ i at' idle.
      let before = is.read i at' (waited_not s u b target more v c new within long w i idle) in (
        unread s u b target more v c new within long w i (Rule.Store targets from) at' idle targets (inl (first_one targets (from ∷ []))) ∙ before.0,
        unread s u b target more v c new within long w i (Rule.Store targets from) at' idle from (inl (second_one targets from [])) ∙ before.1,
      );
}
  where
    long_u : length u ≡ length t
    long_u = alike_long u t (is.grown 0).alike

    grown : (but : ℕ) → IsGrown s but u b v c new
    grown but = written_grown s u b target more v c new within long w but (λ start alike sound k had.
        stores targets from target k one (subst (λ n. target < n) (sym alike) within) (sound targets target there)
        (sound from k ((is.grown 0).above from k (subst (λ r. IsTrue (has r k)) stored had))))

    by : (r k : ℕ) → r < target + 1 → IsTrue (row_has t targets r) → r < length t → IsTrue (row_has t from k) → IsTrue (row_has v r k)
    by r k early wanted inside had = elim (lt_or r at) [
      | inl old ↦ written_above s u b target more v c new within long w r k (is.stored r k old wanted inside had)
      | inr late ↦ elim (lt_or r target) [
        | inl between ↦ absurd (true≢false (sym ((is.grown 0).above targets r wanted) ∙ gap r late between))
        | inr behind ↦
            let here : r ≡ target = omega (arith, behind, early) in
            subst (λ x. row_has v x k ≡ true) (sym here)
            (written_within s u b target more v c new within long w k (subst (λ l. IsTrue (has l k)) (sym stored) had))
      ]
    ]
