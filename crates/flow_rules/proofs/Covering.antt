-- A search back from a read for an access that covers it.
use Rattle.std.proofs.Common.{◌≡◌, ℕ, ◌+◌, ◌<◌, ◌≤◌, Bool, true, false, refl, sym, ◌∙◌, subst, arith}
use Rattle.std.specs.Prelude.{nat_lt, nat_eq}
use Rattle.std.proofs.lemmas.Bool.{eqb-true, eq-eqb, ltb-true, ltb-false}
use Rattle.tac_ir.specs.declared.code.Place.{Place}
use Rattle.tac_ir.specs.Module.{Module}
use Rattle.tac_ir.specs.Layout.{lines_of, instr_at}
use Rattle.tac_ir.specs.declared.code.Instr.{Instr}
use Rattle.tac_ir.specs.Answers.{has, set_of}
use Rattle.std.specs.List.{list_all}
use Rattle.flow_rules.proofs.Members.{all_had, had_all}
use Rattle.flow_rules.specs.PointNumber.{point_at}
use Rattle.flow_rules.specs.Removed.{breaks, is_loud, is_named, Covers, IsCovered}

-- nothing from index `at` on ended the search
pub record IsOpen (m : Module) (f last r : ℕ) (place : Place) (at : ℕ) : Type 0 where
  pub within : at ≤ last
  pub named : (i : ℕ) → at < i → i ≤ last → is_named (lines_of m.code f) i ≡ false
  pub broken : (i : ℕ) → at ≤ i → i < last → breaks (instr_at m.code (point_at f i)) ≡ false
  pub quiet : (i : ℕ) → at ≤ i → i < last → is_loud (instr_at m.code (point_at f i)) ≡ false
  pub none : (i : ℕ) → at ≤ i → i < last → Covers m place r (instr_at m.code (point_at f i)) → ⊥

pub open_first : (m : Module) (f last r : ℕ) (place : Place) → IsOpen m f last r place last
open_first m f last r place = record {
  within = omega arith;
  named = λ i low high. absurd (omega (arith, low, high));
  broken = λ i low high. absurd (omega (arith, low, high));
  quiet = λ i low high. absurd (omega (arith, low, high));
  none = λ i low high. absurd (omega (arith, low, high));
}

-- where this holds of an index and from the one behind it on, it holds from the index on
from_on : (P : ℕ → Type 0) (at i : ℕ) → P at → (at < i → P i) → at ≤ i → P i
from_on P at i here later low = by (nat_eq at i) refl
  where
    by : (b : Bool) → nat_eq at i ≡ b → P i
    by true is = subst P (eqb-true at i is) here
    by false is = later (let other : at ≡ i → ⊥ = λ same. (let clash = sym is ∙ eq-eqb at i same in cc) in omega (arith, other, low))

pub open_next : (m : Module) (f last r : ℕ) (place : Place) (at : ℕ) → IsOpen m f last r place (at + 1) → is_named (lines_of m.code f) (at + 1) ≡ false
    → breaks (instr_at m.code (point_at f at)) ≡ false → is_loud (instr_at m.code (point_at f at)) ≡ false → (Covers m place r (instr_at m.code (point_at f at)) → ⊥) → IsOpen m f last r place at
open_next m f last r place at h named broken quiet none = record {
  within = (let within = h.within in omega (arith, within));
  named = λ i low high. from_on (λ n. n ≤ last → is_named (lines_of m.code f) n ≡ false) (at + 1) i (λ z. named) (λ less z. h.named i less z) (omega (arith, low)) high;
  broken = λ i low high. from_on (λ n. n < last → breaks (instr_at m.code (point_at f n)) ≡ false) at i (λ z. broken) (λ less z. h.broken i (omega (arith, less)) z) low high;
  quiet = λ i low high. from_on (λ n. n < last → is_loud (instr_at m.code (point_at f n)) ≡ false) at i (λ z. quiet) (λ less z. h.quiet i (omega (arith, less)) z) low high;
  none = λ i low high. from_on (λ n. n < last → Covers m place r (instr_at m.code (point_at f n)) → ⊥) at i (λ z. none) (λ less z. h.none i (omega (arith, less)) z) low high;
}

pub found : (m : Module) (f last r : ℕ) (place : Place) (at : ℕ) → IsOpen m f last r place (at + 1) → is_named (lines_of m.code f) (at + 1) ≡ false
    → breaks (instr_at m.code (point_at f at)) ≡ false → Covers m place r (instr_at m.code (point_at f at)) → IsCovered m f last r place
found m f last r place at h named broken covers = record {
  first = at;
  earlier = (let within = h.within in omega (arith, within));
  covers = covers;
  block = record {
    named = λ i low high. from_on (λ n. n ≤ last → is_named (lines_of m.code f) n ≡ false) (at + 1) i (λ z. named) (λ less z. h.named i less z) (omega (arith, low)) high;
    broken = λ i low high. from_on (λ n. n < last → breaks (instr_at m.code (point_at f n)) ≡ false) at i (λ z. broken) (λ less z. h.broken i (omega (arith, less)) z) low high;
  };
  quiet = λ i low high. h.quiet i (omega (arith, low)) high;
}

-- a cover stands before where the search is
pub before : (m : Module) (f last r : ℕ) (place : Place) (at : ℕ) → IsOpen m f last r place at → (cover : IsCovered m f last r place) → cover.first < at
before m f last r place at h cover = by (nat_lt cover.first at) refl
  where
    by : (b : Bool) → nat_lt cover.first at ≡ b → cover.first < at
    by true is = ltb-true cover.first at is
    by false is = absurd (h.none cover.first (let high = ltb-false cover.first at is in omega (arith, high)) cover.earlier cover.covers)

pub none_over_named : (m : Module) (f last r : ℕ) (place : Place) (at : ℕ) → IsOpen m f last r place (at + 1) → is_named (lines_of m.code f) (at + 1) ≡ true → IsCovered m f last r place → ⊥
none_over_named m f last r place at h named cover =
    let low = before m f last r place (at + 1) h cover in
    let within = h.within in
    let clash = cover.block.named (at + 1) low within in
    cc

pub none_over_break : (m : Module) (f last r : ℕ) (place : Place) (at : ℕ) → IsOpen m f last r place (at + 1) → breaks (instr_at m.code (point_at f at)) ≡ true → IsCovered m f last r place → ⊥
none_over_break m f last r place at h broken cover =
    let low = before m f last r place (at + 1) h cover in
    let within = h.within in
    let clash = cover.block.broken at (omega (arith, low)) (omega (arith, within)) in
    cc

pub none_over_loud : (m : Module) (f last r : ℕ) (place : Place) (at : ℕ) → IsOpen m f last r place (at + 1) → (Covers m place r (instr_at m.code (point_at f at)) → ⊥)
    → is_loud (instr_at m.code (point_at f at)) ≡ true → IsCovered m f last r place → ⊥
none_over_loud m f last r place at h none loud cover =
    let low = before m f last r place (at + 1) h cover in
    let within = h.within in
    let other : cover.first ≡ at → ⊥ = λ same. none (subst (λ n. Covers m place r (instr_at m.code (point_at f n))) same cover.covers) in
    let clash = cover.quiet at (omega (arith, low, other)) (omega (arith, within)) in
    cc

pub none_left : (m : Module) (f last r : ℕ) (place : Place) → IsOpen m f last r place 0 → IsCovered m f last r place → ⊥
none_left m f last r place h cover = (let low = before m f last r place 0 h cover in absurd (omega (arith, low)))

-- What a `get` leaves is in the set of the read where its own set is within that one.
pub covers_get : (m : Module) (place other : Place) (r s to : ℕ) (all : Bool) → all ≡ list_all (has (set_of m r)) (set_of m s) → other ≡ place
    → (all ≡ true → Covers m place r (Instr.Get to other s)) × (Covers m place r (Instr.Get to other s) → all ≡ true)
covers_get m place other r s to all is same =
    (λ h. (same, λ d there. all_had (set_of m r) (set_of m s) (sym is ∙ h) d there), λ covers. is ∙ had_all (set_of m r) (set_of m s) covers.1)
