-- Definitions of one class are in the same sets.
use Rattle.std.proofs.Common.{◌≡◌, ℕ, zero, suc, ◌+◌, ◌-◌, ◌<◌, ◌≤◌, inl, inr, Bool, true, false, cond, ◌||◌, Some, None, Option, List, [], ◌∷◌, map, refl, sym, ap, ◌∙◌, subst, arith}
use Rattle.std.specs.Prelude.{count_by, nat_eq, slice_get}
use Rattle.std.specs.Bool.{beq}
use Rattle.std.specs.List.{range_with_len}
use Rattle.std.proofs.lemmas.Bool.{cases_lt, eq-eqb, eqb-true, false≢true}
use Rattle.std.proofs.lemmas.Option.{slice_get_past}
use Rattle.tac_ir.specs.Answers.{class_of, has, set_of}
use Rattle.tac_ir.specs.Module.{Module}
use Rattle.tac_ir.specs.Numbers.{defs_in_code}
use Rattle.tac_ir.specs.Tables.{IsNumberOf}
use Rattle.flow_rules.specs.ClassOf.{ClassOf, are_alike, is_least}
use Rattle.flow_rules.specs.HasClasses.{HasClasses}
use Rattle.module_law.proofs.Ascending.{both}
use Rattle.def_classes.specs.Laws.{ClassesTellSets}
use Rattle.def_classes.specs.tools.Readers.{readers_of}
use Rattle.def_classes.proofs.Classing.{alike_by, numbers_more, same_readers}

or_second : (a b : Bool) → b ≡ true → (a || b) ≡ true
or_second true b e = refl
or_second false b e = e

the_same : (a b : Bool) → beq a b ≡ true → a ≡ b
the_same true true e = refl
the_same false false e = refl
the_same true false e = absurd (false≢true e)
the_same false true e = absurd (false≢true e)

-- the set at a place has both or neither
alike_at : (sets : List (List ℕ)) (d e r : ℕ) → are_alike sets d e ≡ true
    → has (elim (slice_get sets r) [ None ↦ [] | Some set ↦ set ]) d ≡ has (elim (slice_get sets r) [ None ↦ [] | Some set ↦ set ]) e
alike_at [] d e r h = refl
alike_at (set ∷ sets) d e zero h = the_same (has set d) (has set e) (both (beq (has set d) (has set e)) (are_alike sets d e) h).0
alike_at (set ∷ sets) d e (suc r) h = alike_at sets d e r (both (beq (has set d) (has set e)) (are_alike sets d e) h).1

alike_in : (m : Module) (d e r : ℕ) → are_alike m.sets d e ≡ true → has (set_of m r) d ≡ has (set_of m r) e
alike_in m d e zero h = refl
alike_in m d e (suc r) h = alike_at m.sets d e r h

module _ (sets : List (List ℕ)) where
  abbrev up_to : ℕ → ℕ
  up_to n = count_by (is_least sets) (range_with_len 1 n)

  more : (n k : ℕ) → up_to n ≤ up_to (k + n)
  more n zero = let same : n ≡ 0 + n = omega arith in subst (λ k. up_to n ≤ up_to k) same (omega arith)
  more n (suc k) =
      let next : suc (k + n) ≡ suc k + n = omega arith in
      let before = more n k in
      let here = numbers_more sets (k + n) in
      subst (λ i. up_to n ≤ up_to i) next (omega (arith, before, here))

  grows : (n least : ℕ) → n < suc least → is_least sets (suc least) ≡ true → up_to n < up_to (suc least)
  grows n least less first =
      let to : (least - n) + n ≡ least = omega (arith, less) in
      let before : up_to n ≤ up_to least = subst (λ k. up_to n ≤ up_to k) to (more n (least - n)) in
      let here : up_to (suc least) ≡ up_to least + 1 = numbers_more sets least ∙ ap (λ b. up_to least + cond b 1 0) first in
      omega (arith, before, here)

  no_less : (d e x : ℕ) (a : ClassOf sets d x) (b : ClassOf sets e x) → a.least < b.least → ⊥
  no_less d e x a b less =
      let low = b.low in
      let is : suc (b.least - 1) ≡ b.least = omega (arith, low) in
      let more = grows a.least (b.least - 1) (omega (arith, less)) (subst (λ k. is_least sets k ≡ true) (sym is) b.first) in
      let far : up_to (suc (b.least - 1)) ≡ up_to b.least = ap up_to is in
      omega (arith, more, far, a.number, b.number)

  one_least : (d e x : ℕ) (a : ClassOf sets d x) (b : ClassOf sets e x) → a.least ≡ b.least
  one_least d e x a b = elim (cases_lt a.least b.least) [
    | inl low ↦ absurd (no_less d e x a b low)
    | inr high ↦ elim (cases_lt b.least a.least) [ inl low ↦ absurd (no_less e d x b a low) | inr more ↦ omega (arith, high, more) ]
  ]

  from_one : (d x : ℕ) → ClassOf sets d x → 1 ≤ x
  from_one d x a =
      let low = a.low in
      let is : suc (a.least - 1) ≡ a.least = omega (arith, low) in
      let more = grows 0 (a.least - 1) (omega arith) (subst (λ k. is_least sets k ≡ true) (sym is) a.first) in
      let far : up_to (suc (a.least - 1)) ≡ up_to a.least = ap up_to is in
      omega (arith, more, far, a.number)

among : (f : ℕ → ℕ) (set : List ℕ) (d : ℕ) → has set d ≡ true → has (map f set) (f d) ≡ true
among f [] d h = absurd (false≢true h)
among f (x ∷ set) d h = by (among f set d) (nat_eq x d) refl h where
  by : (has set d ≡ true → has (map f set) (f d) ≡ true) → (b : Bool) → nat_eq x d ≡ b → (b || has set d) ≡ true → (nat_eq (f x) (f d) || has (map f set) (f d)) ≡ true
  by rest true is h = ap (λ b. b || has (map f set) (f d)) (eq-eqb (f x) (f d) (ap f (eqb-true x d is)))
  by rest false is h = or_second (nat_eq (f x) (f d)) (has (map f set) (f d)) (rest h)

-- a member with this value
record HasValue (f : ℕ → ℕ) (set : List ℕ) (k : ℕ) : Type 0 where
  pub member : ℕ
  pub there : has set member ≡ true
  pub value : f member ≡ k

valued : (f : ℕ → ℕ) (set : List ℕ) (k : ℕ) → has (map f set) k ≡ true → HasValue f set k
valued f [] k h = absurd (false≢true h)
valued f (x ∷ set) k h = by (valued f set k) (nat_eq (f x) k) refl h where
  by : (has (map f set) k ≡ true → HasValue f set k) → (b : Bool) → nat_eq (f x) k ≡ b → (b || has (map f set) k) ≡ true → HasValue f (x ∷ set) k
  by rest true is h = record { member = x; there = ap (λ b. b || has set x) (eq-eqb x x refl); value = eqb-true (f x) k is }
  by rest false is h = let found = rest h in record { member = found.member; there = or_second (nat_eq x found.member) (has set found.member) found.there; value = found.value }

module _ (m : Module) (classes : HasClasses m) where
  past : (e : ℕ) → defs_in_code m.code ≤ e → class_of m (suc e) ≡ 0
  past e far = ap (λ (o : Option ℕ). elim o [ None ↦ 0 | Some class ↦ class ]) (slice_get_past m.classes e (omega (arith, far, classes.count)))

  same_class : (e d : ℕ) → IsNumberOf m d → class_of m e ≡ class_of m d → are_alike m.sets d e ≡ true
  same_class zero d number same = let some = from_one m.sets d (class_of m d) (classes.each d number) in absurd (omega (arith, some, same))
  same_class (suc e) d number same = elim (cases_lt e (defs_in_code m.code)) [
    | inl less ↦ (
        let a = classes.each d number in
        let b : ClassOf m.sets (suc e) (class_of m d) = subst (ClassOf m.sets (suc e)) same (classes.each (suc e) (omega arith, omega (arith, less))) in
        let least = one_least m.sets d (suc e) (class_of m d) a b in
        alike_by m.sets d (suc e) (sym (same_readers m.sets a.least d a.alike) ∙ ap (readers_of m.sets) least ∙ same_readers m.sets b.least (suc e) b.alike)
        )
    | inr far ↦ (let some = from_one m.sets d (class_of m d) (classes.each d number) in absurd (omega (arith, some, same, past e far)))
  ]

  in_set : (r d : ℕ) → IsNumberOf m d → has (map (class_of m) (set_of m r)) (class_of m d) ≡ true → has (set_of m r) d ≡ true
  in_set r d number h =
      let found = valued (class_of m) (set_of m r) (class_of m d) h in
      alike_in m d found.member r (same_class found.member d number found.value) ∙ found.there

pub tell_sets : ClassesTellSets
tell_sets m classes r d number = (in_set m classes r d number, among (class_of m) (set_of m r) d)
