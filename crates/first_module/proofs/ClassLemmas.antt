-- The classes of definitions part them by their readers.
use Rattle.std.proofs.Common.{◌≡◌, ℕ, zero, suc, ◌+◌, ◌<◌, ◌≤◌, true, false, ◌||◌, List, [], ◌∷◌, length, map, Option, Some, None, inl, inr, refl, sym, ap, subst, ◌∙◌, arith}
use Rattle.std.specs.Prelude.{slice_get}
use Rattle.std.specs.List.{AllByRecursion, list_any, range_with_len}
use Rattle.std.specs.Cmp.Lexicographic.{bytes_decides}
use Rattle.std.proofs.lemmas.Bool.{cases_lt, eq-eqb, false≢true, ne_eqb, or_from, or_left}
use Rattle.std.proofs.lemmas.List.{get_or-map, length-map}
use Rattle.std.proofs.lemmas.List.Elements.{All-from_recursion}
use Rattle.std.proofs.lemmas.List.FromFn.{get_or-map-range_with_len, length-map-range_with_len}
use Rattle.std.proofs.lemmas.Option.{slice_get-get_or, slice_get_past}
use Rattle.tac_ir.specs.Answers.{class_of, has, set_of}
use Rattle.tac_ir.specs.Module.{Module}
use Rattle.first_module.specs.ClassesOf.{classes_of, readers_from, readers_of, same_list}
use Rattle.first_module.specs.EachOnce.{each_once, place_of}
use Rattle.first_module.specs.tools.Readers.{Ascends}
use Rattle.first_module.proofs.AscendLemmas.{has-within}
use Rattle.first_module.proofs.NumberLemmas.{same_itself}
use Rattle.first_module.proofs.OnceLemmas.{each_once-has, same_place}

-- the set of a read, counted from 0
abbrev pub set_at : List (List ℕ) → ℕ → List ℕ
set_at sets k = elim (slice_get sets k) [ None ↦ [] | Some set ↦ set ]

-- no read is a reader before its time
readers-above : (r k : ℕ) (sets : List (List ℕ)) (d : ℕ) → k < r → has (readers_from r sets d) k ≡ false
readers-above r k [] d h = refl
readers-above r k (x ∷ sets) d h =
    let later = readers-above (suc r) k sets d (omega arith) in
    elim (has x d) as (λ b. has (elim b as (λ b. List ℕ) [ true ↦ r ∷ readers_from (suc r) sets d | false ↦ readers_from (suc r) sets d ]) k ≡ false) [
      | true ↦ or_from _ _ (ne_eqb r k (λ e. omega arith)) later
      | false ↦ later
    ]

-- a read is a reader of a definition just where its set has it
readers_from-has : (r k : ℕ) (sets : List (List ℕ)) (d : ℕ) → has (readers_from r sets d) (r + k) ≡ has (set_at sets k) d
readers_from-has r k [] d = refl
readers_from-has r zero (x ∷ sets) d =
    let none = readers-above (suc r) (r + 0) sets d (omega arith) in
    let same : r ≡ r + 0 = omega arith in
    elim (has x d) as (λ b. has (elim b as (λ b. List ℕ) [ true ↦ r ∷ readers_from (suc r) sets d | false ↦ readers_from (suc r) sets d ]) (r + 0) ≡ b) [
      | true ↦ or_left _ _ (eq-eqb r (r + 0) same)
      | false ↦ none
    ]
readers_from-has r (suc k) (x ∷ sets) d =
    let same : suc r + k ≡ r + suc k = omega arith in
    let later : has (readers_from (suc r) sets d) (r + suc k) ≡ has (set_at sets k) d = ap (has (readers_from (suc r) sets d)) (sym same) ∙ readers_from-has (suc r) k sets d in
    elim (has x d) as (λ b. has (elim b as (λ b. List ℕ) [ true ↦ r ∷ readers_from (suc r) sets d | false ↦ readers_from (suc r) sets d ]) (r + suc k) ≡ has (set_at sets k) d) [
      | true ↦ ap (λ b. b || has (readers_from (suc r) sets d) (r + suc k)) (ne_eqb r (r + suc k) (λ e. omega arith)) ∙ later
      | false ↦ later
    ]

-- the set of a read ascends
set_at-ascends : (high : ℕ) (sets : List (List ℕ)) (k : ℕ) → AllByRecursion (Ascends 1 high) sets → Ascends 1 high (set_at sets k)
set_at-ascends high [] k h = tt
set_at-ascends high (x ∷ sets) zero h = h.0
set_at-ascends high (x ∷ sets) (suc k) h = set_at-ascends high sets k h.1

abbrev rows_of : List (List ℕ) → ℕ → List (List ℕ)
rows_of sets n = map (readers_of sets) (range_with_len 1 n)

-- the class at a place
abbrev class_at : List ℕ → ℕ → ℕ
class_at classes k = elim (slice_get classes k) [ None ↦ 0 | Some class ↦ class ]

-- the number of a row
abbrev number_of : List (List ℕ) → ℕ → ℕ → ℕ
number_of sets n k = suc (place_of same_list (each_once same_list (rows_of sets n)) (readers_of sets (suc k)))

class-within : (sets : List (List ℕ)) (n k : ℕ) → k < n → class_at (classes_of sets n) k ≡ number_of sets n k
class-within sets n k below =
    let number : List ℕ → ℕ = λ row. suc (place_of same_list (each_once same_list (rows_of sets n)) row) in
    let long : length (rows_of sets n) ≡ n = length-map-range_with_len (readers_of sets) 1 n in
    let inside : k < length (rows_of sets n) = omega arith in
    let more : k < length (classes_of sets n) = omega (arith, length-map (rows_of sets n) number) in
    ap (λ (o : Option ℕ). elim o [ None ↦ 0 | Some class ↦ class ]) (slice_get-get_or (classes_of sets n) k 0 more)
    ∙ get_or-map number (rows_of sets n) k [] 0 inside
    ∙ ap number (get_or-map-range_with_len (readers_of sets) 1 n k (suc k) [] below (omega arith))

class-past : (sets : List (List ℕ)) (n k : ℕ) → n ≤ k → class_at (classes_of sets n) k ≡ 0
class-past sets n k above =
    let number : List ℕ → ℕ = λ row. suc (place_of same_list (each_once same_list (rows_of sets n)) row) in
    let long : length (rows_of sets n) ≡ n = length-map-range_with_len (readers_of sets) 1 n in
    let past : length (classes_of sets n) ≤ k = omega (arith, length-map (rows_of sets n) number) in
    ap (λ (o : Option ℕ). elim o [ None ↦ 0 | Some class ↦ class ]) (slice_get_past (classes_of sets n) k past)

-- the row of a definition is among the rows, each once
row-member : (sets : List (List ℕ)) (n k : ℕ) → k < n → list_any (same_list (readers_of sets (suc k))) (each_once same_list (rows_of sets n)) ≡ true
row-member sets n k below =
    let long : length (rows_of sets n) ≡ n = length-map-range_with_len (readers_of sets) 1 n in
    let P : List ℕ → Type 0 = λ row. list_any (same_list row) (each_once same_list (rows_of sets n)) ≡ true in
    let at = All-from_recursion P (rows_of sets n) (each_once-has same_list same_itself (rows_of sets n)) k [] (omega arith) in
    subst P (get_or-map-range_with_len (readers_of sets) 1 n k (suc k) [] below (omega arith)) at

same-readers : (sets : List (List ℕ)) (n j k : ℕ) → j < n → k < n → number_of sets n j ≡ number_of sets n k → readers_of sets (suc j) ≡ readers_of sets (suc k)
same-readers sets n j k in_j in_k same =
    same_place same_list (λ x y h. (bytes_decides x y).0 h) (each_once same_list (rows_of sets n)) (readers_of sets (suc j)) (readers_of sets (suc k))
    (row-member sets n j in_j) (row-member sets n k in_k) (omega arith)

-- of two definitions of one class, a set has both or none
pub classes-apart : (sets : List (List ℕ)) (n k j e : ℕ) → e < n → has (set_at sets k) (suc e) ≡ true → class_at (classes_of sets n) j ≡ class_at (classes_of sets n) e → has (set_at sets k) (suc j) ≡ true
classes-apart sets n k j e in_e member same =
    elim (cases_lt j n) [
      | inl in_j ↦
          let numbers : number_of sets n j ≡ number_of sets n e = sym (class-within sets n j in_j) ∙ same ∙ class-within sets n e in_e in
          sym (readers_from-has 1 k sets (suc j)) ∙ ap (λ readers. has readers (1 + k)) (same-readers sets n j e in_j in_e numbers) ∙ readers_from-has 1 k sets (suc e) ∙ member
      | inr past ↦
          let none : 0 ≡ number_of sets n e = sym (class-past sets n j past) ∙ same ∙ class-within sets n e in_e in
          absurd (omega arith)
    ]

module _ (m : Module) (n : ℕ) (classes : m.classes ≡ classes_of m.sets n) (ascend : AllByRecursion (Ascends 1 (suc n)) m.sets) where
  same_class : (r d e : ℕ) → (1 ≤ e) × (e < suc n) → has (set_at m.sets r) e ≡ true → class_of m d ≡ class_of m e → has (set_at m.sets r) d ≡ true
  same_class r d zero within member same = absurd (omega arith)
  same_class r zero (suc e) within member same =
      let number : class_at m.classes e ≡ number_of m.sets n e = ap (λ c. class_at c e) classes ∙ class-within m.sets n e (omega arith) in
      absurd (omega arith)
  same_class r (suc d) (suc e) within member same =
      classes-apart m.sets n r d e (omega arith) member (ap (λ c. class_at c d) (sym classes) ∙ same ∙ ap (λ c. class_at c e) classes)

  -- two definitions of one class are in the same sets
  pub apart_at : (r d e : ℕ) → has (set_of m r) e ≡ true → class_of m d ≡ class_of m e → has (set_of m r) d ≡ true
  apart_at zero d e member same = absurd (false≢true member)
  apart_at (suc r) d e member same = same_class r d e (has-within 1 (suc n) (set_at m.sets r) e (set_at-ascends (suc n) m.sets r ascend) member) member same
