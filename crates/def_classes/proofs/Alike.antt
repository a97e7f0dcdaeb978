-- Two definitions are in the same sets just where they have the same readers.
use Rattle.std.proofs.Common.{◌≡◌, ℕ, suc, ◌<◌, Bool, true, false, ◌&&◌, List, [], ◌∷◌, refl, sym, ap, ◌∙◌, arith}
use Rattle.std.specs.Bool.{beq}
use Rattle.std.proofs.lemmas.Bool.{eq-eqb, ne_eqb}
use Rattle.std.proofs.lemmas.Cmp.{nat_list_eq_equiv}
use Rattle.tac_ir.specs.Answers.{has}
use Rattle.flow_rules.specs.ClassOf.{are_alike}
use Rattle.def_classes.specs.tools.Readers.{readers_from, readers_of, same_list}

-- the readers from a place on, where the first set is told by a truth value
abbrev begun : Bool → ℕ → List ℕ → List ℕ
begun b r xs = elim b as (λ b. List ℕ) [ true ↦ r ∷ xs | false ↦ xs ]

-- no list that begins with an earlier read is one of later readers
earlier_left : (r s : ℕ) (xs : List ℕ) (sets : List (List ℕ)) (d : ℕ) → r < s → same_list (r ∷ xs) (readers_from s sets d) ≡ false
earlier_left r s xs [] d less = refl
earlier_left r s xs (set ∷ sets) d less =
    let later = earlier_left r (suc s) xs sets d (omega (arith, less)) in
    elim (has set d) as (λ b. same_list (r ∷ xs) (begun b s (readers_from (suc s) sets d)) ≡ false) [
      | true ↦ ap (λ b. b && same_list xs (readers_from (suc s) sets d)) (ne_eqb r s (λ e. omega (arith, less, e)))
      | false ↦ later
    ]

turned : (xs ys : List ℕ) → same_list xs ys ≡ same_list ys xs
turned xs ys = nat_list_eq_equiv.symm xs ys

pub alike_from : (r : ℕ) (sets : List (List ℕ)) (d e : ℕ) → are_alike sets d e ≡ same_list (readers_from r sets d) (readers_from r sets e)
alike_from r [] d e = refl
alike_from r (set ∷ sets) d e = by (alike_from (suc r) sets d e) (has set d) (has set e) where
  by : are_alike sets d e ≡ same_list (readers_from (suc r) sets d) (readers_from (suc r) sets e) → (a b : Bool) → (beq a b && are_alike sets d e) ≡ same_list (begun a r (readers_from (suc r) sets d)) (begun b r (readers_from (suc r) sets e))
  by later true true = later ∙ sym (ap (λ b. b && same_list (readers_from (suc r) sets d) (readers_from (suc r) sets e)) (eq-eqb r r refl))
  by later true false = sym (earlier_left r (suc r) (readers_from (suc r) sets d) sets e (omega arith))
  by later false true = sym (turned (readers_from (suc r) sets d) (r ∷ readers_from (suc r) sets e) ∙ earlier_left r (suc r) (readers_from (suc r) sets e) sets d (omega arith))
  by later false false = later

pub alike_readers : (sets : List (List ℕ)) (d e : ℕ) → are_alike sets d e ≡ same_list (readers_of sets d) (readers_of sets e)
alike_readers sets d e = alike_from 1 sets d e
