-- Totals of the first items are at most those of all.
use Rattle.std.proofs.Common.{◌≡◌, ℕ, zero, suc, ◌≤◌, Some, List, [], ◌∷◌, length, get_or, take, sym, subst, ◌∙◌, length-append, arith}
use Rattle.std.specs.Prelude.{slice_get, max, All}
use Rattle.std.specs.List.{flat_map}
use Rattle.std.proofs.lemmas.Option.{slice_get_within, slice_get-get_or}
use Rattle.tac_ir.specs.declared.code.Lined.{Lined}
use Rattle.tac_ir.specs.Counts.{past, temps_named, temps_in}

-- what holds of each element holds of one
pub one_of : {A : Type 0} (P : A → Type 0) (xs : List A) (i : ℕ) (x : A) → All P xs → slice_get xs i ≡ Some x → P x
one_of P xs i x all is =
    let within = slice_get_within xs i x is in
    let got : Some (get_or xs i x) ≡ Some x = sym (slice_get-get_or xs i x within) ∙ is in
    let same : get_or xs i x ≡ x = cc in
    subst P same (all i x within)

past_least : (least : ℕ) (ns : List ℕ) → least ≤ past least ns
past_least least [] = omega arith
past_least least (n ∷ ns) = omega (arith, past_least (max least (suc n)) ns)

temps_least : (least : ℕ) (code : List Lined) → least ≤ temps_in least code
temps_least least [] = omega arith
temps_least least (l ∷ rest) = omega (arith, past_least least (temps_named l.instr), temps_least (past least (temps_named l.instr)) rest)

pub temps_first : (least n : ℕ) (code : List Lined) → temps_in least (take n code) ≤ temps_in least code
temps_first least zero code = temps_least least code
temps_first least (suc n) [] = omega arith
temps_first least (suc n) (l ∷ rest) = temps_first (past least (temps_named l.instr)) n rest

pub flat_first : {A B : Type 0} (f : A → List B) (n : ℕ) (xs : List A) → length (flat_map f (take n xs)) ≤ length (flat_map f xs)
flat_first f zero xs = omega arith
flat_first f (suc n) [] = omega arith
flat_first f (suc n) (x ∷ xs) = omega (arith, flat_first f n xs, length-append (f x) (flat_map f (take n xs)), length-append (f x) (flat_map f xs))
