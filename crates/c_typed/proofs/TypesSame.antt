-- Lists of lengths of different numbers are not the same.
use Rattle.std.proofs.Common.{◌≡◌, ℕ, zero, suc, ◌<◌, ◌≤◌, Bool, true, false, List, [], ◌∷◌, length, drop, slice_index_or, refl, ap, sym, ◌∙◌, arith}
use Rattle.std.specs.Prelude.{nat_eq, ◌&&◌}
use Rattle.std.proofs.lemmas.List.{drop_all}
use Rattle.std.proofs.lemmas.Bool.{eq-eqb}
use Rattle.std.proofs.lemmas.Bool.Decides.{nat_tests}
use Rattle.c_typed.specs.Types.{same_lengths}

pub and_false : (b : Bool) → (b && false) ≡ false
and_false b = elim b as (λ b. (b && false) ≡ false) [ true ↦ refl | false ↦ refl ]

pub unlike : (xs ys : List ℕ) → (length xs ≡ length ys → ⊥) → false ≡ same_lengths xs ys
unlike [] [] differ = absurd (differ refl)
unlike [] (y ∷ ys) differ = refl
unlike (x ∷ xs) [] differ = refl
unlike (x ∷ xs) (y ∷ ys) differ =
    let rest = unlike xs ys (λ e. differ (ap suc e)) in
    sym (ap (λ b. nat_eq x y && b) (sym rest) ∙ and_false (nat_eq x y))

pub step : (i : ℕ) (xs ys : List ℕ) → i < length xs → i < length ys
    → same_lengths (drop i xs) (drop i ys) ≡ (nat_eq (slice_index_or xs i 0) (slice_index_or ys i 0) && same_lengths (drop (suc i) xs) (drop (suc i) ys))
step zero [] ys p q = absurd (omega (arith, p))
step zero (x ∷ xs) [] p q = absurd (omega (arith, q))
step zero (x ∷ xs) (y ∷ ys) p q = refl
step (suc i) [] ys p q = absurd (omega (arith, p))
step (suc i) (x ∷ xs) [] p q = absurd (omega (arith, q))
step (suc i) (x ∷ xs) (y ∷ ys) p q = step i xs ys (omega (arith, p)) (omega (arith, q))

unequal : (a b : ℕ) → (a ≡ b → ⊥) → nat_eq a b ≡ false
unequal a b differ = grind (arith, nat_tests, differ)

-- what is left from here decides as the whole does
abbrev pub Decides : ℕ → List ℕ → List ℕ → Type 0
Decides i xs ys = same_lengths xs ys ≡ same_lengths (drop i xs) (drop i ys)

pub goes_on : (i j : ℕ) (xs ys : List ℕ) → j ≡ suc i → i < length xs → i < length ys → slice_index_or xs i 0 ≡ slice_index_or ys i 0 → Decides i xs ys → Decides j xs ys
goes_on i j xs ys next p q same is =
    is ∙ step i xs ys p q ∙ ap (λ b. b && same_lengths (drop (suc i) xs) (drop (suc i) ys)) (eq-eqb _ _ same) ∙ ap (λ n. same_lengths (drop n xs) (drop n ys)) (sym next)

pub ends : (i : ℕ) (xs ys : List ℕ) → i < length xs → i < length ys → (slice_index_or xs i 0 ≡ slice_index_or ys i 0 → ⊥) → Decides i xs ys → false ≡ same_lengths xs ys
ends i xs ys p q differ is = sym (is ∙ step i xs ys p q ∙ ap (λ b. b && same_lengths (drop (suc i) xs) (drop (suc i) ys)) (unequal _ _ differ))

pub finished : (i : ℕ) (xs ys : List ℕ) → length xs ≤ i → length ys ≤ i → Decides i xs ys → true ≡ same_lengths xs ys
finished i xs ys p q is = sym (is ∙ ap (λ zs. same_lengths zs (drop i ys)) (drop_all i xs p) ∙ ap (λ zs. same_lengths [] zs) (drop_all i ys q))
