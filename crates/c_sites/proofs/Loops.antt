-- Lists of parts that are numbered in turn.
use Rattle.std.proofs.Common.{◌≡◌, ℕ, zero, suc, ◌+◌, ◌<◌, ◌≤◌, List, [], ◌∷◌, ◌++◌, map, length, drop, get_or, refl, ap, sym, ◌∙◌, append_assoc, arith}
use Rattle.std.proofs.lemmas.List.{drop_all}
use Rattle.c_typed.specs.Sites.{Sited, in_turn}

-- what is numbered so far, and then the rest, is all; and so are the numbers
abbrev pub SoFar : {X A : Type 0} → (X → Sited A) → List X → ℕ → List A → ℕ → ℕ → Type 0
SoFar f xs first done next i =
    ((in_turn (map f xs)).from first ≡ done ++ (in_turn (map f (drop i xs))).from next)
    × (first + (in_turn (map f xs)).count ≡ next + (in_turn (map f (drop i xs))).count)

pub none_yet : {X A : Type 0} (f : X → Sited A) (xs : List X) (first : ℕ) → SoFar f xs first [] first 0
none_yet f xs first = (refl, refl)

at_place : {X : Type 0} (xs : List X) (i : ℕ) (x : X) → i < length xs → x ≡ get_or xs i x → drop i xs ≡ x ∷ drop (suc i) xs
at_place [] i x less is = absurd (omega (arith, less))
at_place (y ∷ xs) zero x less is = ap (λ y. y ∷ xs) (sym is)
at_place (y ∷ xs) (suc i) x less is = at_place xs i x (omega (arith, less)) is

pub one_more : {X A : Type 0} (f : X → Sited A) (xs : List X) (first : ℕ) (done : List A) (next i : ℕ) (x : X) (a : A) (behind : ℕ) → i < length xs → x ≡ get_or xs i x
    → (a ≡ (f x).from next) × (behind ≡ next + (f x).count) → SoFar f xs first done next i → SoFar f xs first (done ++ a ∷ []) behind (suc i)
one_more f xs first done next i x a behind less is numbered so_far =
    let rest = in_turn (map f (drop (suc i) xs)) in
    let here = at_place xs i x less is in
    let count = so_far.1 ∙ ap (λ ys. next + (in_turn (map f ys)).count) here in
    let same = numbered.1 in (
      so_far.0 ∙ ap (λ ys. done ++ (in_turn (map f ys)).from next) here
          ∙ ap (λ a. done ++ a ∷ rest.from (next + (f x).count)) (sym numbered.0) ∙ ap (λ n. done ++ a ∷ rest.from n) (sym numbered.1) ∙ sym (append_assoc done (a ∷ []) (rest.from behind)),
      omega (arith, count, same),
    )

append_none : {A : Type 0} (xs : List A) → xs ++ [] ≡ xs
append_none [] = refl
append_none (x ∷ xs) = ap (λ ys. x ∷ ys) (append_none xs)

pub all_done : {X A : Type 0} (f : X → Sited A) (xs : List X) (first : ℕ) (done : List A) (next i : ℕ) → length xs ≤ i → SoFar f xs first done next i
    → (done ≡ (in_turn (map f xs)).from first) × (next ≡ first + (in_turn (map f xs)).count)
all_done f xs first done next i le so_far =
    let none = drop_all i xs le in
    let count = so_far.1 ∙ ap (λ ys. next + (in_turn (map f ys)).count) none in (
      sym (so_far.0 ∙ ap (λ ys. done ++ (in_turn (map f ys)).from next) none ∙ append_none done),
      omega (arith, count),
    )
