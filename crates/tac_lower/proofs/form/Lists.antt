-- Members of lists, and tests of numbers.
use Rattle.std.proofs.Common.{◌≡◌, ℕ, zero, suc, true, false, nat_eq, List, [], ◌∷◌, ◌++◌, map, length, Some, refl, ap, ◌∙◌, arith}
use Rattle.std.specs.Prelude.{slice_get, option_map}
use Rattle.std.proofs.lemmas.Option.{slice_get-map}

pub eq_is : (a b : ℕ) → nat_eq a b ≡ true → a ≡ b
eq_is a b h = grind (arith, nat_eq)

pub eq_not : (a b : ℕ) → nat_eq a b ≡ false → a ≡ b → ⊥
eq_not a b h e = grind (arith, nat_eq)

pub get_end : {A : Type 0} (xs ys : List A) (y : A) → slice_get (xs ++ y ∷ ys) (length xs) ≡ Some y
get_end [] ys y = refl
get_end (x ∷ xs) ys y = get_end xs ys y

pub get_front : {A : Type 0} (xs ys : List A) (i : ℕ) (x : A) → slice_get xs i ≡ Some x → slice_get (xs ++ ys) i ≡ Some x
get_front [] ys i x h = cc
get_front (y ∷ xs) ys zero x h = h
get_front (y ∷ xs) ys (suc i) x h = get_front xs ys i x h

pub map_get : {A B : Type 0} (f : A → B) (xs : List A) (i : ℕ) (x : A) → slice_get xs i ≡ Some x → slice_get (map f xs) i ≡ Some (f x)
map_get f xs i x found = slice_get-map f xs i ∙ ap (λ o. option_map f o) found

-- a member of a mapped list is that of one
pub record Mapped {A B : Type 0} (f : A → B) (xs : List A) (i : ℕ) (y : B) : Type 0 where
  pub of : A
  pub there : slice_get xs i ≡ Some of
  pub is : f of ≡ y

pub get_mapped : {A B : Type 0} (f : A → B) (xs : List A) (i : ℕ) (y : B) → slice_get (map f xs) i ≡ Some y → Mapped f xs i y
get_mapped f [] i y found = cc
get_mapped f (x ∷ xs) zero y found = record { of = x; there = refl; is = (let same : f x ≡ y = cc in same) }
get_mapped f (x ∷ xs) (suc i) y found = (let m = get_mapped f xs i y found in record { of = m.of; there = m.there; is = m.is })

pub front_empty : {A : Type 0} (xs ys : List A) → xs ++ ys ≡ [] → xs ≡ []
front_empty [] ys h = refl
front_empty (x ∷ xs) ys h = cc

pub back_empty : {A : Type 0} (xs ys : List A) → xs ++ ys ≡ [] → ys ≡ []
back_empty [] ys h = h
back_empty (x ∷ xs) ys h = cc
