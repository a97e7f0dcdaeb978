-- What holds of each member of a list.
use Rattle.std.proofs.Common.{◌≡◌, ℕ, zero, suc, ◌<◌, List, [], ◌∷◌, ◌++◌, length, map, Some, refl, subst, arith}
use Rattle.std.specs.Prelude.{slice_get, slice_index_or, All, Contains}
use Rattle.std.proofs.lemmas.List.Elements.{All-contains}

abbrev pub Each : {A : Type 0} → (A → Type 0) → List A → Type 0
Each P [] = Unit {0}
Each P (x ∷ xs) = P x × Each P xs

pub each_append : {A : Type 0} (P : A → Type 0) (xs ys : List A) → Each P xs → Each P ys → Each P (xs ++ ys)
each_append P [] ys is that = that
each_append P (x ∷ xs) ys is that = (is.0, each_append P xs ys is.1 that)

pub each_first : {A : Type 0} (P : A → Type 0) (xs ys : List A) → Each P (xs ++ ys) → Each P xs
each_first P [] ys is = tt
each_first P (x ∷ xs) ys is = (is.0, each_first P xs ys is.1)

pub each_second : {A : Type 0} (P : A → Type 0) (xs ys : List A) → Each P (xs ++ ys) → Each P ys
each_second P [] ys is = is
each_second P (x ∷ xs) ys is = each_second P xs ys is.1

pub each_by : {A : Type 0} (P Q : A → Type 0) (xs : List A) → ((x : A) → P x → Q x) → Each P xs → Each Q xs
each_by P Q [] f is = tt
each_by P Q (x ∷ xs) f is = (f x is.0, each_by P Q xs f is.1)

pub each_both : {A : Type 0} (P Q R : A → Type 0) (xs : List A) → ((x : A) → P x → Q x → R x) → Each P xs → Each Q xs → Each R xs
each_both P Q R [] f is that = tt
each_both P Q R (x ∷ xs) f is that = (f x is.0 that.0, each_both P Q R xs f is.1 that.1)

pub each_of : {A : Type 0} (P : A → Type 0) (xs : List A) → ((x : A) → P x) → Each P xs
each_of P [] f = tt
each_of P (x ∷ xs) f = (f x, each_of P xs f)

pub each_get : {A : Type 0} (P : A → Type 0) (xs : List A) (i : ℕ) (x : A) → Each P xs → slice_get xs i ≡ Some x → P x
each_get P [] i x is found = cc
each_get P (y ∷ xs) zero x is found = (let same : y ≡ x = cc in subst P same is.0)
each_get P (y ∷ xs) (suc i) x is found = each_get P xs i x is.1 found

pub all_each : {A : Type 0} (P : A → Type 0) (xs : List A) → Each P xs → All P xs
all_each P [] is = λ k d within. absurd (omega arith)
all_each {A} P (x ∷ xs) is = λ k d within. at k d within (all_each P xs is.1)
  where
    at : (k : ℕ) (d : A) → k < length (x ∷ xs) → All P xs → P (slice_index_or (x ∷ xs) k d)
    at zero d within rest = is.0
    at (suc k) d within rest = rest k d (omega arith)

pub each_all : {A : Type 0} (P : A → Type 0) (xs : List A) → All P xs → Each P xs
each_all P [] is = tt
each_all P (x ∷ xs) is = (is 0 x (omega arith), each_all P xs (λ k d within. is (suc k) d (omega arith)))

pub each_contains : {A : Type 0} (P : A → Type 0) (xs : List A) (x : A) → Each P xs → Contains xs x → P x
each_contains P xs x is has = All-contains P xs x (all_each P xs is) has

pub each_here : {A : Type 0} (P : A → Type 0) (xs : List A) → ((i : ℕ) (x : A) → slice_get xs i ≡ Some x → P x) → Each P xs
each_here P [] f = tt
each_here P (x ∷ xs) f = (f 0 x refl, each_here P xs (λ i y e. f (suc i) y e))

pub each_map : {A B : Type 0} (P : B → Type 0) (f : A → B) (xs : List A) → Each (λ x. P (f x)) xs → Each P (map f xs)
each_map P f [] is = tt
each_map P f (x ∷ xs) is = (is.0, each_map P f xs is.1)

pub map_each : {A B : Type 0} (P : B → Type 0) (f : A → B) (xs : List A) → Each P (map f xs) → Each (λ x. P (f x)) xs
map_each P f [] is = tt
map_each P f (x ∷ xs) is = (is.0, map_each P f xs is.1)
