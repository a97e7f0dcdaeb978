-- Items of lists by their numbers.
use Rattle.std.proofs.Common.{◌≡◌, ℕ, zero, suc, ◌<◌, ◌⊎◌, inl, inr, Bool, true, false, List, [], ◌∷◌, ◌++◌, length, get_or, All, refl, sym, ap, subst, ◌∙◌, arith, Some, true≢false}
use Rattle.std.specs.Prelude.{slice_get, ◌||◌, ◌&&◌}
use Rattle.std.proofs.lemmas.Option.{slice_get_within, get_or_from_slice_get}
use Rattle.std.proofs.lemmas.List.Elements.{All-get_or}

pub item : {X : Type 0} (xs : List X) (i : ℕ) (d e : X) → i < length xs → get_or xs i d ≡ get_or xs i e
item [] i d e within = absurd (omega (arith, within))
item (x ∷ xs) zero d e within = refl
item (x ∷ xs) (suc i) d e within = item xs i d e (omega (arith, within))

-- a list with one item more
pub get_front : {X : Type 0} (xs ys : List X) (n : ℕ) (x : X) → slice_get xs n ≡ Some x → slice_get (xs ++ ys) n ≡ Some x
get_front [] ys n x is = cc
get_front (y ∷ xs) ys zero x is = is
get_front (y ∷ xs) ys (suc n) x is = get_front xs ys n x is

pub get_last : {X : Type 0} (xs : List X) (x : X) → slice_get (xs ++ x ∷ []) (length xs) ≡ Some x
get_last [] x = refl
get_last (y ∷ xs) x = get_last xs x

pub record IsLast {X : Type 0} (xs : List X) (y : X) (n : ℕ) (x : X) : Type 0 where
  pub number : n ≡ length xs
  pub same : x ≡ y

pub get_push : {X : Type 0} (xs : List X) (y : X) (n : ℕ) (x : X) → slice_get (xs ++ y ∷ []) n ≡ Some x → (slice_get xs n ≡ Some x) ⊎ IsLast xs y n x
get_push [] y zero x is = inr (record { number = refl; same = cc })
get_push [] y (suc n) x is = cc
get_push (z ∷ xs) y zero x is = inl is
get_push (z ∷ xs) y (suc n) x is = elim (get_push xs y n x is) [ inl front ↦ inl front | inr last ↦ inr (record { number = ap suc last.number; same = last.same }) ]

pub one_item : {X : Type 0} (xs : List X) (n m : ℕ) (x y : X) → slice_get xs n ≡ Some x → slice_get xs m ≡ Some y → n ≡ m → x ≡ y
one_item xs n m x y one two same = (let both : Some x ≡ Some y = sym one ∙ ap (slice_get xs) same ∙ two in cc)

pub each_of : {X : Type 0} (P : X → Type 0) (xs : List X) (n : ℕ) (x : X) → All P xs → slice_get xs n ≡ Some x → P x
each_of P xs n x all is =
    let within = slice_get_within xs n x is in
    let same : get_or xs n x ≡ x = get_or_from_slice_get xs n x x is in
    subst P same (All-get_or P xs n x within all)

pub either : (b c : Bool) → (b || c) ≡ true → (b ≡ true) ⊎ (c ≡ true)
either true c is = inl refl
either false c is = inr is

pub or_first : (b c : Bool) → b ≡ true → (b || c) ≡ true
or_first b c is = ap (λ x. x || c) is

pub or_second : (b c : Bool) → c ≡ true → (b || c) ≡ true
or_second true c is = refl
or_second false c is = is

pub and_parts : (b c : Bool) → (b && c) ≡ true → (b ≡ true) × (c ≡ true)
and_parts true c is = (refl, is)
and_parts false c is = absurd (true≢false (sym is))

pub and_whole : (b c : Bool) → b ≡ true → c ≡ true → (b && c) ≡ true
and_whole true c one two = two
and_whole false c one two = one
