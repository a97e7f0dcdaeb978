-- Members once, and their places.
use Rattle.std.proofs.Common.{◌≡◌, ℕ, suc, ◌+◌, ◌≤◌, Bool, true, false, not, cond, ◌||◌, List, [], ◌∷◌, ◌++◌, length, map, fold, refl, sym, ap, ◌∙◌, arith}
use Rattle.std.specs.List.{list_any, AllByRecursion}
use Rattle.std.proofs.lemmas.Bool.{false≢true}
use Rattle.std.proofs.lemmas.Grind.{fold-append}
use Rattle.std.proofs.lemmas.List.{length_push, map_push}
use Rattle.def_classes.specs.tools.EachOnce.{each_once, place_of, with_member}

or_rest : (a b : Bool) → a || b ≡ true → a ≡ false → b ≡ true
or_rest true b h e = absurd (false≢true (sym e))
or_rest false b h e = h

or_first : (a b : Bool) → a ≡ true → a || b ≡ true
or_first true b e = refl
or_first false b e = absurd (false≢true e)

or_second : (a b : Bool) → b ≡ true → a || b ≡ true
or_second true b e = refl
or_second false b e = e

or_none : (a : Bool) → (a || false) ≡ a
or_none true = refl
or_none false = refl

or_joined : (a b c : Bool) → (a || (b || c)) ≡ ((a || b) || c)
or_joined true b c = refl
or_joined false b c = refl

-- equal places of equal rests
place_step : (b : Bool) (m n : ℕ) → (b ≡ false → m ≡ n) → cond (not b) (1 + m) 0 ≡ cond (not b) (1 + n) 0
place_step true m n h = refl
place_step false m n h = ap (λ k. 1 + k) (h refl)

pub map_same : {A B : Type 0} (f g : A → B) (xs : List A) → AllByRecursion (λ x. f x ≡ g x) xs → map f xs ≡ map g xs
map_same f g [] h = refl
map_same f g (x ∷ xs) h = λ i. h.0 i ∷ map_same f g xs h.1 i

pub every : {A : Type 0} (P : A → Type 0) (f : (x : A) → P x) (xs : List A) → AllByRecursion P xs
every P f [] = tt
every P f (x ∷ xs) = (f x, every P f xs)

pub every_then : {A : Type 0} (P Q : A → Type 0) (f : (x : A) → P x → Q x) (xs : List A) → AllByRecursion P xs → AllByRecursion Q xs
every_then P Q f [] h = tt
every_then P Q f (x ∷ xs) h = (f x h.0, every_then P Q f xs h.1)

module _ {A : Type 0} (equal : A → A → Bool) where
  pub each_once-push : (xs : List A) (x : A) → each_once equal (xs ++ x ∷ []) ≡ with_member equal (each_once equal xs) x
  each_once-push xs x = fold-append (with_member equal) [] xs (x ∷ [])

  pub list_any-append_left : (x : A) (xs ys : List A) → list_any (equal x) xs ≡ true → list_any (equal x) (xs ++ ys) ≡ true
  list_any-append_left x [] ys h = absurd (false≢true h)
  list_any-append_left x (k ∷ ks) ys h =
      let by : (b : Bool) → equal x k ≡ b → list_any (equal x) (k ∷ ks ++ ys) ≡ true
      = λ b e. elim b as (λ b. equal x k ≡ b → equal x k || list_any (equal x) (ks ++ ys) ≡ true) [
        | true ↦ λ e. or_first _ _ e
        | false ↦ λ e. or_second _ _ (list_any-append_left x ks ys (or_rest _ _ h e))
      ] e in
      by (equal x k) refl

  pub list_any-append_right : (x : A) (xs ys : List A) → list_any (equal x) ys ≡ true → list_any (equal x) (xs ++ ys) ≡ true
  list_any-append_right x [] ys h = h
  list_any-append_right x (k ∷ ks) ys h = or_second _ _ (list_any-append_right x ks ys h)

  -- a member keeps its place
  pub place_of-append : (x : A) (xs ys : List A) → list_any (equal x) xs ≡ true → place_of equal (xs ++ ys) x ≡ place_of equal xs x
  place_of-append x [] ys h = absurd (false≢true h)
  place_of-append x (k ∷ ks) ys h = place_step (equal x k) _ _ (λ e. place_of-append x ks ys (or_rest _ _ h e))

  pub place_of-le : (x : A) (xs : List A) → place_of equal xs x ≤ length xs
  place_of-le x [] = omega arith
  place_of-le x (k ∷ ks) =
      let h = place_of-le x ks in
      elim (equal x k) as (λ b. cond (not b) (1 + place_of equal ks x) 0 ≤ suc (length ks)) [ true ↦ omega arith | false ↦ omega arith ]

  stays : (x y : A) (b : Bool) (ks : List A) → list_any (equal y) ks ≡ true → list_any (equal y) (cond b ks (ks ++ x ∷ [])) ≡ true
  stays x y true ks h = h
  stays x y false ks h = list_any-append_left y ks (x ∷ []) h

  pub kept_member : (x y : A) (ks : List A) → list_any (equal y) ks ≡ true → list_any (equal y) (with_member equal ks x) ≡ true
  kept_member x y ks h = stays x y (list_any (equal x) ks) ks h

  place_stays : (x y : A) (b : Bool) (ks : List A) → list_any (equal y) ks ≡ true → place_of equal (cond b ks (ks ++ x ∷ [])) y ≡ place_of equal ks y
  place_stays x y true ks h = refl
  place_stays x y false ks h = place_of-append y ks (x ∷ []) h

  pub place_kept : (x y : A) (ks : List A) → list_any (equal y) ks ≡ true → place_of equal (with_member equal ks x) y ≡ place_of equal ks y
  place_kept x y ks h = place_stays x y (list_any (equal x) ks) ks h

  -- what is not there has its place behind
  pub place_absent : (x : A) (ks : List A) → list_any (equal x) ks ≡ false → place_of equal ks x ≡ length ks
  place_absent x [] h = refl
  place_absent x (k ∷ ks) h = by (λ g. place_absent x ks g) (equal x k) h where
    by : (list_any (equal x) ks ≡ false → place_of equal ks x ≡ length ks) → (b : Bool) → (b || list_any (equal x) ks) ≡ false → cond (not b) (1 + place_of equal ks x) 0 ≡ suc (length ks)
    by rest true h = absurd (false≢true (sym h))
    by rest false h = (let n = rest h in omega (arith, n))

  any_push : (x y : A) (ks : List A) → list_any (equal x) (ks ++ y ∷ []) ≡ (list_any (equal x) ks || equal x y)
  any_push x y [] = or_none (equal x y)
  any_push x y (k ∷ ks) = ap (λ b. equal x k || b) (any_push x y ks) ∙ or_joined (equal x k) (list_any (equal x) ks) (equal x y)

  module _ (itself : (x : A) → equal x x ≡ true) where
    has_added : (x : A) (b : Bool) (ks : List A) → list_any (equal x) ks ≡ b → list_any (equal x) (cond b ks (ks ++ x ∷ [])) ≡ true
    has_added x true ks h = h
    has_added x false ks h = list_any-append_right x ks (x ∷ []) (or_first _ _ (itself x))

    place_push : (x : A) (ks : List A) → place_of equal (ks ++ x ∷ []) x ≡ place_of equal ks x
    place_push x [] = ap (λ b. cond (not b) (1 + 0) 0) (itself x)
    place_push x (k ∷ ks) = place_step (equal x k) _ _ (λ e. place_push x ks)

    place_new : (x : A) (b : Bool) (ks : List A) → place_of equal (cond b ks (ks ++ x ∷ [])) x ≡ place_of equal ks x
    place_new x true ks = refl
    place_new x false ks = place_push x ks

    pub place_added : (x : A) (ks : List A) → place_of equal (with_member equal ks x) x ≡ place_of equal ks x
    place_added x ks = place_new x (list_any (equal x) ks) ks

    pub has_member : (ks : List A) (x : A) → list_any (equal x) (with_member equal ks x) ≡ true
    has_member ks x = has_added x (list_any (equal x) ks) ks refl

    keeps_member : (xs ks : List A) (x : A) → list_any (equal x) ks ≡ true → list_any (equal x) (fold (with_member equal) ks xs) ≡ true
    keeps_member [] ks x h = h
    keeps_member (y ∷ ys) ks x h = keeps_member ys (with_member equal ks y) x (stays y x _ ks h)

    has_each : (xs ks : List A) → AllByRecursion (λ x. list_any (equal x) (fold (with_member equal) ks xs) ≡ true) xs
    has_each [] ks = tt
    has_each (x ∷ xs) ks = (keeps_member xs (with_member equal ks x) x (has_member ks x), has_each xs (with_member equal ks x))

    -- each member has an equal one among the members, each once
    pub each_once-has : (xs : List A) → AllByRecursion (λ x. list_any (equal x) (each_once equal xs) ≡ true) xs
    each_once-has xs = has_each xs []

    -- each once, the members are the same
    module _ (exact : (x y : A) → equal x y ≡ true → x ≡ y) where
      any_with : (ks : List A) (y x : A) → list_any (equal x) (with_member equal ks y) ≡ (list_any (equal x) ks || equal x y)
      any_with ks y x = by (list_any (equal y) ks) refl where
        by : (b : Bool) → list_any (equal y) ks ≡ b → list_any (equal x) (cond b ks (ks ++ y ∷ [])) ≡ (list_any (equal x) ks || equal x y)
        by false none = any_push x y ks
        by true some = or (equal x y) refl where
          or : (b : Bool) → equal x y ≡ b → list_any (equal x) ks ≡ (list_any (equal x) ks || b)
          or false e = sym (or_none (list_any (equal x) ks))
          or true e =
              let there : list_any (equal x) ks ≡ true = ap (λ z. list_any (equal z) ks) (exact x y e) ∙ some in
              there ∙ sym (or_second (list_any (equal x) ks) true refl)

      any_fold : (xs ks : List A) (x : A) → list_any (equal x) (fold (with_member equal) ks xs) ≡ (list_any (equal x) ks || list_any (equal x) xs)
      any_fold [] ks x = sym (or_none (list_any (equal x) ks))
      any_fold (y ∷ ys) ks x =
          any_fold ys (with_member equal ks y) x ∙ ap (λ b. b || list_any (equal x) ys) (any_with ks y x)
          ∙ sym (or_joined (list_any (equal x) ks) (equal x y) (list_any (equal x) ys))

      pub each_once-any : (xs : List A) (x : A) → list_any (equal x) (each_once equal xs) ≡ list_any (equal x) xs
      each_once-any xs x = any_fold xs [] x

    -- the numbers of members, with one member more
    pub numbers-push : (f : ℕ → ℕ) (xs : List A) (x : A) →
        map (λ y. f (place_of equal (each_once equal (xs ++ x ∷ [])) y)) (xs ++ x ∷ [])
        ≡ map (λ y. f (place_of equal (each_once equal xs) y)) xs ++ f (place_of equal (each_once equal xs) x) ∷ []
    numbers-push f xs x =
        let ks = each_once equal xs in
        let more : each_once equal (xs ++ x ∷ []) ≡ with_member equal ks x = each_once-push xs x in
        let old : map (λ y. f (place_of equal (each_once equal (xs ++ x ∷ [])) y)) xs ≡ map (λ y. f (place_of equal ks y)) xs
        = map_same _ _ xs (every_then (λ y. list_any (equal y) ks ≡ true) _
        (λ y h. ap f (ap (λ k. place_of equal k y) more ∙ place_stays x y (list_any (equal x) ks) ks h)) xs (each_once-has xs)) in
        let new : f (place_of equal (each_once equal (xs ++ x ∷ [])) x) ≡ f (place_of equal ks x)
        = ap f (ap (λ k. place_of equal k x) more ∙ place_new x (list_any (equal x) ks) ks) in
        map_push _ xs x ∙ (λ i. old i ++ new i ∷ [])

  -- members at one place are equal
  module _ (exact : (x y : A) → equal x y ≡ true → x ≡ y) where
    pub same_place : (xs : List A) (x y : A) → list_any (equal x) xs ≡ true → list_any (equal y) xs ≡ true → place_of equal xs x ≡ place_of equal xs y → x ≡ y
    same_place [] x y h g e = absurd (false≢true h)
    same_place (k ∷ ks) x y h g e = by (λ p q. same_place ks x y (or_rest _ _ h p) (or_rest _ _ g q)) (equal x k) (equal y k) refl refl e
      where
        by : (equal x k ≡ false → equal y k ≡ false → place_of equal ks x ≡ place_of equal ks y → x ≡ y) → (a b : Bool) → equal x k ≡ a → equal y k ≡ b → cond (not a) (1 + place_of equal ks x) 0 ≡ cond (not b) (1 + place_of equal ks y) 0 → x ≡ y
        by rest true true p q e = exact x k p ∙ sym (exact y k q)
        by rest true false p q e = absurd (omega arith)
        by rest false true p q e = absurd (omega arith)
        by rest false false p q e = rest p q (omega arith)

  shorter : (x : A) (b : Bool) (ks : List A) → length (cond b ks (ks ++ x ∷ [])) ≤ suc (length ks)
  shorter x true ks = omega arith
  shorter x false ks = omega (arith, length_push ks x)

  length_fold : (xs ks : List A) → length (fold (with_member equal) ks xs) ≤ length ks + length xs
  length_fold [] ks = omega arith
  length_fold (x ∷ xs) ks =
      let h = length_fold xs (with_member equal ks x) in
      let s = shorter x (list_any (equal x) ks) ks in
      omega arith

  pub length-each_once : (xs : List A) → length (each_once equal xs) ≤ length xs
  length-each_once xs = let h = length_fold xs [] in omega arith
