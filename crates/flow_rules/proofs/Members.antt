-- Members of lists of numbers.
use Rattle.std.proofs.Common.{◌≡◌, ℕ, Bool, true, false, List, [], ◌∷◌, ◌++◌, refl, sym, ap, ◌∙◌, subst}
use Rattle.std.proofs.lemmas.Bool.{eqb-true, eq-eqb}
use Rattle.std.specs.Prelude.{nat_eq, ◌&&◌, ◌||◌, filter, cond}
use Rattle.std.specs.List.{list_any, list_all}
use Rattle.tac_ir.specs.Answers.{has}

pub has_append : (xs ys : List ℕ) (d : ℕ) → has (xs ++ ys) d ≡ (has xs d || has ys d)
has_append [] ys d = refl
has_append (x ∷ xs) ys d = by (nat_eq x d) (has_append xs ys d)
  where
    by : (b : Bool) → has (xs ++ ys) d ≡ (has xs d || has ys d) → (b || has (xs ++ ys) d) ≡ ((b || has xs d) || has ys d)
    by true rest = refl
    by false rest = rest

none : (u v : Bool) → v ≡ false → (u && v) ≡ v
none true v is = refl
none false v is = sym is

pub has_filter : (test : ℕ → Bool) (xs : List ℕ) (d : ℕ) → has (filter test xs) d ≡ (has xs d && test d)
has_filter test [] d = refl
has_filter test (x ∷ xs) d = by (test x) (nat_eq x d) refl refl (has_filter test xs d)
  where
    as_d : (b : Bool) → test x ≡ b → nat_eq x d ≡ true → test d ≡ b
    as_d b passes same = ap test (sym (eqb-true x d same)) ∙ passes

    by : (b e : Bool) → test x ≡ b → nat_eq x d ≡ e → has (filter test xs) d ≡ (has xs d && test d)
        → has (cond b (x ∷ filter test xs) (filter test xs)) d ≡ ((e || has xs d) && test d)
    by true true passes same rest = ap (λ z. z || has (filter test xs) d) same ∙ sym (as_d true passes same)
    by true false passes same rest = ap (λ z. z || has (filter test xs) d) same ∙ rest
    by false true passes same rest = rest ∙ none (has xs d) (test d) (as_d false passes same)
    by false false passes same rest = rest

pub has_any : (xs : List ℕ) (d : ℕ) → list_any (λ y. nat_eq y d) xs ≡ has xs d
has_any [] d = refl
has_any (x ∷ xs) d = ap (λ b. nat_eq x d || b) (has_any xs d)

-- the targets of a fork
pub fork_named : (entries : List ℕ) (join at : ℕ) → has (entries ++ join ∷ []) at ≡ (has entries at || nat_eq join at)
fork_named entries join at = has_append entries (join ∷ []) at ∙ ap (λ b. has entries at || b) (plain (nat_eq join at))
  where
    plain : (b : Bool) → (b || false) ≡ b
    plain true = refl
    plain false = refl

-- all members of a list are in another
pub all_had : (other xs : List ℕ) → list_all (has other) xs ≡ true → (d : ℕ) → has xs d ≡ true → has other d ≡ true
all_had other [] all d h = cc
all_had other (x ∷ xs) all d h = by (nat_eq x d) refl (has other x) refl all h (all_had other xs)
  where
    by : (b : Bool) → nat_eq x d ≡ b → (e : Bool) → has other x ≡ e → (e && list_all (has other) xs) ≡ true → (b || has xs d) ≡ true
        → (list_all (has other) xs ≡ true → (z : ℕ) → has xs z ≡ true → has other z ≡ true) → has other d ≡ true
    by true same true one all h rest = subst (λ y. has other y ≡ true) (eqb-true x d same) one
    by true same false one all h rest = cc
    by false same true one all h rest = rest all d h
    by false same false one all h rest = cc

pub had_all : (other xs : List ℕ) → ((d : ℕ) → has xs d ≡ true → has other d ≡ true) → list_all (has other) xs ≡ true
had_all other [] h = refl
had_all other (x ∷ xs) h = both (has other x) (list_all (has other) xs) (h x (ap (λ b. b || has xs x) (eq-eqb x x refl))) (had_all other xs (λ d there. h d (later (nat_eq x d) (has xs d) there)))
  where
    both : (a b : Bool) → a ≡ true → b ≡ true → (a && b) ≡ true
    both a b first second = cc

    later : (a b : Bool) → b ≡ true → (a || b) ≡ true
    later true b is = refl
    later false b is = is
