-- The numbers that are left are those that were given last.
use Rattle.std.proofs.Common.{◌≡◌, ℕ, zero, suc, ◌-◌, ◌≤◌, ℤ, pos, true, false, nat_eq, List, [], ◌∷◌, ◌++◌, length, drop, reverse, refl, sym, ap, ◌∙◌, arith}
use Rattle.std.proofs.lemmas.List.{length-append, length-drop, drop-append-le}
use Rattle.std.proofs.Math.Seq.{drop-append_seam, drop-length}
use Rattle.obj_mem.specs.declared.event.Event.{Event}
use Rattle.obj_mem.specs.declared.event.Stamp.{Stamp}
use Rattle.obj_mem.specs.Alive.{but_first}
use Rattle.obj_mem.proofs.Back.{back, none_back}
use Rattle.obj_mem.specs.Input.{left_by, numbers_left, first_or_0}

-- the number that was given with k numbers from it on, and 0 where there is none
abbrev pub given_by : Event → ℕ → (ℕ → ℤ) → ℤ
given_by (Event.Given v) k earlier = elim (nat_eq k 1) [ true ↦ v | false ↦ earlier (k - 1) ]
given_by e k earlier = earlier k

unfoldable pub oldest : ℕ → List Stamp → ℤ
oldest k [] = pos 0
oldest k (s ∷ h) = given_by s.event k (λ j. oldest j h)

abbrev newest : ℕ → List ℤ → List ℤ
newest k xs = drop (length xs - k) xs

not_one : (k : ℕ) → nat_eq (suc (suc k)) 1 ≡ false
not_one k = grind arith

drop-nothing : (n : ℕ) → drop {A = ℤ} n [] ≡ []
drop-nothing zero = refl
drop-nothing (suc n) = refl

newest_none : (xs : List ℤ) → newest 0 xs ≡ []
newest_none xs = (let all : length xs - 0 ≡ length xs = omega arith in ap (λ n. drop n xs) all ∙ drop-length xs)

first_before : (xs ys : List ℤ) → 1 ≤ length xs → first_or_0 (xs ++ ys) ≡ first_or_0 xs
first_before [] ys some = absurd (omega (arith, some))
first_before (x ∷ xs) ys some = refl

one_behind : (xs : List ℤ) (v : ℤ) → newest 1 (xs ++ v ∷ []) ≡ v ∷ []
one_behind xs v = (let at : length (xs ++ v ∷ []) - 1 ≡ length xs = omega (arith, length-append xs (v ∷ [])) in ap (λ n. drop n (xs ++ v ∷ [])) at ∙ drop-append_seam xs (v ∷ []))

more_behind : (k : ℕ) (xs : List ℤ) (v : ℤ) → k ≤ length xs → newest (suc k) (xs ++ v ∷ []) ≡ newest k xs ++ v ∷ []
more_behind k xs v few =
    let at : length (xs ++ v ∷ []) - suc k ≡ length xs - k = omega (arith, length-append xs (v ∷ [])) in
    ap (λ n. drop n (xs ++ v ∷ [])) at ∙ drop-append-le (length xs - k) xs (v ∷ []) (omega arith)

taken_first : (k : ℕ) (xs : List ℤ) → k ≤ length (but_first xs) → newest k (but_first xs) ≡ newest k xs
taken_first k [] few = refl
taken_first k (x ∷ xs) few = (let at : suc (length xs) - k ≡ suc (length xs - k) = omega (arith, few) in ap (λ n. drop n (x ∷ xs)) (sym at))

-- of the numbers that are left, the one with k numbers from it on
pub oldest_left : (k : ℕ) (h : List Stamp) → k ≤ length (numbers_left h) → oldest k h ≡ first_or_0 (newest k (numbers_left h))
unfolding numbers_left oldest
oldest_left k [] few = ap first_or_0 (sym (drop-nothing (0 - k)))
oldest_left k (s ∷ h) few = by s.event few (λ j. oldest_left j h)
  where
    given : (v : ℤ) (vs : List ℤ) (k : ℕ) (f : ℕ → ℤ) → k ≤ length (vs ++ v ∷ []) → ((j : ℕ) → j ≤ length vs → f j ≡ first_or_0 (newest j vs))
        → elim (nat_eq k 1) [ true ↦ v | false ↦ f (k - 1) ] ≡ first_or_0 (newest k (vs ++ v ∷ []))
    given v vs zero f few each = each 0 (omega arith) ∙ (ap first_or_0 (newest_none vs) ∙ sym (ap first_or_0 (newest_none (vs ++ v ∷ []))))
    given v vs (suc zero) f few each = ap first_or_0 (sym (one_behind vs v))
    given v vs (suc (suc k)) f few each =
        let less : suc k ≤ length vs = omega (arith, few, length-append vs (v ∷ [])) in
        let some : 1 ≤ length (newest (suc k) vs) = omega (arith, less, length-drop (length vs - suc k) vs) in
        (let less_one : suc (suc k) - 1 ≡ suc k = omega arith in ap (λ b. elim b [ true ↦ v | false ↦ f (suc (suc k) - 1) ]) (not_one k) ∙ ap f less_one) ∙ each (suc k) less ∙ (sym (first_before (newest (suc k) vs) (v ∷ []) some) ∙ ap first_or_0 (sym (more_behind (suc k) vs v less)))

    by : (e : Event) → k ≤ length (left_by e (numbers_left h)) → ((j : ℕ) → j ≤ length (numbers_left h) → oldest j h ≡ first_or_0 (newest j (numbers_left h)))
        → given_by e k (λ j. oldest j h) ≡ first_or_0 (newest k (left_by e (numbers_left h)))
    by (Event.Given v) few each = given v (numbers_left h) k (λ j. oldest j h) few each
    by Event.In few each = each k (shorter (numbers_left h) few) ∙ ap first_or_0 (sym (taken_first k (numbers_left h) few))
      where
        shorter : (xs : List ℤ) → k ≤ length (but_first xs) → k ≤ length xs
        shorter [] few = few
        shorter (x ∷ xs) few = omega (arith, few)
    by e few each = each k few

-- all that are left
pub oldest_of_all : (h : List Stamp) → oldest (length (numbers_left h)) h ≡ first_or_0 (numbers_left h)
oldest_of_all h =
    let none : length (numbers_left h) - length (numbers_left h) ≡ 0 = omega arith in
    oldest_left (length (numbers_left h)) h (omega arith) ∙ ap (λ n. first_or_0 (drop n (numbers_left h))) none

-- read from the end of a list
pub oldest_other : (k : ℕ) (rest before : List Stamp) (s : Stamp) → rest ≡ before ++ s ∷ [] → ((f : ℕ → ℤ) → given_by s.event k f ≡ f k) → oldest k (reverse rest) ≡ oldest k (reverse before)
unfolding oldest
oldest_other k rest before s split other = ap (oldest k) (back rest before s split) ∙ other (λ j. oldest j (reverse before))

pub oldest_here : (k : ℕ) (rest before : List Stamp) (s : Stamp) (v : ℤ) → rest ≡ before ++ s ∷ [] → s.event ≡ Event.Given v → k ≡ 1 → oldest k (reverse rest) ≡ v
unfolding oldest
oldest_here k rest before s v split is one =
    ap (oldest k) (back rest before s split) ∙ (ap (λ e. given_by e k (λ j. oldest j (reverse before))) is ∙ ap (λ j. given_by (Event.Given v) j (λ i. oldest i (reverse before))) one)

pub oldest_before : (k : ℕ) (rest before : List Stamp) (s : Stamp) (v : ℤ) → rest ≡ before ++ s ∷ [] → s.event ≡ Event.Given v → nat_eq k 1 ≡ false → oldest k (reverse rest) ≡ oldest (k - 1) (reverse before)
unfolding oldest
oldest_before k rest before s v split is more =
    ap (oldest k) (back rest before s split) ∙ (ap (λ e. given_by e k (λ j. oldest j (reverse before))) is ∙ ap (λ b. elim b [ true ↦ v | false ↦ oldest (k - 1) (reverse before) ]) more)

pub oldest_nowhere : (k : ℕ) (rest : List Stamp) → length rest ≡ 0 → oldest k (reverse rest) ≡ pos 0
unfolding oldest
oldest_nowhere k rest none = ap (oldest k) (none_back rest none)

pub given_nothing : (e : Event) (k : ℕ) (f : ℕ → ℤ) → ((v : ℤ) → e ≡ Event.Given v → ⊥) → given_by e k f ≡ f k
given_nothing (Event.Given v) k f other = absurd (other v refl)
given_nothing e k f other = refl
