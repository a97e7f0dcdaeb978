-- Logs with the oldest entry first, beside those of views.
use Rattle.std.proofs.Common.{◌≡◌, ℕ, ◌+◌, ◌<◌, ◌≤◌, cond, eqb, eq-eqb, List, [], ◌∷◌, ◌++◌, reverse, refl, sym, ap, ◌∙◌, subst, arith}
use Rattle.std.specs.List.{All}
use Rattle.std.proofs.lemmas.Grind.{reverse_onto}
use Rattle.std.proofs.lemmas.List.{reverse-append, reverse-reverse}
use Rattle.std.proofs.lemmas.List.Elements.{All-nil, All-cons, All-push}
use Rattle.guest_log.specs.declared.stamped.Stamped.{Stamped}
use Rattle.guest_log.specs.Tickets.{Differ}
use Rattle.stripe_rule.specs.tools.Logs.{AllBelow, AllFrom, times, merge, past}
use Rattle.stripe_rule.proofs.Merging.{times_merge, below_past, below_reverse}

all_of : (t : ℕ) (l : List Stamped) → AllBelow t l → All (λ (s : Stamped). s.ticket < t) l
all_of t [] a = All-nil (λ (s : Stamped). s.ticket < t)
all_of t (s ∷ l) a = All-cons (λ (x : Stamped). x.ticket < t) s l a.0 (all_of t l a.1)

all_from : (t : ℕ) (l : List Stamped) → AllFrom t l → All (λ (s : Stamped). t ≤ s.ticket) l
all_from t [] a = All-nil (λ (s : Stamped). t ≤ s.ticket)
all_from t (s ∷ l) a = All-cons (λ (x : Stamped). t ≤ x.ticket) s l a.0 (all_from t l a.1)

-- what is below a ticket in a view's log is so in the pass's
pub older : (t : ℕ) (items l : List Stamped) → l ≡ reverse items → AllBelow t l → All (λ (s : Stamped). s.ticket < t) items
older t items l is below = all_of t items (subst (AllBelow t) (ap reverse is ∙ reverse-reverse items) (below_reverse t l below))

-- a pushed entry comes first in the view's log
pub pushed : (items l : List Stamped) (s : Stamped) → l ≡ reverse items → s ∷ l ≡ reverse (items ++ s ∷ [])
pushed items l s is = ap (λ x. s ∷ x) is ∙ sym (reverse-append items (s ∷ []))

pub pushed_above : (t : ℕ) (items : List Stamped) (s : Stamped) → All (λ (x : Stamped). t ≤ x.ticket) items → t ≤ s.ticket → All (λ (x : Stamped). t ≤ x.ticket) (items ++ s ∷ [])
pushed_above t items s all here = All-push (λ (x : Stamped). t ≤ x.ticket) items s all here

from_append : (t : ℕ) (a b : List Stamped) → AllFrom t a → AllFrom t b → AllFrom t (a ++ b)
from_append t [] b x y = y
from_append t (s ∷ a) b x y = (x.0, from_append t a b x.1 y)

from_reverse : (t : ℕ) (l : List Stamped) → AllFrom t l → AllFrom t (reverse l)
from_reverse t [] a = tt
from_reverse t (s ∷ l) a = subst (AllFrom t) (sym (reverse_onto l s [])) (from_append t (reverse l) (s ∷ []) (from_reverse t l a.1) (a.0, tt))

-- and so is what is at or above the floor
pub above_all : (t : ℕ) (items l : List Stamped) → l ≡ reverse items → AllFrom t l → All (λ (s : Stamped). t ≤ s.ticket) items
above_all t items l is from = all_from t items (subst (AllFrom t) (ap reverse is ∙ reverse-reverse items) (from_reverse t l from))

-- a child's floor is above its parent's log
pub below_floor : (t : ℕ) (items l : List Stamped) → l ≡ reverse items → past l ≤ t → All (λ (s : Stamped). s.ticket < t) items
below_floor t items l is low = older t items l is (below_past t l low)

-- Two logs whose merge has each ticket at most once differ.

times_append : (t : ℕ) (a b : List Stamped) → times t (a ++ b) ≡ times t a + times t b
times_append t [] b = omega arith
times_append t (s ∷ a) b = let rest = times_append t a b in omega (arith, rest)

times_reverse : (t : ℕ) (l : List Stamped) → times t (reverse l) ≡ times t l
times_reverse t [] = refl
times_reverse t (s ∷ l) =
    let here = ap (times t) (reverse_onto l s []) in
    let both = times_append t (reverse l) (s ∷ []) in
    let rest = times_reverse t l in
    omega (arith, here, both, rest)

one_time : (t u : ℕ) (e : t ≡ u) → cond {A = ℕ} (eqb t u) 1 0 ≡ 1
one_time t u e = ap (λ b. cond {A = ℕ} b 1 0) (eq-eqb t u e)

apart_from : (s : Stamped) (b : List Stamped) → times s.ticket b ≡ 0 → All (λ (t : Stamped). s.ticket ≡ t.ticket → ⊥) b
apart_from s [] none = All-nil (λ (t : Stamped). s.ticket ≡ t.ticket → ⊥)
apart_from s (x ∷ b) none = All-cons (λ (t : Stamped). s.ticket ≡ t.ticket → ⊥) x b
    (λ same. (let one = one_time s.ticket x.ticket same in omega (arith, one, none)))
    (apart_from s b (omega (arith, none)))

differ : (a b : List Stamped) → ((t : ℕ) → times t a + times t b ≤ 1) → Differ a b
differ [] b once = All-nil (λ (s : Stamped). All (λ (t : Stamped). s.ticket ≡ t.ticket → ⊥) b)
differ (s ∷ a) b once = All-cons (λ (x : Stamped). All (λ (t : Stamped). x.ticket ≡ t.ticket → ⊥) b) s a
    (apart_from s b (let all = once s.ticket in let one = one_time s.ticket s.ticket refl in omega (arith, all, one)))
    (differ a b (λ t. (let all = once t in omega (arith, all))))

pub differ_by : (a b : List Stamped) → ((t : ℕ) → times t (merge (reverse a) (reverse b)) ≤ 1) → Differ a b
differ_by a b once = differ a b (λ t.
    (let all = once t in
    let sum = times_merge t (reverse a) (reverse b) in
    let left = times_reverse t a in
    let right = times_reverse t b in
    omega (arith, all, sum, left, right)))
