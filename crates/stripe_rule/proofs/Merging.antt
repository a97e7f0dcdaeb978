-- Two logs merged by their tickets, the newest entry first.
use Rattle.std.proofs.Common.{◌≡◌, inl, inr, ⊎_elim, ℕ, ◌+◌, ◌<◌, ◌≤◌, eqb, leb, ◌||◌, Bool, true, false, cond, List, [], ◌∷◌, ◌++◌, reverse, refl, sym, ap, ◌∙◌, subst, arith}
use Rattle.std.proofs.lemmas.Grind.{reverse_onto}
use Rattle.std.proofs.lemmas.Bool.Decides.{leb_tells}
use Rattle.tac_ir.specs.declared.run.Entry.{Entry}
use Rattle.tac_ir.specs.Path.{stops}
use Rattle.guest_log.specs.declared.stamped.Stamped.{Stamped}
use Rattle.stripe_rule.specs.tools.Logs.{Stands, AllBelow, AllFrom, NoneAbove, Logged, times, HasStop, insert, merge, past}

abbrev step_of : Stamped → Stamped → List Stamped → Bool → List Stamped
step_of s x l b = cond b (s ∷ x ∷ l) (x ∷ insert s l)

-- how often a ticket is in a merged log
times_insert : (t : ℕ) (s : Stamped) (l : List Stamped) → times t (insert s l) ≡ cond (eqb t s.ticket) 1 0 + times t l
times_insert t s [] = refl
times_insert t s (x ∷ l) = ⊎_elim
    (λ (a : (leb x.ticket s.ticket ≡ true) × (x.ticket ≤ s.ticket)). ap (λ b. times t (step_of s x l b)) a.0)
    (λ (a : (leb x.ticket s.ticket ≡ false) × (s.ticket < x.ticket)). ap (λ b. times t (step_of s x l b)) a.0 ∙ (let r = times_insert t s l in omega arith))
    (leb_tells x.ticket s.ticket)

pub times_merge : (t : ℕ) (a b : List Stamped) → times t (merge a b) ≡ times t a + times t b
times_merge t a [] = omega arith
times_merge t a (s ∷ b) = let r = times_insert t s (merge a b) in let q = times_merge t a b in omega arith

none_more : (t u : ℕ) (l : List Stamped) → t ≤ u → NoneAbove t l → NoneAbove u l
none_more t u [] le a = tt
none_more t u (s ∷ l) le a = ((let b = a.0 in omega arith), none_more t u l le a.1)

none_insert : (t : ℕ) (s : Stamped) (l : List Stamped) → s.ticket ≤ t → NoneAbove t l → NoneAbove t (insert s l)
none_insert t s [] le a = (le, tt)
none_insert t s (x ∷ l) le a = ⊎_elim
    (λ (b : (leb x.ticket s.ticket ≡ true) × (x.ticket ≤ s.ticket)). subst (λ c. NoneAbove t (step_of s x l c)) (sym b.0) (le, (a.0, a.1)))
    (λ (b : (leb x.ticket s.ticket ≡ false) × (s.ticket < x.ticket)). subst (λ c. NoneAbove t (step_of s x l c)) (sym b.0) (a.0, none_insert t s l le a.1))
    (leb_tells x.ticket s.ticket)

logged_insert : (h : List Entry) (s : Stamped) (l : List Stamped) → Stands h s.ticket s.entry → Logged h l → Logged h (insert s l)
logged_insert h s [] it a = (it, tt, tt)
logged_insert h s (x ∷ l) it a = ⊎_elim
    (λ (b : (leb x.ticket s.ticket ≡ true) × (x.ticket ≤ s.ticket)). subst (λ c. Logged h (step_of s x l c)) (sym b.0) (it, (b.1, none_more x.ticket s.ticket l b.1 a.1), a))
    (λ (b : (leb x.ticket s.ticket ≡ false) × (s.ticket < x.ticket)). subst (λ c. Logged h (step_of s x l c)) (sym b.0) (a.0, none_insert x.ticket s l (let q = b.1 in omega arith) a.1, logged_insert h s l it a.2))
    (leb_tells x.ticket s.ticket)

pub logged_merge : (h : List Entry) (a b : List Stamped) → Logged h a → Logged h b → Logged h (merge a b)
logged_merge h a [] x y = x
logged_merge h a (s ∷ b) x y = logged_insert h s (merge a b) y.0 (logged_merge h a b x y.2)

from_insert : (t : ℕ) (s : Stamped) (l : List Stamped) → t ≤ s.ticket → AllFrom t l → AllFrom t (insert s l)
from_insert t s [] le a = (le, tt)
from_insert t s (x ∷ l) le a = ⊎_elim
    (λ (b : (leb x.ticket s.ticket ≡ true) × (x.ticket ≤ s.ticket)). subst (λ c. AllFrom t (step_of s x l c)) (sym b.0) (le, (a.0, a.1)))
    (λ (b : (leb x.ticket s.ticket ≡ false) × (s.ticket < x.ticket)). subst (λ c. AllFrom t (step_of s x l c)) (sym b.0) (a.0, from_insert t s l le a.1))
    (leb_tells x.ticket s.ticket)

pub from_merge : (t u : ℕ) (a b : List Stamped) → t ≤ u → AllFrom t a → AllFrom u b → AllFrom t (merge a b)
from_merge t u a [] le x y = x
from_merge t u a (s ∷ b) le x y = from_insert t s (merge a b) (let z = y.0 in omega (arith, le, z)) (from_merge t u a b le x y.1)

pub either_on : {A : Type 0} (x y : Bool) → (x ≡ true → A) → (y ≡ true → A) → (x || y) ≡ true → A
either_on true y a b e = a refl
either_on false y a b e = b e

stop_insert : (s : Stamped) (l : List Stamped) → HasStop (s ∷ l) → HasStop (insert s l)
stop_insert s [] h = h
stop_insert s (x ∷ l) h = ⊎_elim
    (λ (b : (leb x.ticket s.ticket ≡ true) × (x.ticket ≤ s.ticket)). subst (λ c. HasStop (step_of s x l c)) (sym b.0) h)
    (λ (b : (leb x.ticket s.ticket ≡ false) × (s.ticket < x.ticket)). subst (λ c. HasStop (step_of s x l c)) (sym b.0) (⊎_elim
    (λ (q : stops s.entry.answer ≡ true). inr (stop_insert s l (inl q)))
    (λ (q : HasStop (x ∷ l)). ⊎_elim (λ (z : stops x.entry.answer ≡ true). inl z) (λ (z : HasStop l). inr (stop_insert s l (inr z))) q)
    h))
    (leb_tells x.ticket s.ticket)

pub stop_left : (a b : List Stamped) → HasStop a → HasStop (merge a b)
stop_left a [] h = h
stop_left a (s ∷ b) h = stop_insert s (merge a b) (inr (stop_left a b h))

pub stop_right : (a b : List Stamped) → HasStop b → HasStop (merge a b)
stop_right a [] h = absurd h
stop_right a (s ∷ b) h = stop_insert s (merge a b) (⊎_elim (λ (q : stops s.entry.answer ≡ true). inl q) (λ (q : HasStop b). inr (stop_right a b q)) h)

pub past_below : (t : ℕ) (l : List Stamped) → AllBelow t l → past l ≤ t
past_below t [] a = omega arith
past_below t (s ∷ l) a = let b = a.0 in let r = past_below t l a.1 in omega arith

pub below_past : (t : ℕ) (l : List Stamped) → past l ≤ t → AllBelow t l
below_past t [] a = tt
below_past t (s ∷ l) a = (omega arith, below_past t l (omega arith))

below_append : (t : ℕ) (a b : List Stamped) → AllBelow t a → AllBelow t b → AllBelow t (a ++ b)
below_append t [] b x y = y
below_append t (s ∷ a) b x y = (x.0, below_append t a b x.1 y)

pub below_reverse : (t : ℕ) (l : List Stamped) → AllBelow t l → AllBelow t (reverse l)
below_reverse t [] a = tt
below_reverse t (s ∷ l) a = subst (AllBelow t) (sym (reverse_onto l s [])) (below_append t (reverse l) (s ∷ []) (below_reverse t l a.1) (a.0, tt))
