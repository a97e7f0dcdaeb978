-- Logs with the newest entry first, and sums over views.
use Rattle.std.specs.Prelude.{◌≡◌, ◌⊎◌, ℕ, ◌+◌, ◌<◌, ◌≤◌, ◌==◌, leb, max, true, cond, List, [], ◌∷◌, length}
use Rattle.tac_ir.specs.declared.run.Entry.{Entry}
use Rattle.tac_ir.specs.Path.{stops}
use Rattle.guest_log.specs.declared.stamped.Stamped.{Stamped}
use Rattle.stripe_rule.specs.declared.view.View.{View}

-- the entry e has the ticket t: the number of entries before it
abbrev pub Stands : List Entry → ℕ → Entry → Type 0
Stands [] t e = ⊥
Stands (x ∷ h) t e = ((t ≡ length h) × (e ≡ x)) ⊎ Stands h t e

-- no ticket of the list is t or above
abbrev pub AllBelow : ℕ → List Stamped → Type 0
AllBelow t [] = Unit {0}
AllBelow t (s ∷ l) = (s.ticket < t) × AllBelow t l

-- no ticket of the list is below t
abbrev pub AllFrom : ℕ → List Stamped → Type 0
AllFrom t [] = Unit {0}
AllFrom t (s ∷ l) = (t ≤ s.ticket) × AllFrom t l

abbrev pub NoneAbove : ℕ → List Stamped → Type 0
NoneAbove t [] = Unit {0}
NoneAbove t (s ∷ l) = (s.ticket ≤ t) × NoneAbove t l

-- a log has entries of the history with their tickets
abbrev pub Logged : List Entry → List Stamped → Type 0
Logged h [] = Unit {0}
Logged h (s ∷ l) = Stands h s.ticket s.entry × NoneAbove s.ticket l × Logged h l

-- how often a ticket is in a log
abbrev pub times : ℕ → List Stamped → ℕ
times t [] = 0
times t (s ∷ l) = cond (t == s.ticket) 1 0 + times t l

abbrev pub HasStop : List Stamped → Type 0
HasStop [] = ⊥
HasStop (s ∷ l) = (stops s.entry.answer ≡ true) ⊎ HasStop l

-- two logs, by ticket
abbrev pub insert : Stamped → List Stamped → List Stamped
insert s [] = s ∷ []
insert s (x ∷ l) = cond (leb x.ticket s.ticket) (s ∷ x ∷ l) (x ∷ insert s l)

abbrev pub merge : List Stamped → List Stamped → List Stamped
merge a [] = a
merge a (s ∷ b) = insert s (merge a b)

-- the first number above all tickets of the log
abbrev pub past : List Stamped → ℕ
past [] = 0
past (s ∷ l) = max (s.ticket + 1) (past l)

-- the entries of a history with their tickets
abbrev pub stamps : List Entry → List Stamped
stamps [] = []
stamps (e ∷ h) = (record { ticket = length h; entry = e }) ∷ stamps h

abbrev pub total : (View → ℕ) → List View → ℕ
total f [] = 0
total f (v ∷ vs) = f v + total f vs
