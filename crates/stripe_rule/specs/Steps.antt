-- What each kind of step tells: m is the pass before, n the pass after, and r the word found.
use Rattle.std.specs.Prelude.{◌≡◌, ◌≢◌, ℕ, ◌+◌, ◌<◌, ◌≤◌, true, false, List, [], ◌∷◌}
use Rattle.atomic_table.specs.Table.{Step, Me}
use Rattle.tac_ir.specs.declared.run.Entry.{Entry}
use Rattle.stripe_rule.specs.declared.plan.Terms.{Terms}
use Rattle.stripe_rule.specs.declared.content.Content.{Content}
use Rattle.stripe_rule.specs.declared.view.View.{View}
use Rattle.stripe_rule.specs.Locks.{lock_of}
use Rattle.stripe_rule.specs.Kids.{IsShared}
use Rattle.stripe_rule.specs.Holds.{Holds, Sometime, IsServed}
use Rattle.stripe_rule.specs.Views.{holding, failing, freed, looked, with_ready, as_spent, drawn, as_asked, as_halted, halting}
use Rattle.stripe_rule.specs.tools.Logs.{AllBelow, AllFrom, times}

-- a lock word of 0 is taken, with what lies there; another is noted, and is not the own name
abbrev pub Takes : Step Content → Me Content View → ℕ → Me Content View → Type 0
Takes s m r n = (r ≡ 0 → (y : Content) × (n ≡ (holding m.0 s.word y, (s.word, y) ∷ m.1)) × Sometime m.0.plan s.word y) × (r ≢ 0 → (n ≡ (failing m.0 s.word r, m.1)) × (r ≢ m.0.name))

-- a clock below the budget lets the pass draw; any other is a ticket that is too late
abbrev pub Looks : Step Content → Me Content View → ℕ → Me Content View → Type 0
Looks s m r n = (r < m.0.plan.budget → n ≡ (with_ready (looked m.0), m.1)) × (m.0.plan.budget ≤ r → n ≡ (as_spent (looked m.0) r, m.1))

-- a ticket below the budget is above all in the log and at or above the floor, and the entry stands; any other is too late
abbrev pub Draws : Entry → Content → Step Content → Me Content View → ℕ → Me Content View → Type 0
Draws e y s m r n = (r < m.0.plan.budget → (n ≡ (drawn m.0 r e y, m.1)) × AllBelow r m.0.log × (m.0.floor ≤ r)) × (m.0.plan.budget ≤ r → n ≡ (as_spent m.0 r, m.1))

-- a log has each ticket at most once, and none below the floor; and parts are what the live children leave
abbrev pub Tells : Step Content → Me Content View → ℕ → Me Content View → Type 0
Tells s m r n = (n ≡ m) × ((t : ℕ) → times t m.0.log ≤ 1) × AllFrom m.0.floor m.0.log × IsShared m.0.name m.0.parts m.0.kids

-- a halt word of 0 tells that the pass was not halted
abbrev pub Hears : Step Content → Me Content View → ℕ → Me Content View → Type 0
Hears s m r n = (r ≡ 0 → (m.0.halted ≡ false) × (n ≡ (as_asked m.0, m.1))) × (r ≢ 0 → n ≡ (as_halted m.0, m.1))

abbrev pub Halts : Step Content → Me Content View → ℕ → Me Content View → Type 0
Halts s m r n = n ≡ (halting m.0, m.1)

abbrev pub Gives : Step Content → Me Content View → ℕ → Me Content View → Type 0
Gives s m r n = n ≡ (freed m.0, [])

-- where an entry has a lock, the view holds it
abbrev pub IsOwn : Terms → View → Entry → Type 0
IsOwn p v e = lock_of p e.op < p.stripes + 1 → (v.holds ≡ true) × (v.stripe ≡ lock_of p e.op)

-- whatever the history is, the entry is answered by it, and what the view holds is y behind the entry
abbrev pub Serves : Terms → View → Entry → Content → Type 0
Serves p v e y = (h : List Entry) → (v.holds ≡ true → Holds p v.stripe h v.content) → IsServed p h e × (v.holds ≡ true → Holds p v.stripe (e ∷ h) y)
