-- A pass beside its memory.
use Rattle.std.specs.Prelude.{◌≡◌, List, reverse}
use Rattle.guest_log.specs.declared.stamped.Stamped.{Stamped}
use Rattle.stripe_rule.specs.declared.plan.Terms.{Terms}
use Rattle.stripe_rule.specs.declared.view.View.{View}
use Rattle.stripe_rule.specs.Terms.{terms_of}
use Rattle.stripe_rule.specs.tools.Logs.{HasStop}
use Rattle.stripe_table.specs.declared.memory.SharedMem.{SharedMem}
use Rattle.stripe_table.specs.declared.pass.Pass.{Pass}

-- what the memory is for: its module, its input, its stripes, its budget
abbrev pub plan_of : SharedMem → Terms
plan_of mem = terms_of mem.steps.plan

-- what a pass knows
abbrev pub knows : Pass → View
knows p = p.seat.me.0

-- the pass is of this memory
abbrev pub IsPassOf : SharedMem → Pass → Type 0
IsPassOf mem p = (p.seat.table_id ≡ mem.steps.table.shared.table_id) × (p.seat.me.0.plan ≡ plan_of mem)

-- the same pass of the same memory: name and floor stay
abbrev pub IsSame : Pass → Pass → Type 0
IsSame p q = (q.seat.table_id ≡ p.seat.table_id) × (q.seat.id ≡ p.seat.id) × (q.name ≡ p.name) × (q.seat.me.0.plan ≡ p.seat.me.0.plan) × (q.seat.me.0.floor ≡ p.seat.me.0.floor)

-- and so do its live children
abbrev pub IsStep : Pass → Pass → Type 0
IsStep p q = IsSame p q × ((knows q).kids ≡ (knows p).kids)

-- nothing but the log changed
abbrev pub OnlyLog : Pass → Pass → Type 0
OnlyLog p q = IsSame p q × (q.seat.me ≡ p.seat.me) × (q.held ≡ p.held)

-- an entry of the log stops the run
abbrev pub HasStopIn : List Stamped → Type 0
HasStopIn log = HasStop (reverse log)
