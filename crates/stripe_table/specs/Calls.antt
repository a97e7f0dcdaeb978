-- What the calls of a shared memory leave behind. Each view after a call is a function of the view before it and of its answer.
use Rattle.std.specs.Prelude.{◌≡◌, ◌≢◌, ◌-◌, ◌<◌, ◌≤◌, ◌++◌, ◌||◌, ℕ, Bool, false, [], ◌∷◌, All}
use Rattle.dfi_base.specs.declared.numbers.Point.{Point}
use Rattle.tac_ir.specs.declared.run.Op.{Op}
use Rattle.tac_ir.specs.declared.run.Answer.{Answer}
use Rattle.tac_ir.specs.declared.run.Entry.{Entry}
use Rattle.tac_ir.specs.Path.{stops}
use Rattle.guest_log.specs.Tickets.{Log}
use Rattle.guest_log.specs.declared.stamped.Stamped.{Stamped}
use Rattle.stripe_rule.specs.declared.view.View.{View}
use Rattle.stripe_rule.specs.Views.{failing, looked, as_spent, drawn, as_asked, as_halted}
use Rattle.stripe_events.specs.Accesses.{TakesBlock}
use Rattle.stripe_table.specs.declared.fault.TryFault.{TryFault}
use Rattle.stripe_table.specs.declared.fault.TickFault.{TickFault}

-- why a call came to nothing: the lock k held another's name, the ticket was too late, or there was no memory for a block
abbrev pub Excused : Op → ℕ → ℕ → ℕ → TryFault → Type 0
Excused op name k budget (TryFault.Busy b) = (b.stripe ≡ k) × (b.holder.0 ≢ 0) × (b.holder.0 ≢ name)
Excused op name k budget TryFault.Halted = Unit {0}
Excused op name k budget (TryFault.Spent t) = budget ≤ t
Excused op name k budget TryFault.Memory = TakesBlock op

-- and what it leaves in the view
abbrev pub noted : ℕ → TryFault → View → View
noted k (TryFault.Busy b) v = failing (as_asked v) k b.holder.0
noted k TryFault.Halted v = as_halted v
noted k (TryFault.Spent t) v = as_spent (looked (as_asked v)) t
noted k TryFault.Memory v = as_asked v

-- why an event whose lock is held came to nothing, and what it leaves in the view
abbrev pub IsMissed : Op → ℕ → TryFault → Type 0
IsMissed op budget (TryFault.Spent t) = budget ≤ t
IsMissed op budget TryFault.Memory = TakesBlock op
IsMissed op budget fault = ⊥

abbrev pub missed : TryFault → View → View
missed (TryFault.Spent t) v = as_spent (looked v) t
missed fault v = v

-- a pass that is halted gets no other fault
abbrev pub WasGoing : View → TryFault → Type 0
WasGoing v TryFault.Halted = Unit {0}
WasGoing v fault = v.halted ≡ false

abbrev pub Unticked : ℕ → TickFault → Type 0
Unticked budget TickFault.Halted = Unit {0}
Unticked budget (TickFault.Spent t) = budget ≤ t

abbrev pub WasTicking : View → TickFault → Type 0
WasTicking v TickFault.Halted = Unit {0}
WasTicking v (TickFault.Spent t) = v.halted ≡ false

abbrev pub ticked : TickFault → View → View
ticked TickFault.Halted v = as_halted v
ticked (TickFault.Spent t) v = as_spent (looked (as_asked v)) t

-- the view after an entry; one that stops the run has set the halt word
abbrev pub settled : Bool → View → View
settled b v = record v { halted = b || v.halted }

abbrev pub entered : View → ℕ → Entry → View
entered v t e = settled (stops e.answer) (drawn (looked (as_asked v)) t e v.content)

abbrev pub entry_by : ℕ → Point → Op → Answer → Entry
entry_by name point op a = record { name = record { 0 = name }; point = point; op = op; answer = a }

-- The pass was not halted. The entry stands last in the log, with a ticket above all in it, at or above the floor and below the budget; and the
-- view is that after it.
pub record IsEntered (budget : ℕ) (v after : View) (log new : Log) (e : Entry) : Type 0 where
  pub going : v.halted ≡ false
  pub ticket : ℕ
  pub logged : new ≡ record { items = log.items ++ (record { ticket = ticket; entry = e }) ∷ []; spare = log.spare - 1 }
  pub greatest : All (λ (s : Stamped). s.ticket < ticket) log.items
  pub above : v.floor ≤ ticket
  pub early : ticket < budget
  pub view : after ≡ entered v ticket e
