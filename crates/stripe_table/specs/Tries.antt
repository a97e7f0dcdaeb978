-- An access that is tried again while another pass has its lock.
use Rattle.std.specs.Prelude.{◌≡◌, ◌+◌, ◌≤◌}
use Rattle.stripe_rule.specs.declared.view.View.{View}
use Rattle.stripe_rule.specs.declared.view.Notes.{Notes}
use Rattle.stripe_table.specs.declared.fault.TryFault.{TryFault}
use Rattle.stripe_table.specs.declared.fault.AccessFault.{AccessFault}

-- the view with these notes of failed takings and of loads of the halt word
abbrev pub retried : View → Notes → View
retried v n = record v { notes = record v.notes { failed = n.failed; busy_at = n.busy_at; busy_by = n.busy_by; asked = n.asked } }

-- u is v after some tries that found the lock taken: each loaded the halt word once and failed to take the lock once
pub record HasTried (v u : View) : Type 0 where
  pub same : u ≡ retried v u.notes
  pub more : v.notes.failed ≤ u.notes.failed
  pub alike : u.notes.asked + v.notes.failed ≡ v.notes.asked + u.notes.failed

-- what the last try was told
abbrev pub last_told : AccessFault → TryFault
last_told AccessFault.Halted = TryFault.Halted
last_told (AccessFault.Spent t) = TryFault.Spent t
last_told AccessFault.Memory = TryFault.Memory
