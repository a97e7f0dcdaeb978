-- What a shared memory took and answered.
use Rattle.std.specs.Prelude.{◌≡◌, ℕ, suc, List, [], ◌∷◌, map, reverse, ℤ}
use Rattle.tac_ir.specs.declared.run.Entry.{Entry}
use Rattle.tac_ir.specs.Module.{Module}
use Rattle.tac_ir.specs.Served.{AreServed}
use Rattle.guest_log.specs.declared.stamped.Stamped.{Stamped}

-- the tickets are these numbers, one after the other
unfoldable pub AreFrom : ℕ → List Stamped → Type 0
AreFrom n [] = Unit {0}
AreFrom n (s ∷ log) = (s.ticket ≡ n) × AreFrom (suc n) log

-- the entries of a log as a history, the newest first
abbrev pub history_of : List Stamped → List Entry
history_of log = reverse (map (λ (s : Stamped). s.entry) log)

-- The tickets are 0, 1 and so on, and one memory answers as a run answers, in their order.
pub record Shared (m : Module) (input : List ℤ) (log : List Stamped) : Type 0 where
  pub tickets : AreFrom 0 log
  pub served : AreServed m input (history_of log)
