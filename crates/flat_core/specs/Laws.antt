-- Along given names there is one run, or one place at which they are refused.
use Rattle.std.specs.Prelude.{◌≡◌, ℕ, List, ℤ}
use Rattle.dfi_base.specs.declared.numbers.Name.{Name}
use Rattle.tac_ir.specs.declared.run.Entry.{Entry}
use Rattle.tac_ir.specs.declared.run.Journal.{Journal}
use Rattle.tac_ir.specs.Module.{Module}
use Rattle.tac_ir.specs.CoreRun.{Follows}
use Rattle.flat_core.specs.Runs.{IsRunAlong, IsRefusedAt}

-- at most one entry of a name follows
abbrev pub OneEntryFollows : Type 0
OneEntryFollows = (m : Module) (input : List ℤ) (h : List Entry) (d e : Entry) → d.name ≡ e.name → Follows m input h d → Follows m input h e → d ≡ e

-- so names have at most one run
abbrev pub OneRunAlong : Type 0
OneRunAlong = (m : Module) (input : List ℤ) (budget : ℕ) (names : List Name) (j k : Journal) → IsRunAlong m input budget names j → IsRunAlong m input budget names k → j ≡ k

-- they are refused at one place
abbrev pub OneRefusal : Type 0
OneRefusal = (m : Module) (input : List ℤ) (budget : ℕ) (names : List Name) (k l : ℕ) → IsRefusedAt m input budget names k → IsRefusedAt m input budget names l → k ≡ l

-- and where they are refused there is no run along all of them
abbrev pub NoRunWhereRefused : Type 0
NoRunWhereRefused = (m : Module) (input : List ℤ) (budget : ℕ) (names : List Name) (k : ℕ) (j : Journal) → IsRefusedAt m input budget names k → IsRunAlong m input budget names j → ⊥
