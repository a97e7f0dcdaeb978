-- Covered reads need no check.
use Rattle.std.specs.Prelude.{ℕ, List, ℤ}
use Rattle.tac_ir.specs.declared.run.Journal.{Journal}
use Rattle.tac_ir.specs.Module.{Module}
use Rattle.tac_ir.specs.GoodForm.{GoodForm}
use Rattle.tac_ir.specs.Lawful.{Lawful}
use Rattle.tac_ir.specs.CoreRun.{CoreRun}
use Rattle.lawful_law.specs.Covered.{AreCovered}

-- each core run of a module whose unchecked reads are covered is lawful
abbrev pub CoveredRunsAreLawful : Type 0
CoveredRunsAreLawful = (m : Module) → GoodForm m.code → AreCovered m → (input : List ℤ) (budget : ℕ) (j : Journal) → CoreRun m input budget j → Lawful m j
