use Rattle.std.proofs.Common.{◌≡◌, List, length}
use Rattle.std.specs.Prelude.{ℤ}
use Rattle.flat_core.specs.Stands.{IsCoreOf}
use Rattle.flat_core.specs.Runs.{IsLeastCore}
use Rattle.flat_core.proofs.drive.least.Given as goal

abbrev pub invariant-loop : goal.invariant-loop
invariant-loop l = (input : List ℤ) → IsCoreOf l.m input l.fn.core → IsLeastCore l.m input l.core × (length l.core.entries ≡ l.counter)
