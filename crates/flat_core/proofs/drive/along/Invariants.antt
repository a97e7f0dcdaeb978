use Rattle.std.proofs.Common.{List, take}
use Rattle.std.specs.Prelude.{ℤ}
use Rattle.flat_core.specs.Stands.{IsCoreOf}
use Rattle.flat_core.specs.Runs.{HasGone}
use Rattle.flat_core.proofs.drive.along.Given as goal

abbrev pub invariant-loop-k : goal.invariant-loop-k
invariant-loop-k l = (input : List ℤ) → IsCoreOf l.m input l.fn.core → HasGone l.m input l.budget (take l.k l.names) l.core
