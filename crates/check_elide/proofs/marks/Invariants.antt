use Rattle.std.proofs.Common.{◌≡◌, ◌↔◌, ℕ, ◌<◌, suc, true, Some, length}
use Rattle.std.specs.Prelude.{slice_get}
use Rattle.flow_rules.specs.Removed.{Removed}
use Rattle.check_elide.proofs.marks.Given as goal

abbrev pub invariant-loop-read : goal.invariant-loop-read
invariant-loop-read l =
    (length l.removed ≡ l.read) × ((i : ℕ) → i < length l.removed → (slice_get l.removed i ≡ Some true) ↔ Removed l.md (suc i))
