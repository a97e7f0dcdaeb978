use Rattle.std.proofs.Common.{◌≡◌, ℕ, ◌+◌, ◌*◌, ◌≤◌, ◌<◌, None}
use Rattle.tac_thread.specs.Threads.{life_in}
use Rattle.tac_thread.proofs.tree.Tree.has_branch.Given as goal

-- none of the first branches lives
abbrev pub invariant-loop-i : goal.invariant-loop-i
invariant-loop-i g l = (j : ℕ) → 1 ≤ j → j < l.i → life_in l.self (16 * l.name + j) ≡ None
