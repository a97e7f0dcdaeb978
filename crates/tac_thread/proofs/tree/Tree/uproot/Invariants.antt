use Rattle.std.proofs.Common.{◌≡◌, ℕ, ◌+◌, ◌*◌, ◌≤◌, ◌<◌, None}
use Rattle.tac_thread.specs.Threads.{life_in}
use Rattle.tac_thread.specs.tools.Settling.{IsApart}
use Rattle.tac_thread.proofs.tree.Tree.uproot.Given as goal

-- the first branches live no more, and all else is as it was
abbrev pub invariant-loop-i : goal.invariant-loop-i
invariant-loop-i g l =
    ((j : ℕ) → 1 ≤ j → j < l.i → life_in l.self (16 * l.name + j) ≡ None)
    × ((k : ℕ) → IsApart l.name k → life_in l.self k ≡ life_in l.initial.self k)
    × (l.self.done ≡ l.initial.self.done)
