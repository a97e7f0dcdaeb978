use Rattle.std.proofs.Common.{◌≡◌, ℕ, suc, ◌-◌, None, get_or, length}
use Rattle.first_module.proofs.straight.make_room.Given as goal

abbrev pub invariant-loop-behind : goal.invariant-loop-behind
invariant-loop-behind l = (t : ℕ) → get_or l.behind.items t None ≡ get_or l.initial.behind.items t None

abbrev pub decreases-loop-behind : goal.decreases-loop-behind
decreases-loop-behind l = suc l.temp - length l.behind.items
