use Rattle.std.proofs.Common.{◌≡◌, ◌≤◌, take, reverse, length}
use Rattle.obj_mem.specs.Input.{numbers_left}
use Rattle.obj_mem.proofs.number.count_left.Given as goal

abbrev pub invariant-loop-stamp : goal.invariant-loop-stamp
invariant-loop-stamp l = (l.left ≡ length (numbers_left (reverse (take l.stamp-index l.events)))) × (l.left ≤ l.stamp-index)
