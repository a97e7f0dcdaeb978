use Rattle.std.proofs.Common.{◌≡◌, ◌≤◌, take, reverse}
use Rattle.obj_mem.specs.Alive.{made_by}
use Rattle.obj_mem.proofs.living.made_by.Given as goal

abbrev pub invariant-loop-stamp : goal.invariant-loop-stamp
invariant-loop-stamp l = (l.made ≡ made_by l.name.0 (reverse (take l.stamp-index l.events))) × (l.made ≤ l.stamp-index)
