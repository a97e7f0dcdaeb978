use Rattle.std.proofs.Common.{◌≡◌, ◌≤◌, take, reverse}
use Rattle.obj_mem.specs.Alive.{made_by, is_block, live_blocks}
use Rattle.obj_mem.proofs.living.is_live_block.Given as goal

abbrev pub invariant-loop-stamp : goal.invariant-loop-stamp
invariant-loop-stamp l =
    (l.made ≡ made_by l.obj.maker.thread.0 (reverse (take l.stamp-index l.events))) × (l.made ≤ l.stamp-index)
    × (l.lives ≡ is_block l.obj (live_blocks (reverse (take l.stamp-index l.events))))
