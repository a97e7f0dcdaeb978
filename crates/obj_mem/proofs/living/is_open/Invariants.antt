use Rattle.std.proofs.Common.{◌≡◌, ◌≤◌, ◌+◌, drop, reverse, length}
use Rattle.obj_mem.specs.Alive.{made_by, is_frame, open_frames}
use Rattle.obj_mem.proofs.living.is_open.Given as goal

abbrev pub invariant-loop-stamp : goal.invariant-loop-stamp
invariant-loop-stamp l =
    (l.made ≡ made_by l.maker.thread.0 (reverse l.rest)) × (l.left + length l.rest ≤ length l.events)
    × (is_frame l.maker (drop l.left (open_frames l.maker.thread.0 (reverse l.rest))) ≡ is_frame l.maker (open_frames l.maker.thread.0 (reverse l.events)))

abbrev pub decreases-loop-stamp : goal.decreases-loop-stamp
decreases-loop-stamp l = length l.rest
