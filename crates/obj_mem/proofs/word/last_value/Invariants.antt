use Rattle.std.proofs.Common.{◌≡◌, reverse, length}
use Rattle.obj_mem.specs.Written.{last_value}
use Rattle.obj_mem.proofs.word.last_value.Given as goal

abbrev pub invariant-loop-stamp : goal.invariant-loop-stamp
invariant-loop-stamp l = last_value l.obj l.off (reverse l.rest) ≡ last_value l.obj l.off (reverse l.events)

abbrev pub decreases-loop-stamp : goal.decreases-loop-stamp
decreases-loop-stamp l = length l.rest
