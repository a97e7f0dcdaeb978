use Rattle.std.proofs.Common.{◌≡◌, reverse, length}
use Rattle.obj_mem.specs.Input.{numbers_left, first_or_0}
use Rattle.obj_mem.proofs.Inputs.{oldest}
use Rattle.obj_mem.proofs.number.first_left.Given as goal

abbrev pub invariant-loop-stamp : goal.invariant-loop-stamp
invariant-loop-stamp l = oldest l.left (reverse l.rest) ≡ first_or_0 (numbers_left (reverse l.events))

abbrev pub decreases-loop-stamp : goal.decreases-loop-stamp
decreases-loop-stamp l = length l.rest
