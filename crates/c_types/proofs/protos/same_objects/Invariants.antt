use Rattle.std.proofs.Common.{◌≡◌, drop}
use Rattle.c_typed.specs.Programs.{same_objects}
use Rattle.c_types.proofs.protos.same_objects.Given as goal

abbrev pub invariant-loop-i : goal.invariant-loop-i
invariant-loop-i l = same_objects l.left l.right ≡ same_objects (drop l.i l.left) (drop l.i l.right)
