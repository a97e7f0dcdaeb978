use Rattle.c_typed.proofs.TypesSame.{Decides}
use Rattle.c_typed.proofs.types.are_same.Given as goal

abbrev pub invariant-loop-i : goal.invariant-loop-i
invariant-loop-i l = Decides l.i l.left l.right
