use Rattle.c_types.specs.tools.ExprWalk.{expr_walk}
use Rattle.c_types.proofs.AllocationLaws.{Gathered}
use Rattle.c_types.proofs.exprs.+exprs.Given as goal

abbrev pub invariant-arguments-loop-e : goal.invariant-arguments-loop-e
invariant-arguments-loop-e l = Gathered (expr_walk l.outline l.known) l.items l.values l.e-index
