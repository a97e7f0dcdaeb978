use Rattle.par_interfere.specs.tools.Branches.{AreBranches}
use Rattle.par_interfere.proofs.branches.all_branches.Given as goal

abbrev pub invariant-loop-p : goal.invariant-loop-p
invariant-loop-p l = AreBranches l.c l.points l.p-index l.branches.items
