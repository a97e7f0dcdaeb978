use Rattle.par_interfere.proofs.Adding.{IsAddedTo}
use Rattle.par_interfere.proofs.calls.add_where.Given as goal

abbrev pub invariant-loop-at : goal.invariant-loop-at
invariant-loop-at l = IsAddedTo l.member l.more l.initial.table.items l.at l.table.items
