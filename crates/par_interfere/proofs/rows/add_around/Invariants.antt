use Rattle.par_interfere.specs.tools.Branches.{is_around}
use Rattle.par_interfere.specs.tools.Rows.{IsJoinOf}
use Rattle.par_interfere.proofs.rows.add_around.Given as goal

abbrev pub invariant-loop-i : goal.invariant-loop-i
invariant-loop-i l = IsJoinOf (λ b. is_around b l.p) l.branches l.others l.i l.initial.row l.row
