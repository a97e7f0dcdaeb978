use Rattle.std.proofs.Common.{false, replicate}
use Rattle.dfi_base.specs.Bits.{has}
use Rattle.par_interfere.specs.tools.Rows.{IsJoinOf}
use Rattle.par_interfere.specs.declared.branches.Branch.{Branch}
use Rattle.par_interfere.proofs.rows.beside_fun.Given as goal

abbrev pub invariant-loop-i : goal.invariant-loop-i
invariant-loop-i l = IsJoinOf (λ (b : Branch). has b.called l.fun) l.branches l.others l.i (replicate l.width false) l.row
