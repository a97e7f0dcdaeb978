use Rattle.std.proofs.Common.{false, length, replicate}
use Rattle.dfi_base.specs.Bits.{has}
use Rattle.par_interfere.specs.tools.Calls.{AreRows}
use Rattle.par_interfere.specs.tools.Rows.{IsJoinOf}
use Rattle.par_interfere.proofs.Joins.{EachRow}
use Rattle.par_interfere.specs.declared.branches.Branch.{Branch}
use Rattle.par_interfere.proofs.rows.beside_funs.Given as goal

abbrev pub invariant-loop-fun : goal.invariant-loop-fun
invariant-loop-fun l = record {
  shape : AreRows l.fun l.width l.beside.items;
  each : EachRow (λ g. IsJoinOf (λ (b : Branch). has b.called g) l.branches l.others (length l.branches) (replicate l.width false)) l.fun l.beside.items;
}
