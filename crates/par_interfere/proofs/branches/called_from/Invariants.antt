use Rattle.std.proofs.Common.{◌≡◌, ℕ, ◌↔◌, true, length}
use Rattle.dfi_base.specs.Bits.{has}
use Rattle.par_interfere.specs.tools.Calls.{CallsFrom}
use Rattle.par_interfere.proofs.branches.called_from.Given as goal

abbrev pub invariant-loop-p : goal.invariant-loop-p
invariant-loop-p l = record {
  long : length l.called ≡ length l.c.funs;
  called : (g : ℕ) → (has l.called g ≡ true) ↔ CallsFrom l.c l.points l.p-index l.fun l.first l.last g;
}
