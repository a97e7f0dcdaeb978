use Rattle.std.proofs.Common.{◌≡◌, drop}
use Rattle.c_typed.specs.Exprs.{all_fit}
use Rattle.c_types.proofs.calls.all_fit.Given as goal

abbrev pub invariant-loop-i : goal.invariant-loop-i
invariant-loop-i l = all_fit l.values l.parameters ≡ all_fit (drop l.i l.values) (drop l.i l.parameters)
