use Rattle.std.proofs.Common.{◌≡◌, drop}
use Rattle.c_types.specs.tools.ProgramWalk.{main_from}
use Rattle.c_types.proofs.programs.main_index.Given as goal

abbrev pub invariant-loop-i : goal.invariant-loop-i
invariant-loop-i l = main_from l.outline 0 l.signatures ≡ main_from l.outline l.i (drop l.i l.signatures)
