use Rattle.std.proofs.Common.{◌≡◌, map, nat_abs, take}
use Rattle.c_types.proofs.decls.lengths_of.Given as goal

abbrev pub invariant-loop-length : goal.invariant-loop-length
invariant-loop-length l = l.lengths ≡ map nat_abs (take l.length-index l.written)
