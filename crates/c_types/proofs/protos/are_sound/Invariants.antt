use Rattle.std.proofs.Common.{◌≡◌, drop}
use Rattle.c_typed.specs.Programs.{are_sound}
use Rattle.c_types.proofs.protos.are_sound.Given as goal

abbrev pub invariant-loop-t : goal.invariant-loop-t
invariant-loop-t l = are_sound l.types ≡ are_sound (drop l.t-index l.types)
