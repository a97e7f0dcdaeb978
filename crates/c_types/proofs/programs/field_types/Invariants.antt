use Rattle.std.proofs.Common.{◌≡◌, map, take}
use Rattle.c_types.proofs.programs.field_types.Given as goal

abbrev pub invariant-loop-member : goal.invariant-loop-member
invariant-loop-member l = l.types ≡ map (λ m. m.object) (take l.member-index l.members)
