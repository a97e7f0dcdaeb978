use Rattle.std.proofs.Common.{◌≡◌, map, take}
use Rattle.c_types.specs.tools.ProgramWalk.{struct_of}
use Rattle.c_types.proofs.programs.structs_of.Given as goal

abbrev pub invariant-loop-shape : goal.invariant-loop-shape
invariant-loop-shape l = l.structs ≡ map struct_of (take l.shape-index l.shapes)
