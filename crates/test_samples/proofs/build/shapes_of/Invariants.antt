use Rattle.std.proofs.Common.{◌≡◌, ◌∷◌, map, take}
use Rattle.tac_ir.specs.declared.code.Shape.{Shape}
use Rattle.test_samples.specs.Rows.{array_of}
use Rattle.test_samples.proofs.build.shapes_of.Given as goal

abbrev pub invariant-loop-len : goal.invariant-loop-len
invariant-loop-len l = l.shapes.items ≡ Shape.Int ∷ Shape.Ptr ∷ map array_of (take l.len-index l.arrays)
