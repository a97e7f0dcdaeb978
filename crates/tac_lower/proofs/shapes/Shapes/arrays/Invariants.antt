use Rattle.std.proofs.Common.{◌≡◌, drop}
use Rattle.tac_lower.specs.Shapes.{array_entry}
use Rattle.tac_lower.proofs.shapes.Shapes.arrays.Given as goal

abbrev pub invariant-loop-i : goal.invariant-loop-i
invariant-loop-i l =
    array_entry (drop l.i l.lengths) (record { shapes = l.initial.self; number = l.item }) ≡ record { shapes = l.self; number = l.number }
