use Rattle.std.proofs.Common.{◌≡◌, ◌++◌, map}
use Rattle.tac_lower.specs.tools.Keys.{shape_of}
use Rattle.tac_lower.proofs.shapes.Shapes.into_items.Given as goal

abbrev pub invariant-loop-key : goal.invariant-loop-key
invariant-loop-key l = l.shapes ++ map shape_of l.key-iterator ≡ l.fn.self
