-- The shape that a key stands for. (A tool of proof: no public clause names it.)
use Rattle.tac_ir.specs.declared.code.Shape.{Shape}
use Rattle.tac_lower.specs.declared.shapes.Key.{Key}

abbrev pub shape_of : Key → Shape
shape_of Key.Int = Shape.Int
shape_of Key.Ptr = Shape.Ptr
shape_of (Key.Array len item) = Shape.Array len item
shape_of (Key.Struct parts) = Shape.Struct parts.items
