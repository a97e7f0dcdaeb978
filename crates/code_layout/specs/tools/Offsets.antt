-- Rows of offsets, as they are computed.
use Rattle.std.specs.Prelude.{ℕ, ◌+◌, List, [], ◌∷◌, map, sum}
use Rattle.tac_ir.specs.declared.code.Shape.{Shape}
use Rattle.tac_ir.specs.declared.code.Fun.{Fun}
use Rattle.tac_ir.specs.Counts.{temps_of_fun}
use Rattle.code_layout.specs.declared.frames.Frame.{Frame}

-- where shapes of these words begin, one behind the other
abbrev pub offsets_from : (ℕ → ℕ) → ℕ → List ℕ → List ℕ
offsets_from words from [] = []
offsets_from words from (s ∷ shapes) = from ∷ offsets_from words (from + words s) shapes

abbrev pub parts_in : Shape → List ℕ
parts_in (Shape.Struct parts) = parts
parts_in shape = []

abbrev pub fields_by : (ℕ → ℕ) → Shape → List ℕ
fields_by words shape = offsets_from words 0 (parts_in shape)

abbrev pub frame_by : (ℕ → ℕ) → Fun → Frame
frame_by words fun = record { words = 1 + sum (map words fun.vars); vars = offsets_from words 1 fun.vars; temps = temps_of_fun fun }
