-- The rows that are made of rows of bits, function by function.
use Rattle.std.specs.Prelude.{ℕ, ◌+◌, Bool, List, [], ◌∷◌, ◌++◌, length, take, drop}
use Rattle.dfi_base.specs.declared.numbers.Point.{Point}
use Rattle.dfi_base.specs.Bits.{members}
use Rattle.tac_ir.specs.declared.code.Fun.{Fun}
use Rattle.tac_ir.specs.declared.module.ReachRow.{ReachRow}
use Rattle.flow_rules.specs.PointNumber.{point_at}

-- a row of these facts, none without a fact
abbrev pub row_if : Point → List ℕ → List ReachRow
row_if p [] = []
row_if p (x ∷ xs) = record { point = p; facts = x ∷ xs } ∷ []

-- the rows of the points of function f from index i on
abbrev pub rows_of : ℕ → ℕ → List (List Bool) → List ReachRow
rows_of f i [] = []
rows_of f i (row ∷ rows) = row_if (point_at f i) (members row) ++ rows_of f (i + 1) rows

-- those of functions, of which the first has number f
abbrev pub rows_from : ℕ → List Fun → List (List Bool) → List ReachRow
rows_from f [] rows = []
rows_from f (fun ∷ funs) rows = rows_of f 0 (take (length fun.code) rows) ++ rows_from (f + 1) funs (drop (length fun.code) rows)
