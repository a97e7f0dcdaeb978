-- The rows of a table of points: those of nodes first, so that the members of a row number rows.
use Rattle.std.specs.Prelude.{ℕ, ◌+◌, ◌<◌, length, map, sum, take}
use Rattle.tac_ir.specs.declared.code.Code.{Code}
use Rattle.tac_ir.specs.declared.module.Key.{Key}
use Rattle.tac_ir.specs.Counts.{temps_of, temps_of_fun, temps_in_code, nodes_in_code}

pub data Row : Type 0 where
  -- that of a node
  in_node : ℕ → Row
  -- that of a temporary of a function
  in_temp : ℕ → ℕ → Row
  -- the leaves among the nodes to which a temporary may point
  leaves_in : ℕ → ℕ → Row
  -- that of all values that a function returns
  returned : ℕ → Row

abbrev pub row_of_key : Key → Row
row_of_key (Key.Temp f t) = Row.in_temp f t
row_of_key (Key.Node n) = Row.in_node n

-- the temporaries of the functions before this one
abbrev pub temps_before : Code → ℕ → ℕ
temps_before c f = sum (map temps_of_fun (take f c.funs))

abbrev pub row_number : Code → Row → ℕ
row_number c (Row.in_node n) = n
row_number c (Row.in_temp f t) = nodes_in_code c + (temps_before c f + t)
row_number c (Row.leaves_in f t) = nodes_in_code c + (temps_in_code c + (temps_before c f + t))
row_number c (Row.returned f) = nodes_in_code c + (temps_in_code c + (temps_in_code c + f))

abbrev pub row_count : Code → ℕ
row_count c = nodes_in_code c + (temps_in_code c + (temps_in_code c + length c.funs))

-- what it belongs to exists
abbrev pub IsRow : Code → Row → Type 0
IsRow c (Row.in_node n) = n < nodes_in_code c
IsRow c (Row.in_temp f t) = t < temps_of c f
IsRow c (Row.leaves_in f t) = t < temps_of c f
IsRow c (Row.returned f) = f < length c.funs
