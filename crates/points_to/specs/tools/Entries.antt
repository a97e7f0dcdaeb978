-- The rows of a table that have members, under their keys.
use Rattle.std.specs.Prelude.{ℕ, zero, suc, Bool, List, [], ◌∷◌, ◌++◌, length, map}
use Rattle.std.specs.List.{range_with_len}
use Rattle.dfi_base.specs.Bits.{members}
use Rattle.tac_ir.specs.declared.code.Code.{Code}
use Rattle.tac_ir.specs.declared.module.Key.{Key}
use Rattle.tac_ir.specs.declared.module.PointsRow.{PointsRow}
use Rattle.tac_ir.specs.Counts.{temps_of, nodes_in_code}
use Rattle.least_rows.specs.Rules.{Table, row_of}
use Rattle.points_to.specs.Rows.{row_of_key, row_number}

-- none for a row without a member
abbrev pub entry_by : Key → List ℕ → List PointsRow
entry_by key [] = []
entry_by key (n ∷ nodes) = record { key = key; nodes = n ∷ nodes } ∷ []

abbrev pub entry : Key → List Bool → List PointsRow
entry key row = entry_by key (members row)

abbrev pub entry_in : Code → Table → Key → List PointsRow
entry_in c t key = entry key (row_of t (row_number c (row_of_key key)))

-- the temporaries of the first functions
abbrev pub keys_before : Code → ℕ → List Key
keys_before c zero = []
keys_before c (suc f) = keys_before c f ++ map (Key.Temp f) (range_with_len 0 (temps_of c f))

-- then all nodes
abbrev pub keys_of : Code → List Key
keys_of c = keys_before c (length c.funs) ++ map Key.Node (range_with_len 0 (nodes_in_code c))
