-- Places that exist: a variable, and fields that are parts of structs.
use Rattle.std.specs.Prelude.{◌≡◌, ℕ, Bool, true, false, Option, Some, None, List, [], ◌∷◌, slice_get}
use Rattle.tac_ir.specs.declared.code.Code.{Code}
use Rattle.tac_ir.specs.declared.code.Shape.{Shape}
use Rattle.tac_ir.specs.declared.code.Place.{Place}
use Rattle.tac_ir.specs.Layout.{parts_of, vars_of, shapes_of_globals}

-- the shape at the end of a path of fields, where each is a part of a struct
abbrev pub end_of_path : Code → ℕ → List ℕ → Option ℕ
end_of_path c s [] = Some s
end_of_path c s (k ∷ path) = elim (slice_get (parts_of c s) k) [ None ↦ None | Some part ↦ end_of_path c part path ]

abbrev pub end_from : Code → Option ℕ → List ℕ → Option ℕ
end_from c None path = None
end_from c (Some s) path = end_of_path c s path

-- the shape of a place of function f, where there is such a place
abbrev pub shape_of_place : Code → ℕ → Place → Option ℕ
shape_of_place c f (Place.Global v path) = end_from c (slice_get (shapes_of_globals c) v) path
shape_of_place c f (Place.Local v path) = end_from c (slice_get (vars_of c f) v) path

abbrev pub IsPlace : Code → ℕ → Place → Type 0
IsPlace c f place = (s : ℕ) × (shape_of_place c f place ≡ Some s)

-- an int or a pointer
abbrev pub is_leaf : Code → ℕ → Bool
is_leaf c s = elim (slice_get c.shapes s) [ Some Shape.Int ↦ true | Some Shape.Ptr ↦ true | _ ↦ false ]

-- a place that holds an int or a pointer
abbrev pub IsLeafPlace : Code → ℕ → Place → Type 0
IsLeafPlace c f place = (s : ℕ) × (shape_of_place c f place ≡ Some s) × (is_leaf c s ≡ true)

abbrev pub is_array : Code → ℕ → Bool
is_array c s = elim (slice_get c.shapes s) [ Some (Shape.Array len item) ↦ true | _ ↦ false ]
