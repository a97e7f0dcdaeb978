-- Interned shapes: equal ones have one number, and what a shape names has a lower one. The first two are `int` and the pointer.
use Rattle.std.specs.Prelude.{ℕ, zero, suc, Bool, true, false, ◌&&◌, nat_eq, List, [], ◌∷◌, ◌++◌, reverse, length}
use Rattle.tac_ir.specs.declared.code.Shape.{Shape}
use Rattle.c_typed.specs.declared.types.BaseType.{BaseType}
use Rattle.c_typed.specs.declared.types.ObjectType.{ObjectType}
use Rattle.c_typed.specs.declared.program.Struct.{Struct}
use Rattle.c_typed.specs.Types.{same_lengths}

abbrev pub same_shape : Shape → Shape → Bool
same_shape Shape.Int Shape.Int = true
same_shape Shape.Ptr Shape.Ptr = true
same_shape (Shape.Array m i) (Shape.Array n j) = nat_eq m n && nat_eq i j
same_shape (Shape.Struct ps) (Shape.Struct qs) = same_lengths ps qs
same_shape _ _ = false

-- shapes so far, and the number of one among them
pub record Entry : Type 0 where
  pub shapes : List Shape
  pub number : ℕ

-- the first equal shape, else it stands behind the others
abbrev pub entered_at : ℕ → List Shape → Shape → List Shape → Entry
entered_at k all s [] = record { shapes = all ++ s ∷ []; number = k }
entered_at k all s (t ∷ rest) = elim (same_shape s t) [ true ↦ record { shapes = all; number = k } | false ↦ entered_at (suc k) all s rest ]

abbrev pub entered : List Shape → Shape → Entry
entered shapes s = entered_at 0 shapes s shapes

-- how a struct stands among shapes, by its number
abbrev pub Structs : Type 0
Structs = ℕ → List Shape → Entry

abbrev pub base_entry : Structs → BaseType → ℕ → List Shape → Entry
base_entry structs base (suc n) shapes = record { shapes = shapes; number = 1 }
base_entry structs BaseType.Int zero shapes = record { shapes = shapes; number = 0 }
base_entry structs (BaseType.Struct k) zero shapes = structs k shapes
base_entry structs BaseType.Unknown zero shapes = record { shapes = shapes; number = 0 }

-- arrays of these lengths, the outermost first
abbrev pub array_entry : List ℕ → Entry → Entry
array_entry [] e = e
array_entry (n ∷ ns) e = let item = array_entry ns e in entered item.shapes (Shape.Array n item.number)

abbrev pub object_entry : Structs → ObjectType → List Shape → Entry
object_entry structs t shapes = array_entry t.lengths (base_entry structs t.base t.stars shapes)

pub record Parts : Type 0 where
  pub shapes : List Shape
  pub numbers : List ℕ

abbrev pub part_entries : Structs → List ℕ → List ObjectType → List Shape → Parts
part_entries structs numbers [] shapes = record { shapes = shapes; numbers = numbers }
part_entries structs numbers (t ∷ ts) shapes =
    let e = object_entry structs t shapes in
    part_entries structs (numbers ++ e.number ∷ []) ts e.shapes

abbrev pub whole_entry : Parts → Entry
whole_entry p = entered p.shapes (Shape.Struct p.numbers)

-- a struct among those listed with the last one first; a struct has earlier ones alone as parts
unfoldable pub struct_entry : List Struct → Structs
struct_entry [] k shapes = record { shapes = shapes; number = 0 }
struct_entry (s ∷ earlier) k shapes =
    elim (nat_eq k (length earlier)) [
      | true ↦ whole_entry (part_entries (struct_entry earlier) [] s.fields shapes)
      | false ↦ struct_entry earlier k shapes
    ]

abbrev pub entry : List Struct → ObjectType → List Shape → Entry
entry structs t shapes = object_entry (struct_entry (reverse structs)) t shapes

-- the shapes of these types, in the order in which they are first needed
abbrev pub shapes_from : List Struct → List Shape → List ObjectType → List Shape
shapes_from structs shapes [] = shapes
shapes_from structs shapes (t ∷ ts) = shapes_from structs (entry structs t shapes).shapes ts

abbrev pub shapes_of : List Struct → List ObjectType → List Shape
shapes_of structs ts = shapes_from structs (Shape.Int ∷ Shape.Ptr ∷ []) ts

-- the number of a type among all
abbrev pub shape_number : List Struct → List Shape → ObjectType → ℕ
shape_number structs shapes t = (entry structs t shapes).number
