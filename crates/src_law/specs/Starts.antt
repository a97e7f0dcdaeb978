-- What the words of globals hold at first (C99 6.7.8p10): null where a word is of a pointer type, else the value that is written, or 0.
use Rattle.std.specs.Prelude.{ℕ, zero, suc, ℤ, pos, nat_eq, true, false, List, [], ◌∷◌, ◌++◌, map, reverse, length}
use Rattle.c_typed.specs.Typed.{Typed}
use Rattle.c_typed.specs.declared.types.BaseType.{BaseType}
use Rattle.c_typed.specs.declared.types.ObjectType.{ObjectType}
use Rattle.c_typed.specs.declared.program.Struct.{Struct}
use Rattle.c_typed.specs.declared.program.Global.{Global}
use Rattle.obj_mem.specs.declared.value.Value.{Value}
use Rattle.obj_mem.specs.declared.event.Stamp.{Stamp}
use Rattle.obj_mem.specs.Opening.{opening_of}

abbrev pub repeated : ℕ → List Value → List Value
repeated zero vs = []
repeated (suc n) vs = vs ++ repeated n vs

-- the words of a type, by the value of an int and the words of each struct
abbrev pub base_values : (ℕ → List Value) → ℤ → BaseType → ℕ → List Value
base_values struct k base (suc stars) = Value.Null ∷ []
base_values struct k (BaseType.Struct j) zero = struct j
base_values struct k base zero = Value.Int k ∷ []

abbrev pub array_values : List ℕ → List Value → List Value
array_values [] item = item
array_values (n ∷ ns) item = repeated n (array_values ns item)

abbrev pub type_values : (ℕ → List Value) → ℤ → ObjectType → List Value
type_values struct k t = array_values t.lengths (base_values struct k t.base t.stars)

abbrev pub fields_values : (ℕ → List Value) → List ObjectType → List Value
fields_values struct [] = []
fields_values struct (t ∷ ts) = type_values struct (pos 0) t ++ fields_values struct ts

-- the words of a struct, which has earlier ones alone; the last one comes first
unfoldable pub struct_values : List Struct → ℕ → List Value
struct_values [] j = []
struct_values (s ∷ earlier) j = elim (nat_eq j (length earlier)) [ true ↦ fields_values (struct_values earlier) s.fields | false ↦ struct_values earlier j ]

abbrev pub global_values : List Struct → Global → List Value
global_values structs g = type_values (struct_values (reverse structs)) g.start g.object

-- what every run of the program with this input begins with, the newest first
abbrev pub opening : Typed → List ℤ → List Stamp
opening t input = opening_of (map (global_values t.structs) t.globals) input
