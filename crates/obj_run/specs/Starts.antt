-- What a run begins with: the words of globals by their shapes, null where a word is a pointer, and the numbers of the input.
use Rattle.std.specs.Prelude.{ℕ, zero, suc, ℤ, nat_eq, true, false, List, [], ◌∷◌, ◌++◌, map, reverse, length}
use Rattle.std.specs.List.{flat_map}
use Rattle.obj_mem.specs.declared.value.Value.{Value}
use Rattle.obj_mem.specs.declared.event.Event.{Event}
use Rattle.obj_mem.specs.declared.event.Stamp.{Stamp}
use Rattle.obj_mem.specs.Opening.{opening_of}
use Rattle.tac_ir.specs.declared.code.Code.{Code}
use Rattle.tac_ir.specs.declared.code.Shape.{Shape}
use Rattle.tac_ir.specs.declared.code.Global.{Global}
use Rattle.obj_run.specs.Entries.{Entry}

abbrev pub times : ℕ → List Value → List Value
times zero vs = []
times (suc n) vs = vs ++ times n vs

-- the words of a shape, where each int is this value, by those of the shapes that it names
abbrev pub values_by : Value → (ℕ → List Value) → Shape → List Value
values_by int values Shape.Int = int ∷ []
values_by int values Shape.Ptr = Value.Null ∷ []
values_by int values (Shape.Array len item) = times len (values item)
values_by int values (Shape.Struct parts) = flat_map values parts

-- the words of shape s, among shapes listed with the last one first; a shape names earlier ones alone
unfoldable pub values_in : Value → List Shape → ℕ → List Value
values_in int [] s = []
values_in int (shape ∷ earlier) s = elim (nat_eq s (length earlier)) [ true ↦ values_by int (values_in int earlier) shape | false ↦ values_in int earlier s ]

abbrev pub global_values : Code → Global → List Value
global_values c g = values_in (Value.Int g.start) (reverse c.shapes) g.shape

-- the newest first
abbrev pub opening : Code → List ℤ → List Stamp
opening c input = opening_of (map (global_values c) c.globals) input

-- the starting definition of global v is v + 1, by which its words are written
abbrev pub start_number : Event → ℕ
start_number (Event.Wr (Value.Ptr o off lo hi) v) = suc o.site
start_number e = 0

abbrev pub first_entries : Code → List ℤ → List Entry
first_entries c input = map (λ s. record { stamp = s; number = start_number s.event }) (opening c input)
