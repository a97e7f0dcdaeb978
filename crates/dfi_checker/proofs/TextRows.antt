-- What stands in the lines of the text of a module that has something of each kind, by computation.
use Rattle.std.proofs.Common.{◌≡◌, ℕ, ◌-◌, true, false, Option, Some, List, [], ◌∷◌, reverse, refl}
use Rattle.std.specs.Prelude.{nat_eq, slice_get, codes, pos, negsuc}
use Rattle.std.specs.Fmt.{digits}
use Rattle.dfi_base.specs.declared.numbers.Point.{Point}
use Rattle.tac_ir.specs.declared.code.Shape.{Shape}
use Rattle.tac_ir.specs.declared.code.Lined.{Lined}
use Rattle.tac_ir.specs.declared.code.Instr.{Instr}
use Rattle.tac_ir.specs.declared.module.Size.{Size}
use Rattle.tac_ir.specs.declared.module.Key.{Key}
use Rattle.tac_ir.specs.Module.{Module}
use Rattle.text_law.specs.ModuleText.{module_text}
use Rattle.dfi_checker.specs.TextPlace.{TextPlace, line_of, shape_count, shape, global, site, function_count, main_number, function, variable, instruction, class_count, class, set_count, set, points_row, reach_row}

-- bytes cut into lines, where these stand before them in their line, the last one first
abbrev lines_from : List ℕ → List ℕ → List (List ℕ)
lines_from now [] = []
lines_from now (b ∷ rest) = elim (nat_eq b 10) [ true ↦ reverse now ∷ lines_from [] rest | false ↦ lines_from (b ∷ now) rest ]

-- the line that tells this of a module
abbrev told : Module → TextPlace → Option (List ℕ)
told m place = slice_get (lines_from [] (module_text m)) (line_of m place - 1)

abbrev at : ℕ → Instr → Lined
at line instr = record { line = line; instr = instr }

abbrev point : ℕ → ℕ → Point
point f i = record { fun = f; at = i }

-- It need not be of a good form.
abbrev mixture : Module
mixture = record {
  size = Size.Large;
  code = record {
    shapes = Shape.Int ∷ Shape.Ptr ∷ Shape.Struct (0 ∷ 1 ∷ []) ∷ [];
    globals = record { shape = 0; start = negsuc 4; line = 1 } ∷ record { shape = 2; start = pos 0; line = 2 } ∷ [];
    sites = record { shape = 2; line = 8 } ∷ record { shape = 0; line = 9 } ∷ [];
    main = 1;
    funs =
        record { params = 1; vars = 1 ∷ 0 ∷ []; code = at 3 Instr.Turn ∷ at 4 (Instr.Ret 0 (Some 1)) ∷ []; line = 3 }
        ∷ record { params = 0; vars = 2 ∷ []; code = at 5 (Instr.Free 0) ∷ at 6 (Instr.Store 1 2 3) ∷ at 7 Instr.End ∷ []; line = 5 } ∷ [];
  };
  classes = 1 ∷ 2 ∷ 3 ∷ [];
  sets = (1 ∷ 3 ∷ []) ∷ [] ∷ [];
  removed = true ∷ false ∷ [];
  points = record { key = Key.Temp 1 0; nodes = 4 ∷ [] } ∷ record { key = Key.Node 2; nodes = 0 ∷ 1 ∷ [] } ∷ [];
  reach = record { point = point 0 1; facts = 0 ∷ [] } ∷ record { point = point 1 0; facts = 1 ∷ 2 ∷ [] } ∷ [];
}

shapes_row : told mixture shape_count ≡ Some (codes "shapes 3")
unfolding digits
shapes_row = refl

shape_row : told mixture (shape 2) ≡ Some (codes "struct 0 1")
unfolding digits
shape_row = refl

global_row : told mixture (global 0) ≡ Some (codes "0 -5 1")
unfolding digits
global_row = refl

site_row : told mixture (site 1) ≡ Some (codes "0 9")
unfolding digits
site_row = refl

functions_row : told mixture function_count ≡ Some (codes "functions 2")
unfolding digits
functions_row = refl

main_row : told mixture main_number ≡ Some (codes "main 1")
unfolding digits
main_row = refl

first_function : told mixture (function 0) ≡ Some (codes "function 1 2 2 3")
unfolding digits
first_function = refl

second_function : told mixture (function 1) ≡ Some (codes "function 0 1 3 5")
unfolding digits
second_function = refl

variable_row : told mixture (variable 0 1) ≡ Some (codes "var 0")
unfolding digits
variable_row = refl

return_row : told mixture (instruction (point 0 1)) ≡ Some (codes "4 ret t0 1")
unfolding digits
return_row = refl

store_row : told mixture (instruction (point 1 1)) ≡ Some (codes "6 store t1 t2 3")
unfolding digits
store_row = refl

classes_row : told mixture class_count ≡ Some (codes "definitions 3")
unfolding digits
classes_row = refl

class_row : told mixture (class 3) ≡ Some (codes "class 3")
unfolding digits
class_row = refl

sets_row : told mixture set_count ≡ Some (codes "reads 2")
unfolding digits
sets_row = refl

set_row : told mixture (set 1) ≡ Some (codes "removed 1 3")
unfolding digits
set_row = refl

node_row : told mixture (points_row 1) ≡ Some (codes "node 2 0 1")
unfolding digits
node_row = refl

point_row : told mixture (reach_row 1) ≡ Some (codes "at 1 0 1 2")
unfolding digits
point_row = refl
