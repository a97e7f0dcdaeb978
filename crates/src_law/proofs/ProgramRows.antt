-- What whole programs begin with, and what stands round the parts of their functions, by computation.
use Rattle.std.proofs.Common.{◌≡◌, ℕ, pos, List, [], ◌∷◌, Some, refl}
use Rattle.c_typed.specs.Typed.{Typed}
use Rattle.c_typed.specs.declared.types.BaseType.{BaseType}
use Rattle.c_typed.specs.declared.types.ObjectType.{ObjectType}
use Rattle.c_typed.specs.declared.program.Struct.{Struct}
use Rattle.c_typed.specs.declared.program.Global.{Global}
use Rattle.c_typed.specs.declared.program.Variable.{Variable}
use Rattle.c_typed.specs.declared.program.Function.{Function}
use Rattle.obj_mem.specs.declared.Maker.{Maker}
use Rattle.obj_mem.specs.declared.value.Value.{Value}
use Rattle.obj_mem.specs.Opening.{opening_of}
use Rattle.src_law.specs.Program.{around, first_heap_site}
use Rattle.src_law.specs.Starts.{opening, struct_values}

abbrev plain : BaseType → ℕ → List ℕ → ObjectType
plain base stars lengths = record { base = base; stars = stars; lengths = lengths }

abbrev of_type : ObjectType → Global
of_type t = record { line = record { 0 = 1 }; object = t; start = pos 0 }

-- struct n { int v; struct n *next; }; struct n g[2];
abbrev node : Struct
node = record { fields = plain BaseType.Int 0 [] ∷ plain (BaseType.Struct 0) 1 [] ∷ []; words = 2 }

abbrev nodes : Typed
nodes = record { structs = node ∷ []; globals = of_type (plain (BaseType.Struct 0) 0 (2 ∷ [])) ∷ []; functions = []; main = 0 }

nodes_begin : opening nodes (pos 5 ∷ []) ≡ opening_of ((Value.Int (pos 0) ∷ Value.Null ∷ Value.Int (pos 0) ∷ Value.Null ∷ []) ∷ []) (pos 5 ∷ [])
unfolding struct_values
nodes_begin = refl

-- int x = 3; int a[2][3];
abbrev numbers : Typed
numbers = record {
  structs = [];
  globals = record { line = record { 0 = 1 }; object = plain BaseType.Int 0 []; start = pos 3 } ∷ of_type (plain BaseType.Int 0 (2 ∷ 3 ∷ [])) ∷ [];
  functions = [];
  main = 0;
}

abbrev zero_word : Value
zero_word = Value.Int (pos 0)

numbers_begin : opening numbers [] ≡ opening_of ((Value.Int (pos 3) ∷ []) ∷ (zero_word ∷ zero_word ∷ zero_word ∷ zero_word ∷ zero_word ∷ zero_word ∷ []) ∷ []) []
unfolding struct_values
numbers_begin = refl

-- int a[4]; int f(int x, int y) {..} int main() { int z[2]; .. }
abbrev variable : ObjectType → Variable
variable t = record { line = record { 0 = 1 }; object = t }

abbrev function : ℕ → List Variable → Function
function parameters vs = record { line = record { 0 = 1 }; result = Some (plain BaseType.Int 0 []); parameters = parameters; variables = vs; body = []; close = record { 0 = 2 } }

abbrev main_function : Function
main_function = function 0 (variable (plain BaseType.Int 0 (2 ∷ [])) ∷ [])

abbrev two_functions : Typed
two_functions = record {
  structs = [];
  globals = of_type (plain BaseType.Int 0 (4 ∷ [])) ∷ [];
  functions = function 2 (variable (plain BaseType.Int 0 []) ∷ variable (plain BaseType.Int 0 []) ∷ []) ∷ main_function ∷ [];
  main = 1;
}

around_main : (m : Maker) → around two_functions 1 main_function m ≡ record { structs = []; globals = 4 ∷ []; maker = m; site = 3; variables = 2 ∷ []; heap = 4 }
around_main m = refl

heap_behind : first_heap_site two_functions ≡ 4
heap_behind = refl
