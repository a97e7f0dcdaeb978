-- A program: its sites, its functions and their bodies, and what thread 1 does.
use Rattle.std.specs.Prelude.{refl, ℕ, zero, suc, ◌+◌, pos, List, [], ◌∷◌, map, take, sum, length, slice_get, Option, Some, None}
use Rattle.c_typed.specs.Typed.{Typed}
use Rattle.c_typed.specs.Types.{words_of}
use Rattle.c_typed.specs.IsWell.{sizes_in}
use Rattle.c_typed.specs.declared.types.ObjectType.{ObjectType}
use Rattle.c_typed.specs.declared.program.Function.{Function}
use Rattle.obj_mem.specs.declared.Maker.{Maker}
use Rattle.obj_mem.specs.declared.value.Value.{Value}
use Rattle.obj_mem.specs.declared.event.Event.{Event}
use Rattle.obj_mem.specs.Objects.{of_main}
use Rattle.src_law.specs.Acts.{End, returned, a_value, nothing, Act, ◌▷◌, ◌⨟◌}
use Rattle.src_law.specs.Operators.{wrong}
use Rattle.src_law.specs.Exprs.{Around, local_place}
use Rattle.src_law.specs.Stmts.{in_turn, stmt}

-- Sites: the globals come first, then the variables of each function, then the heap sites.

abbrev pub variables_in : List Function → ℕ
variables_in fs = sum (map (λ f. length f.variables) fs)

abbrev pub first_variable : Typed → ℕ → ℕ
first_variable t k = length t.globals + variables_in (take k t.functions)

abbrev pub first_heap_site : Typed → ℕ
first_heap_site t = length t.globals + variables_in t.functions

-- what stands round the parts of function k in a frame
abbrev pub around : Typed → ℕ → Function → Maker → Around
around t k f maker = record {
  structs = t.structs;
  globals = map (λ g. words_of (sizes_in t.structs) g.object) t.globals;
  maker = maker;
  site = first_variable t k;
  variables = map (λ v. words_of (sizes_in t.structs) v.object) f.variables;
  heap = first_heap_site t;
}

-- Bodies.

-- the value at the closing brace: null for a pointer, else 0
abbrev pub default_by : ℕ → Value
default_by zero = Value.Int (pos 0)
default_by (suc stars) = Value.Null

abbrev pub default_of : Option ObjectType → Value
default_of None = Value.Int (pos 0)
default_of (Some t) = default_by t.stars

abbrev pub value_at : Option ObjectType → End → Value
value_at result (returned v) = v
value_at result e = default_of result

-- the arguments are written to the parameters, from this one on
abbrev pub passed : Around → ℕ → List Value → Act nothing
passed c k [] = Act.gives tt
passed c k (v ∷ vs) = Act.does (Event.Wr (local_place c k) v) refl ⨟ passed c (suc k) vs

abbrev pub body_in : Around → Function → List Value → Act a_value
body_in c f vs = passed c 0 vs ⨟ in_turn (map (stmt c) f.body) ▷ λ e. Act.gives (value_at f.result e)

-- (where there is none, it has no meaning)
abbrev pub body_of : Typed → ℕ → Option Function → Maker → List Value → Act a_value
body_of t k None m vs = wrong
body_of t k (Some f) m vs = body_in (around t k f m) f vs

abbrev pub with_return : Act a_value → Act a_value
with_return a = a ▷ λ v. Act.does Event.Ret refl ⨟ Act.gives v

-- what a call of function k does in its frame, with its arguments
abbrev pub body : Typed → ℕ → Maker → List Value → Act a_value
body t k m vs = with_return (body_of t k (slice_get t.functions k) m vs)

-- `main` has neither a call nor a return
abbrev pub main_act : Typed → Act a_value
main_act t = body_of t t.main (slice_get t.functions t.main) of_main []
