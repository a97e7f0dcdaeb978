-- Where the form of a module is not good: each sentence of the rule, and the place of the text at which it fails.
use Rattle.std.specs.Prelude.{◌≡◌, ℕ, suc, ◌+◌, ◌<◌, ◌≤◌, Option, Some, List, length, map, sum, take, slice_get, All}
use Rattle.std.specs.List.{flat_map}
use Rattle.dfi_base.specs.declared.numbers.Point.{Point}
use Rattle.dfi_base.specs.Limits.{function_limit, global_limit, frame_limit, point_limit, definition_limit, node_limit, temporary_limit, fact_limit}
use Rattle.tac_ir.specs.declared.code.Code.{Code}
use Rattle.tac_ir.specs.declared.code.Shape.{Shape}
use Rattle.tac_ir.specs.declared.code.Global.{Global}
use Rattle.tac_ir.specs.declared.code.Site.{Site}
use Rattle.tac_ir.specs.declared.code.Fun.{Fun}
use Rattle.tac_ir.specs.declared.code.Instr.{Instr}
use Rattle.tac_ir.specs.declared.module.PointsRow.{PointsRow}
use Rattle.tac_ir.specs.declared.module.ReachRow.{ReachRow}
use Rattle.tac_ir.specs.Module.{Module}
use Rattle.tac_ir.specs.Layout.{lines_of, vars_of, instr_at, words_before, shapes_of_globals}
use Rattle.tac_ir.specs.Numbers.{new_def, new_read, numbers_in, numbers_in_funs, reads_made, defs_in_code}
use Rattle.tac_ir.specs.Counts.{temps_of_fun, temps_in, vars_in_funs, shapes_used}
use Rattle.tac_ir.specs.Nodes.{nodes_before}
use Rattle.tac_ir.specs.Accesses.{defs_accesses, facts_by}
use Rattle.tac_ir.specs.GoodForm.{IsGoodShape, IsGoodGlobal, IsGoodInstr, IsLastKind, params_of}
use Rattle.tac_ir.specs.GoodModule.{IsPoint, IsGoodPointsRow, IsGoodReachRow}
use Rattle.tac_ir.specs.Tables.{IsNumberOf}
use Rattle.flow_rules.specs.PointNumber.{point_at, point_number}
use Rattle.dfi_checker.specs.Regions.{KeepsToRegions}
use Rattle.dfi_checker.specs.TextPlace.{TextPlace, shape_count, shape, global, site, function_count, main_number, function, variable, instruction, class_count, class, set_count, set, points_row, reach_row}

-- Totals: where the first n items come to the n-th total, item n is the one that passes the limit.
pub record PassesAt (total : ℕ → ℕ) (limit n : ℕ) : Type 0 where
  pub before : total n ≤ limit
  pub after : limit < total (suc n)

-- how many numbers the instructions before a point make
abbrev pub numbers_before : (Instr → Option ℕ) → Code → Point → ℕ
numbers_before number c p = length (numbers_in_funs number (take p.fun c.funs)) + length (numbers_in number (take p.at (lines_of c p.fun)))

-- the temporaries of the functions before function f
abbrev pub temps_before : Code → ℕ → ℕ
temps_before c f = sum (map temps_of_fun (take f c.funs))

-- those of function f up to its n-th instruction: each raises the number of its function as far as the greatest that it names
abbrev pub temps_up_to : Code → ℕ → Fun → ℕ → ℕ
temps_up_to c f fun n = temps_before c f + temps_in fun.params (take n fun.code)

-- the facts of the first n definitions
abbrev pub facts_up_to : Module → ℕ → ℕ
facts_up_to m n = length (flat_map facts_by (take n (defs_accesses m.code m.points)))

-- the nodes of the first n shapes of globals, variables and sites, in this order
abbrev pub nodes_up_to : Code → ℕ → ℕ
nodes_up_to c n = nodes_before c (shapes_used c) n

pub data BreaksForm (m : Module) : TextPlace → Type 0 where
  -- Shapes: shapes 0 and 1 are `int` and `ptr`, each names smaller ones, has some part and is within its limit; there are few.
  few_shapes : length m.code.shapes < 2 → BreaksForm m shape_count
  first_shape : (s : Shape) → slice_get m.code.shapes 0 ≡ Some s → (s ≡ Shape.Int → ⊥) → BreaksForm m (shape 0)
  second_shape : (s : Shape) → slice_get m.code.shapes 1 ≡ Some s → (s ≡ Shape.Ptr → ⊥) → BreaksForm m (shape 1)
  bad_shape : (n : ℕ) (s : Shape) → slice_get m.code.shapes n ≡ Some s → (IsGoodShape m.code n s → ⊥) → BreaksForm m (shape n)
  many_shapes : 2147483648 ≤ length m.code.shapes → BreaksForm m (shape 2147483647)
  -- Globals and sites: their shapes exist, only an int starts with a value, and globals have so many words at most.
  bad_global : (v : ℕ) (g : Global) → slice_get m.code.globals v ≡ Some g → (IsGoodGlobal m.code g → ⊥) → BreaksForm m (global v)
  global_words : (v : ℕ) → v < length m.code.globals → PassesAt (words_before m.code (shapes_of_globals m.code)) global_limit v → BreaksForm m (global v)
  bad_site : (k : ℕ) (s : Site) → slice_get m.code.sites k ≡ Some s → (s.shape < length m.code.shapes → ⊥) → BreaksForm m (site k)
  -- Functions: there are some, and not too many, and main is one without parameters.
  no_function : length m.code.funs ≡ 0 → BreaksForm m function_count
  many_functions : function_limit < length m.code.funs → BreaksForm m (function function_limit)
  no_main : (m.code.main < length m.code.funs → ⊥) → BreaksForm m main_number
  main_takes : (params_of m.code m.code.main ≡ 0 → ⊥) → BreaksForm m main_number
  -- Parameters are among the variables and have shape 0 or 1; shapes exist; a frame has so many words at most. A function has some instruction.
  few_variables : (f : ℕ) (fun : Fun) → slice_get m.code.funs f ≡ Some fun → length fun.vars < fun.params → BreaksForm m (function f)
  bad_variable : (f v s : ℕ) (fun : Fun) → slice_get m.code.funs f ≡ Some fun → slice_get fun.vars v ≡ Some s → (s < length m.code.shapes → ⊥) → BreaksForm m (variable f v)
  bad_parameter : (f v s : ℕ) (fun : Fun) → slice_get m.code.funs f ≡ Some fun → slice_get fun.vars v ≡ Some s → v < fun.params → 2 ≤ s → BreaksForm m (variable f v)
  frame_words : (f v : ℕ) → v < length (vars_of m.code f) → PassesAt (λ n. 1 + words_before m.code (vars_of m.code f) n) frame_limit v → BreaksForm m (variable f v)
  no_instruction : (f : ℕ) (fun : Fun) → slice_get m.code.funs f ≡ Some fun → length fun.code ≡ 0 → BreaksForm m (function f)
  -- Limits of code.
  points : (p : Point) → IsPoint m.code p → point_number m.code p ≡ point_limit → BreaksForm m (instruction p)
  nodes_of_global : (v : ℕ) → v < length m.code.globals → PassesAt (nodes_up_to m.code) node_limit v → BreaksForm m (global v)
  nodes_of_variable : (f v : ℕ) → v < length (vars_of m.code f) → PassesAt (nodes_up_to m.code) node_limit (length m.code.globals + (length (vars_in_funs (take f m.code.funs)) + v))
      → BreaksForm m (variable f v)
  nodes_of_site : (k : ℕ) → k < length m.code.sites → PassesAt (nodes_up_to m.code) node_limit (length m.code.globals + (length (vars_in_funs m.code.funs) + k)) → BreaksForm m (site k)
  starting_definitions : definition_limit < length m.code.globals → BreaksForm m (global definition_limit)
  definitions : (p : Point) (d : ℕ) → IsPoint m.code p → new_def (instr_at m.code p) ≡ Some d → length m.code.globals + numbers_before new_def m.code p ≡ definition_limit → BreaksForm m (instruction p)
  temporaries_of_parameters : (f : ℕ) (fun : Fun) → slice_get m.code.funs f ≡ Some fun → temps_before m.code f ≤ temporary_limit → temporary_limit < temps_up_to m.code f fun 0
      → BreaksForm m (function f)
  temporaries : (f i : ℕ) (fun : Fun) → slice_get m.code.funs f ≡ Some fun → i < length fun.code → PassesAt (temps_up_to m.code f fun) temporary_limit i → BreaksForm m (instruction (point_at f i))
  -- Definitions and reads count up in the order of the code, starting definitions first.
  definition_number : (p : Point) (d : ℕ) → IsPoint m.code p → new_def (instr_at m.code p) ≡ Some d → (d ≡ suc (length m.code.globals + numbers_before new_def m.code p) → ⊥)
      → BreaksForm m (instruction p)
  read_number : (p : Point) (r : ℕ) → IsPoint m.code p → new_read (instr_at m.code p) ≡ Some r → (r ≡ suc (numbers_before new_read m.code p) → ⊥) → BreaksForm m (instruction p)
  -- Instructions: what they name, where they lead, how forks are made, the last of a function, and the regions of forks.
  bad_instruction : (p : Point) → IsPoint m.code p → (IsGoodInstr m.code p.fun (lines_of m.code p.fun) p.at (instr_at m.code p) → ⊥) → BreaksForm m (instruction p)
  bad_last : (f i : ℕ) → suc i ≡ length (lines_of m.code f) → (IsLastKind (instr_at m.code (point_at f i)) → ⊥) → BreaksForm m (instruction (point_at f i))
  leaves_region : (p : Point) → IsPoint m.code p → (KeepsToRegions (lines_of m.code p.fun) p.at (instr_at m.code p) → ⊥) → BreaksForm m (instruction p)
  -- Tables: there are as many classes as definitions and as many sets as reads, numbers exist, and there are so many facts at most.
  class_for_each : (length m.classes ≡ defs_in_code m.code → ⊥) → BreaksForm m class_count
  bad_class : (d n : ℕ) → slice_get m.classes d ≡ Some n → (IsNumberOf m n → ⊥) → BreaksForm m (class (suc d))
  facts : (d : ℕ) → d < length m.classes → PassesAt (facts_up_to m) fact_limit d → BreaksForm m (class (suc d))
  set_for_each : (length m.sets ≡ length (reads_made m.code) → ⊥) → BreaksForm m set_count
  bad_set : (r : ℕ) (members : List ℕ) → slice_get m.sets r ≡ Some members → (All (IsNumberOf m) members → ⊥) → BreaksForm m (set (suc r))
  bad_points_row : (i : ℕ) (row : PointsRow) → slice_get m.points i ≡ Some row → (IsGoodPointsRow m.code row → ⊥) → BreaksForm m (points_row i)
  bad_reach_row : (i : ℕ) (row : ReachRow) → slice_get m.reach i ≡ Some row → (IsGoodReachRow m row → ⊥) → BreaksForm m (reach_row i)
