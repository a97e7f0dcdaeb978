-- What the lines of the text of a module tell, and which line it is that tells it. Lines count from 1.
use Rattle.std.specs.Prelude.{ℕ, ◌+◌, length, map, sum, take}
use Rattle.dfi_base.specs.declared.numbers.Point.{Point}
use Rattle.tac_ir.specs.declared.code.Fun.{Fun}
use Rattle.tac_ir.specs.Module.{Module}
use Rattle.tac_ir.specs.Layout.{vars_of}

pub data TextPlace : Type 0 where
  shape_count : TextPlace
  shape : ℕ → TextPlace
  global : ℕ → TextPlace
  site : ℕ → TextPlace
  function_count : TextPlace
  main_number : TextPlace
  -- a function, its variables and its instructions
  function : ℕ → TextPlace
  variable : ℕ → ℕ → TextPlace
  instruction : Point → TextPlace
  -- definitions and reads are numbered from 1
  class_count : TextPlace
  class : ℕ → TextPlace
  set_count : TextPlace
  set : ℕ → TextPlace
  points_row : ℕ → TextPlace
  reach_row : ℕ → TextPlace

-- The lines that tell how many there are; what they count stands behind. Behind the count of functions stands the number of main.

abbrev pub shapes_line : ℕ
shapes_line = 2

abbrev pub globals_line : Module → ℕ
globals_line m = shapes_line + length m.code.shapes + 1

abbrev pub sites_line : Module → ℕ
sites_line m = globals_line m + length m.code.globals + 1

abbrev pub functions_line : Module → ℕ
functions_line m = sites_line m + length m.code.sites + 1

-- a line for a function, one for each of its variables and one for each of its instructions
abbrev pub lines_of_function : Fun → ℕ
lines_of_function fun = 1 + length fun.vars + length fun.code

-- the line of function f, and behind the functions that of the count of definitions
abbrev pub function_line : Module → ℕ → ℕ
function_line m f = functions_line m + 2 + sum (map lines_of_function (take f m.code.funs))

abbrev pub classes_line : Module → ℕ
classes_line m = function_line m (length m.code.funs)

abbrev pub sets_line : Module → ℕ
sets_line m = classes_line m + length m.classes + 1

abbrev pub points_line : Module → ℕ
points_line m = sets_line m + length m.sets + 1

abbrev pub reach_line : Module → ℕ
reach_line m = points_line m + length m.points + 1

abbrev pub line_of : Module → TextPlace → ℕ
line_of m shape_count = shapes_line
line_of m (shape s) = shapes_line + 1 + s
line_of m (global v) = globals_line m + 1 + v
line_of m (site k) = sites_line m + 1 + k
line_of m function_count = functions_line m
line_of m main_number = functions_line m + 1
line_of m (function f) = function_line m f
line_of m (variable f v) = function_line m f + 1 + v
line_of m (instruction p) = function_line m p.fun + 1 + length (vars_of m.code p.fun) + p.at
line_of m class_count = classes_line m
line_of m (class d) = classes_line m + d
line_of m set_count = sets_line m
line_of m (set r) = sets_line m + r
line_of m (points_row i) = points_line m + 1 + i
line_of m (reach_row i) = reach_line m + 1 + i
