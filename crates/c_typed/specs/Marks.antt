-- What stands before a place of the text, for the search of a name outwards and back (C99 6.2.1, 6.2.3), and of the loop, branch
-- and function round a place.
use Rattle.std.specs.Prelude.{ℕ, zero, suc, ◌+◌, Bool, true, false, ◌||◌, nat_eq, List, [], ◌∷◌, Option, Some, None}
use Rattle.c_ast.specs.declared.ident.Ident.{Ident}
use Rattle.c_typed.specs.declared.types.ObjectType.{ObjectType}
use Rattle.c_typed.specs.Types.{words_of}

-- what a brace or a `for` opens
pub data Opening : Type 0 where
  fields : Opening
  block : Opening
  loop : Opening
  branch : Opening

pub data Mark : Type 0 where
  -- a struct of this tag is whole
  tag : ℕ → Mark
  field : ℕ → ObjectType → Mark
  global : ℕ → ObjectType → Mark
  prototype : ℕ → Mark
  -- a function begins: its parameters and its outermost block are one scope
  function : ℕ → Option ObjectType → Mark
  -- a parameter, or a variable of a block
  local : Ident → ObjectType → Mark
  opens : Opening → Mark
  -- what was opened last closes
  closes : Mark

-- the marks before a place, the newest first
abbrev pub History : Type 0
History = List Mark

-- the variables of the function so far
abbrev pub locals_in : History → ℕ
locals_in [] = 0
locals_in (function f r ∷ h) = 0
locals_in (local x t ∷ h) = suc (locals_in h)
locals_in (_ ∷ h) = locals_in h

-- the globals so far
abbrev pub globals_in : History → ℕ
globals_in [] = 0
globals_in (global x t ∷ h) = suc (globals_in h)
globals_in (_ ∷ h) = globals_in h

-- the functions so far
abbrev pub functions_in : History → ℕ
functions_in [] = 0
functions_in (function f r ∷ h) = suc (functions_in h)
functions_in (_ ∷ h) = functions_in h

pub data Variable : Type 0 where
  global : ℕ → ObjectType → Variable
  local : ℕ → ObjectType → Variable

-- The variable that a name means: back through the text, past the closed scopes; d of them are still to be left at their openings.
abbrev pub variable : ℕ → ℕ → History → Option Variable
variable x d [] = None
variable x d (closes ∷ h) = variable x (suc d) h
variable x (suc d) (opens o ∷ h) = variable x d h
variable x (suc d) (function f r ∷ h) = variable x d h
variable x zero (local y t ∷ h) = elim (nat_eq x y.name) [ true ↦ Some (local (locals_in h) t) | false ↦ variable x zero h ]
variable x zero (global y t ∷ h) = elim (nat_eq x y) [ true ↦ Some (global (globals_in h) t) | false ↦ variable x zero h ]
variable x d (_ ∷ h) = variable x d h

-- the innermost scope has a variable of this name
abbrev pub is_declared : ℕ → ℕ → History → Bool
is_declared x d [] = false
is_declared x d (closes ∷ h) = is_declared x (suc d) h
is_declared x (suc d) (opens o ∷ h) = is_declared x d h
is_declared x zero (opens o ∷ h) = false
is_declared x zero (function f r ∷ h) = false
is_declared x zero (local y t ∷ h) = nat_eq x y.name || is_declared x zero h
is_declared x d (_ ∷ h) = is_declared x d h

-- what was opened round a place, the innermost first, out to the function
abbrev pub around : ℕ → History → List Opening
around d [] = []
around d (closes ∷ h) = around (suc d) h
around (suc d) (opens o ∷ h) = around d h
around zero (opens o ∷ h) = o ∷ around zero h
around zero (function f r ∷ h) = []
around d (_ ∷ h) = around d h

-- a loop, and no branch before it
abbrev pub in_loop : List Opening → Bool
in_loop [] = false
in_loop (loop ∷ os) = true
in_loop (branch ∷ os) = false
in_loop (_ ∷ os) = in_loop os

abbrev pub in_branch : List Opening → Bool
in_branch [] = false
in_branch (branch ∷ os) = true
in_branch (_ ∷ os) = in_branch os

-- the result of the function round a place
abbrev pub result_at : History → Option ObjectType
result_at [] = None
result_at (function f r ∷ h) = r
result_at (_ ∷ h) = result_at h

-- Names of the program's own scope, and of fields.
abbrev pub has_tag : ℕ → History → Bool
has_tag x [] = false
has_tag x (tag y ∷ h) = nat_eq x y || has_tag x h
has_tag x (_ ∷ h) = has_tag x h

abbrev pub has_global : ℕ → History → Bool
has_global x [] = false
has_global x (global y t ∷ h) = nat_eq x y || has_global x h
has_global x (_ ∷ h) = has_global x h

abbrev pub has_function : ℕ → History → Bool
has_function x [] = false
has_function x (function y r ∷ h) = nat_eq x y || has_function x h
has_function x (_ ∷ h) = has_function x h

abbrev pub has_prototype : ℕ → History → Bool
has_prototype x [] = false
has_prototype x (prototype y ∷ h) = nat_eq x y || has_prototype x h
has_prototype x (_ ∷ h) = has_prototype x h

-- the struct whose fields these are has a field of this name already
abbrev pub has_field : ℕ → History → Bool
has_field x [] = false
has_field x (opens o ∷ h) = false
has_field x (field y t ∷ h) = nat_eq x y || has_field x h
has_field x (_ ∷ h) = has_field x h

-- Words that were declared so far, by those of each struct.
abbrev pub field_words : List ℕ → History → ℕ
field_words sizes [] = 0
field_words sizes (opens o ∷ h) = 0
field_words sizes (field x t ∷ h) = words_of sizes t + field_words sizes h
field_words sizes (_ ∷ h) = field_words sizes h

abbrev pub global_words : List ℕ → History → ℕ
global_words sizes [] = 0
global_words sizes (global x t ∷ h) = words_of sizes t + global_words sizes h
global_words sizes (_ ∷ h) = global_words sizes h

-- a frame has a word for the link
abbrev pub frame_words : List ℕ → History → ℕ
frame_words sizes [] = 1
frame_words sizes (function f r ∷ h) = 1
frame_words sizes (local x t ∷ h) = words_of sizes t + frame_words sizes h
frame_words sizes (_ ∷ h) = frame_words sizes h
