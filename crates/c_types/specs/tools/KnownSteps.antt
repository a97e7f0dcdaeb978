-- How what is known changes from mark to mark. A tool of proof.
use Rattle.std.specs.Prelude.{ℕ, zero, suc, ◌+◌, ◌-◌, Bool, false, nat_le, List, [], ◌∷◌, ◌++◌, length, take, Option, Some, None, get_or}
use Rattle.c_ast.specs.declared.ident.Ident.{Ident}
use Rattle.c_typed.specs.declared.types.ObjectType.{ObjectType}
use Rattle.c_types.specs.declared.table.Table.{Table}
use Rattle.c_types.specs.declared.scopes.Home.{Home}
use Rattle.c_types.specs.declared.scopes.Binding.{Binding}
use Rattle.c_types.specs.declared.scopes.Scopes.{Scopes}
use Rattle.c_types.specs.declared.known.Frame.{Frame}
use Rattle.c_types.specs.declared.known.Declared.{Declared}
use Rattle.c_types.specs.declared.known.Known.{Known}
use Rattle.c_types.specs.declared.outline.Outline.{Outline}
use Rattle.c_types.specs.tools.Tables.{looked, put}
use Rattle.c_types.specs.tools.Outlines.{capped, words_of}

abbrev pub with_scopes : Scopes → Known → Known
with_scopes s k = record { scopes = s; frame = k.frame; declared = k.declared }

abbrev pub with_frame : Frame → Known → Known
with_frame f k = record { scopes = k.scopes; frame = f; declared = k.declared }

abbrev pub with_declared : Declared → Known → Known
with_declared d k = record { scopes = k.scopes; frame = k.frame; declared = d }

-- Scopes.
abbrev pub opened : Scopes → Scopes
opened s = record { bindings = s.bindings; starts = s.starts ++ length s.bindings ∷ []; newest = s.newest }

-- where the innermost scope begins
abbrev pub start_of : List ℕ → ℕ
start_of ns = get_or ns (length ns - 1) 0

abbrev pub without_last : List ℕ → List ℕ
without_last [] = []
without_last (n ∷ []) = []
without_last (m ∷ n ∷ ns) = m ∷ without_last (n ∷ ns)

-- the bindings from here on are taken away, the last first
abbrev pub restored : List Binding → Table → Table
restored [] t = t
restored (b ∷ bs) t = put b.name b.hidden (restored bs t)

abbrev pub bindings_from : ℕ → List Binding → List Binding
bindings_from zero bs = bs
bindings_from (suc n) [] = []
bindings_from (suc n) (b ∷ bs) = bindings_from n bs

abbrev pub closed_at : ℕ → Scopes → Scopes
closed_at n s = record { bindings = take n s.bindings; starts = without_last s.starts; newest = restored (bindings_from n s.bindings) s.newest }

abbrev pub closed : Scopes → Scopes
closed s = closed_at (start_of s.starts) s

abbrev pub bind : ℕ → Home → ℕ → ObjectType → Scopes → Scopes
bind x home number t s = record {
  bindings = s.bindings ++ record { name = x; home = home; number = number; object = t; hidden = looked s.newest x } ∷ [];
  starts = s.starts;
  newest = put x (Some (length s.bindings)) s.newest;
}

-- the innermost scope has a binding of this name
abbrev pub at_least : ℕ → Option ℕ → Bool
at_least n None = false
at_least n (Some i) = nat_le n i

abbrev pub is_bound_here : Scopes → ℕ → Bool
is_bound_here s x = at_least (start_of s.starts) (looked s.newest x)

abbrev pub entered : Known → Known
entered k = with_scopes (opened k.scopes) k

abbrev pub exited : Known → Known
exited k = with_scopes (closed k.scopes) k

-- A variable of a function.
abbrev pub frame_with : Outline → Ident → ObjectType → Frame → Frame
frame_with o x t f = record {
  result = f.result;
  variables = f.variables ++ record { line = x.line; object = t } ∷ [];
  words = capped (words_of o t + f.words);
}

abbrev pub declare_local : Outline → Ident → ObjectType → Known → Known
declare_local o x t k = record {
  scopes = bind x.name Home.Local (length k.frame.variables) t k.scopes;
  frame = frame_with o x t k.frame;
  declared = k.declared;
}
