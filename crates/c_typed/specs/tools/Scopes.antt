-- The open scopes of a history, the innermost first, each with its variables, the newest first. A tool of proof.
use Rattle.std.specs.Prelude.{ℕ, true, false, nat_eq, List, [], ◌∷◌, Option, Some, None}
use Rattle.c_typed.specs.Marks.{global, local, function, opens, closes, History, Variable, locals_in, globals_in}

pub record Binding : Type 0 where
  pub name : ℕ
  pub variable : Variable

abbrev pub Scopes : Type 0
Scopes = List (List Binding)

abbrev pub bound : Binding → Scopes → Scopes
bound b [] = (b ∷ []) ∷ []
bound b (s ∷ ss) = (b ∷ s) ∷ ss

abbrev pub left : Scopes → Scopes
left [] = []
left (s ∷ ss) = ss

abbrev pub scopes_of : History → Scopes
scopes_of [] = [] ∷ []
scopes_of (closes ∷ h) = left (scopes_of h)
scopes_of (opens o ∷ h) = [] ∷ scopes_of h
scopes_of (function f r ∷ h) = [] ∷ scopes_of h
scopes_of (local x t ∷ h) = bound (record { name = x.name; variable = Variable.local (locals_in h) t }) (scopes_of h)
scopes_of (global x t ∷ h) = bound (record { name = x; variable = Variable.global (globals_in h) t }) (scopes_of h)
scopes_of (_ ∷ h) = scopes_of h

abbrev pub find_in : ℕ → List Binding → Option Variable
find_in x [] = None
find_in x (b ∷ bs) = elim (nat_eq x b.name) [ true ↦ Some b.variable | false ↦ find_in x bs ]

abbrev pub find : ℕ → Scopes → Option Variable
find x [] = None
find x (s ∷ ss) = elim (find_in x s) [ Some v ↦ Some v | None ↦ find x ss ]
