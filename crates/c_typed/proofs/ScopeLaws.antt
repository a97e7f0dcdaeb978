-- The search back finds what the open scopes have.
use Rattle.std.proofs.Common.{◌≡◌, ℕ, zero, suc, Bool, true, false, List, [], ◌∷◌, drop, Option, Some, None, refl, ap, sym, ◌∙◌}
use Rattle.std.specs.Prelude.{nat_eq}
use Rattle.std.proofs.Math.Seq.{drop-nil}
use Rattle.c_typed.specs.Marks.{tag, field, global, prototype, function, local, opens, closes, History, Variable, variable, locals_in, globals_in}
use Rattle.c_typed.specs.tools.Scopes.{Binding, Scopes, bound, left, scopes_of, find_in, find}

drop_left : (d : ℕ) (ss : Scopes) → drop d (left ss) ≡ drop (suc d) ss
drop_left d [] = drop-nil d
drop_left d (s ∷ ss) = refl

drop_bound : (d : ℕ) (b : Binding) (ss : Scopes) → drop (suc d) (bound b ss) ≡ drop (suc d) ss
drop_bound d b [] = drop-nil d
drop_bound d b (s ∷ ss) = refl

abbrev chosen : Bool → Variable → Option Variable → Option Variable
chosen t v o = elim t [ true ↦ Some v | false ↦ o ]

abbrev else_in : ℕ → Scopes → Option Variable → Option Variable
else_in x ss o = elim o [ Some v ↦ Some v | None ↦ find x ss ]

first_found : (x : ℕ) (b : Binding) (s : List Binding) (ss : Scopes) → find x ((b ∷ s) ∷ ss) ≡ chosen (nat_eq x b.name) b.variable (find x (s ∷ ss))
first_found x b s ss =
    elim (nat_eq x b.name) as (λ t. else_in x ss (chosen t b.variable (find_in x s)) ≡ chosen t b.variable (else_in x ss (find_in x s))) [ true ↦ refl | false ↦ refl ]

found_bound : (x : ℕ) (b : Binding) (ss : Scopes) → find x (bound b ss) ≡ chosen (nat_eq x b.name) b.variable (find x ss)
found_bound x b [] = first_found x b [] []
found_bound x b (s ∷ ss) = first_found x b s ss

otherwise : (t : Bool) (v : Variable) (o p : Option Variable) → o ≡ p → chosen t v o ≡ chosen t v p
otherwise t v o p is = ap (λ o. chosen t v o) is

pub variable_found : (x d : ℕ) (h : History) → variable x d h ≡ find x (drop d (scopes_of h))
variable_found x zero [] = refl
variable_found x (suc d) [] = ap (find x) (sym (drop-nil d))
variable_found x d (closes ∷ h) = variable_found x (suc d) h ∙ ap (find x) (sym (drop_left d (scopes_of h)))
variable_found x zero (opens o ∷ h) = variable_found x zero h
variable_found x (suc d) (opens o ∷ h) = variable_found x d h
variable_found x zero (function f r ∷ h) = variable_found x zero h
variable_found x (suc d) (function f r ∷ h) = variable_found x d h
variable_found x zero (local y t ∷ h) =
    otherwise (nat_eq x y.name) (Variable.local (locals_in h) t) _ _ (variable_found x zero h) ∙ sym (found_bound x (record { name = y.name; variable = Variable.local (locals_in h) t }) (scopes_of h))
variable_found x (suc d) (local y t ∷ h) = variable_found x (suc d) h ∙ ap (find x) (sym (drop_bound d (record { name = y.name; variable = Variable.local (locals_in h) t }) (scopes_of h)))
variable_found x zero (global y t ∷ h) =
    otherwise (nat_eq x y) (Variable.global (globals_in h) t) _ _ (variable_found x zero h) ∙ sym (found_bound x (record { name = y; variable = Variable.global (globals_in h) t }) (scopes_of h))
variable_found x (suc d) (global y t ∷ h) = variable_found x (suc d) h ∙ ap (find x) (sym (drop_bound d (record { name = y; variable = Variable.global (globals_in h) t }) (scopes_of h)))
variable_found x d (tag y ∷ h) = variable_found x d h
variable_found x d (field y t ∷ h) = variable_found x d h
variable_found x d (prototype y ∷ h) = variable_found x d h
