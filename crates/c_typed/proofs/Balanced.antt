-- The marks of a part: an expression leaves none, a statement variables and closed scopes.
use Rattle.std.proofs.Common.{◌≡◌, ℕ, suc, List, [], ◌∷◌, ◌++◌, refl, ap, sym, ◌∙◌}
use Rattle.std.proofs.lemmas.List.{append_assoc}
use Rattle.c_ast.specs.declared.ident.Ident.{Ident}
use Rattle.c_typed.specs.declared.types.ObjectType.{ObjectType}
use Rattle.c_typed.specs.Marks
use Rattle.c_typed.specs.Marks.{Mark, local, opens, closes, Opening, History, Variable, around, result_at, functions_in, globals_in, has_tag, has_global, has_function, has_prototype, global_words}
use Rattle.c_typed.specs.Parts.{marked}
use Rattle.c_typed.specs.tools.Scopes.{Binding, Scopes, bound, left, scopes_of}

-- variables and scopes that are closed again
pub data Balanced : List Mark → Type 0 where
  none : Balanced []
  variable : (x : Ident) (t : ObjectType) {ms : List Mark} → Balanced ms → Balanced (local x t ∷ ms)
  scope : (o : Opening) {ms : List Mark} (inner rest : List Mark) → Balanced inner → Balanced rest → ms ≡ inner ++ (closes ∷ rest) → Balanced (opens o ∷ ms)

pub marked_append : (ms ns : List Mark) (h : History) → marked (ms ++ ns) h ≡ marked ns (marked ms h)
marked_append [] ns h = refl
marked_append (m ∷ ms) ns h = marked_append ms ns (m ∷ h)

pub balanced_append : {ms : List Mark} (ns : List Mark) → Balanced ms → Balanced ns → Balanced (ms ++ ns)
balanced_append ns none more = more
balanced_append ns (variable x t is) more = variable x t (balanced_append ns is more)
balanced_append ns (scope o inner rest is after e) more =
    scope o inner (rest ++ ns) is (balanced_append ns after more) (ap (λ ms. ms ++ ns) e ∙ append_assoc inner (closes ∷ rest) ns)

-- behind a scope that is closed again
pub marked_scope : (o : Opening) (ms inner rest : List Mark) (h : History) → ms ≡ inner ++ (closes ∷ rest) → marked (opens o ∷ ms) h ≡ marked rest (closes ∷ marked inner (opens o ∷ h))
marked_scope o ms inner rest h e = ap (λ ns. marked ns (opens o ∷ h)) e ∙ marked_append inner (closes ∷ rest) (opens o ∷ h)

pub around_behind : {ms : List Mark} (d : ℕ) (h : History) → Balanced ms → around d (marked ms h) ≡ around d h
around_behind d h none = refl
around_behind d h (variable x t is) = around_behind d (local x t ∷ h) is
around_behind d h (scope o {ms} inner rest is after e) =
    ap (around d) (marked_scope o ms inner rest h e) ∙ around_behind d (closes ∷ marked inner (opens o ∷ h)) after ∙ around_behind (suc d) (opens o ∷ h) is

-- What variables and scopes do not change.
pub record IsOutside {A : Type 0} (f : History → A) : Type 0 where
  pub over_local : (x : Ident) (t : ObjectType) (h : History) → f (local x t ∷ h) ≡ f h
  pub over_opens : (o : Opening) (h : History) → f (opens o ∷ h) ≡ f h
  pub over_closes : (h : History) → f (closes ∷ h) ≡ f h

pub unchanged : {A : Type 0} (f : History → A) → IsOutside f → {ms : List Mark} (h : History) → Balanced ms → f (marked ms h) ≡ f h
unchanged f outside h none = refl
unchanged f outside h (variable x t is) = unchanged f outside (local x t ∷ h) is ∙ outside.over_local x t h
unchanged f outside h (scope o {ms} inner rest is after e) =
    ap f (marked_scope o ms inner rest h e) ∙ unchanged f outside (closes ∷ marked inner (opens o ∷ h)) after ∙ outside.over_closes (marked inner (opens o ∷ h))
    ∙ unchanged f outside (opens o ∷ h) is ∙ outside.over_opens o h

pub result_outside : IsOutside result_at
result_outside = record { over_local = λ x t h. refl; over_opens = λ o h. refl; over_closes = λ h. refl }

pub functions_outside : IsOutside functions_in
functions_outside = record { over_local = λ x t h. refl; over_opens = λ o h. refl; over_closes = λ h. refl }

pub globals_outside : IsOutside globals_in
globals_outside = record { over_local = λ x t h. refl; over_opens = λ o h. refl; over_closes = λ h. refl }

pub tags_outside : (x : ℕ) → IsOutside (has_tag x)
tags_outside x = record { over_local = λ y t h. refl; over_opens = λ o h. refl; over_closes = λ h. refl }

pub has_global_outside : (x : ℕ) → IsOutside (has_global x)
has_global_outside x = record { over_local = λ y t h. refl; over_opens = λ o h. refl; over_closes = λ h. refl }

pub has_function_outside : (x : ℕ) → IsOutside (has_function x)
has_function_outside x = record { over_local = λ y t h. refl; over_opens = λ o h. refl; over_closes = λ h. refl }

pub has_prototype_outside : (x : ℕ) → IsOutside (has_prototype x)
has_prototype_outside x = record { over_local = λ y t h. refl; over_opens = λ o h. refl; over_closes = λ h. refl }

pub global_words_outside : (sizes : List ℕ) → IsOutside (global_words sizes)
global_words_outside sizes = record { over_local = λ y t h. refl; over_opens = λ o h. refl; over_closes = λ h. refl }

-- The innermost scope alone gains variables.
abbrev pub gained : List Binding → Scopes → Scopes
gained [] ss = ss
gained (b ∷ bs) ss = bound b (gained bs ss)

pub data AllLocal : List Binding → Type 0 where
  none : AllLocal []
  one : (x k : ℕ) (t : ObjectType) {bs : List Binding} → AllLocal bs → AllLocal (record { name = x; variable = Variable.local k t } ∷ bs)

pub left_bound : (b : Binding) (ss : Scopes) → left (bound b ss) ≡ left ss
left_bound b [] = refl
left_bound b (s ∷ ss) = refl

pub left_gained : (bs : List Binding) (ss : Scopes) → left (gained bs ss) ≡ left ss
left_gained [] ss = refl
left_gained (b ∷ bs) ss = left_bound b (gained bs ss) ∙ left_gained bs ss

gained_append : (bs cs : List Binding) (ss : Scopes) → gained (bs ++ cs) ss ≡ gained bs (gained cs ss)
gained_append [] cs ss = refl
gained_append (b ∷ bs) cs ss = ap (bound b) (gained_append bs cs ss)

local_append : {bs cs : List Binding} → AllLocal bs → AllLocal cs → AllLocal (bs ++ cs)
local_append none all = all
local_append (one x k t more) all = one x k t (local_append more all)

pub record Gains (before after : Scopes) : Type 0 where
  pub new : List Binding
  pub locals : AllLocal new
  pub gained : after ≡ gained new before

pub scopes_behind : {ms : List Mark} (h : History) → Balanced ms → Gains (scopes_of h) (scopes_of (marked ms h))
scopes_behind h none = record { new = []; locals = none; gained = refl }
scopes_behind h (variable x t is) =
    let more = scopes_behind (local x t ∷ h) is in
    record {
      new = more.new ++ (record { name = x.name; variable = Variable.local (Marks.locals_in h) t } ∷ []);
      locals = local_append more.locals (one x.name (Marks.locals_in h) t none);
      gained = more.gained ∙ sym (gained_append more.new (record { name = x.name; variable = Variable.local (Marks.locals_in h) t } ∷ []) (scopes_of h));
    }
scopes_behind h (scope o {ms} inner rest is after e) =
    let within = scopes_behind (opens o ∷ h) is in
    let more = scopes_behind (closes ∷ marked inner (opens o ∷ h)) after in
    record {
      new = more.new;
      locals = more.locals;
      gained =
          ap scopes_of (marked_scope o ms inner rest h e) ∙ more.gained
          ∙ ap (λ ss. gained more.new (left ss)) within.gained ∙ ap (gained more.new) (left_gained within.new ([] ∷ scopes_of h));
    }

-- what is left behind a scope is left behind it with its variables too
pub left_behind : {ms : List Mark} (h : History) → Balanced ms → left (scopes_of (marked ms h)) ≡ left (scopes_of h)
left_behind h is =
    let more = scopes_behind h is in
    ap left more.gained ∙ left_gained more.new (scopes_of h)
