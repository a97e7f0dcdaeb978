-- What is known at a place is what stands before it: one law for each mark.
use Rattle.std.proofs.Common.{◌≡◌, ℕ, suc, ◌+◌, Bool, true, false, ◌||◌, List, [], ◌∷◌, ◌++◌, length, Option, Some, None, is_some, nat_eq, refl, ap, sym, ◌∙◌, subst}
use Rattle.c_ast.specs.declared.ident.Ident.{Ident}
use Rattle.c_typed.specs.declared.types.ObjectType.{ObjectType}
use Rattle.c_typed.specs.declared.program.Variable.{Variable as Declared}
use Rattle.c_types.specs.declared.outline.Outline.{Outline}
use Rattle.c_types.specs.declared.scopes.Home.{Home}
use Rattle.c_types.specs.declared.known.Frame.{Frame}
use Rattle.c_types.specs.declared.known.Known.{Known}
use Rattle.c_typed.specs.Types as types
use Rattle.c_typed.specs.Marks.{Mark, tag, field, global, prototype, function, local, opens, closes, Opening, History, Variable, is_declared, has_tag, locals_in, frame_words, result_at}
use Rattle.c_typed.specs.Whole.{Whole}
use Rattle.c_typed.specs.Parts.{marked}
use Rattle.c_typed.specs.tools.Scopes.{Binding as Meant, Scopes as Open, bound, left, scopes_of, find_in, find}
use Rattle.c_types.specs.tools.Tables.{looked}
use Rattle.c_types.specs.tools.Outlines.{binding_by, capped}
use Rattle.c_types.specs.tools.KnownSteps.{is_bound_here, entered, exited, frame_with, declare_local}
use Rattle.c_typed.proofs.ScopeLaws.{variable_found}
use Rattle.c_typed.proofs.Balanced.{Balanced, marked_scope, left_behind}
use Rattle.c_types.proofs.Outlined.{IsOutline, Names, variable_of}
use Rattle.c_types.proofs.Bindings.{AreOpen, at_index, binds, opens_one, closes_one, finds, has}
use Rattle.c_types.proofs.OutlineWords.{words_same, capped_sum}

-- The scopes and the tags.
pub record Stands (h : History) (k : Known) : Type 0 where
  pub inner : List Meant
  pub outer : Open
  pub scopes : scopes_of h ≡ inner ∷ outer
  pub scoped : AreOpen (inner ∷ outer) k.scopes
  pub tags : (x : ℕ) → is_some (looked k.declared.tags x) ≡ has_tag x h

indexed : (k : Known) (o : Option ℕ) → binding_by k o ≡ at_index k.scopes.bindings o
indexed k None = refl
indexed k (Some i) = refl

pub names_of : {h : History} {k : Known} → Stands h k → Names h k
names_of {h} {k} is = record {
  variables = λ x.
      ap variable_of (indexed k (looked k.scopes.newest x)) ∙ finds x (is.inner ∷ is.outer) k.scopes is.scoped ∙ ap (find x) (sym is.scopes) ∙ sym (variable_found x 0 h);
  tags = is.tags;
}

-- The innermost scope of a history, where it has variables of its own alone.
abbrev innermost : Open → List Meant
innermost [] = []
innermost (s ∷ ss) = s

abbrev pub Inner : History → Type 0
Inner h = (x : ℕ) → is_declared x 0 h ≡ is_some (find_in x (innermost (scopes_of h)))

some_when : (t : Bool) (v : Variable) (o : Option Variable) → t || is_some o ≡ is_some (elim t [ true ↦ Some v | false ↦ o ])
some_when true v o = refl
some_when false v o = refl

innermost_bound : (b : Meant) (ss : Open) → innermost (bound b ss) ≡ b ∷ innermost ss
innermost_bound b [] = refl
innermost_bound b (s ∷ ss) = refl

pub inner_opens : (o : Opening) (h : History) → Inner (opens o ∷ h)
inner_opens o h x = refl

pub inner_function : (f : ℕ) (r : Option ObjectType) (h : History) → Inner (function f r ∷ h)
inner_function f r h x = refl

pub inner_local : (x : Ident) (t : ObjectType) (h : History) → Inner h → Inner (local x t ∷ h)
inner_local x t h is y =
    let b : Meant = record { name = x.name; variable = Variable.local (locals_in h) t } in
    ap (λ d. nat_eq y x.name || d) (is y) ∙ some_when (nat_eq y x.name) (Variable.local (locals_in h) t) (find_in y (innermost (scopes_of h)))
    ∙ ap (λ s. is_some (find_in y s)) (sym (innermost_bound b (scopes_of h)))

past_balanced : (x d : ℕ) (h : History) {ms : List Mark} → Balanced ms → is_declared x (suc d) (marked ms h) ≡ is_declared x (suc d) h
past_balanced x d h Balanced.none = refl
past_balanced x d h (Balanced.variable y t is) = past_balanced x d (local y t ∷ h) is
past_balanced x d h (Balanced.scope o {ms} inner rest is more e) =
    ap (is_declared x (suc d)) (marked_scope o ms inner rest h e) ∙ past_balanced x d (closes ∷ marked inner (opens o ∷ h)) more ∙ past_balanced x (suc d) (opens o ∷ h) is

pub inner_closed : (o : Opening) (h : History) {ms : List Mark} → Balanced ms → Inner h → Inner (closes ∷ marked ms (opens o ∷ h))
inner_closed o h is before x = past_balanced x 0 (opens o ∷ h) is ∙ before x ∙ ap (λ ss. is_some (find_in x (innermost ss))) (sym (left_behind (opens o ∷ h) is))

pub inner_behind : (h : History) {ms : List Mark} → Balanced ms → Inner h → Inner (marked ms h)
inner_behind h Balanced.none before = before
inner_behind h (Balanced.variable y t is) before = inner_behind (local y t ∷ h) is (inner_local y t h before)
inner_behind h (Balanced.scope o {ms} inner rest is more e) before =
    subst Inner (sym (marked_scope o ms inner rest h e)) (inner_behind (closes ∷ marked inner (opens o ∷ h)) more (inner_closed o h is before))

pub declared_here : {h : History} {k : Known} → Stands h k → Inner h → (x : ℕ) → is_bound_here k.scopes x ≡ is_declared x 0 h
declared_here {h} {k} is inner x = has x is.inner is.outer k.scopes is.scoped ∙ ap (λ ss. is_some (find_in x (innermost ss))) (sym is.scopes) ∙ sym (inner x)

-- The function round a place.
abbrev pub variables_of : History → List Declared
variables_of [] = []
variables_of (function f r ∷ h) = []
variables_of (local x t ∷ h) = variables_of h ++ (record { line = x.line; object = t } ∷ [])
variables_of (_ ∷ h) = variables_of h

pub length_push : {A : Type 0} (xs : List A) (x : A) → length (xs ++ (x ∷ [])) ≡ suc (length xs)
length_push [] x = refl
length_push (y ∷ ys) x = ap suc (length_push ys x)

pub count_locals : (h : History) → length (variables_of h) ≡ locals_in h
count_locals [] = refl
count_locals (function f r ∷ h) = refl
count_locals (local x t ∷ h) = length_push (variables_of h) (record { line = x.line; object = t }) ∙ ap suc (count_locals h)
count_locals (tag x ∷ h) = count_locals h
count_locals (field x t ∷ h) = count_locals h
count_locals (global x t ∷ h) = count_locals h
count_locals (prototype x ∷ h) = count_locals h
count_locals (opens o ∷ h) = count_locals h
count_locals (closes ∷ h) = count_locals h

pub record IsFramed (w : Whole) (h : History) (f : Frame) : Type 0 where
  pub result : f.result ≡ result_at h
  pub variables : f.variables ≡ variables_of h
  pub words : f.words ≡ capped (frame_words w.sizes h)

pub framed_local : (w : Whole) (o : Outline) → IsOutline w o → (x : Ident) (t : ObjectType) (h : History) (f : Frame) → IsFramed w h f → IsFramed w (local x t ∷ h) (frame_with o x t f)
framed_local w o is x t h f was = record {
  result = was.result;
  variables = ap (λ vs. vs ++ (record { line = x.line; object = t } ∷ [])) was.variables;
  words =
      ap (λ n. capped (n + f.words)) (words_same w o is t) ∙ ap (λ n. capped (capped (types.words_of w.sizes t) + n)) was.words
      ∙ capped_sum (types.words_of w.sizes t) (frame_words w.sizes h);
}

-- a function begins
pub framed_function : (w : Whole) (x : ℕ) (r : Option ObjectType) (h : History) → IsFramed w (function x r ∷ h) (record { result = r; variables = []; words = 1 })
framed_function w x r h = record { result = refl; variables = refl; words = refl }

-- Marks inside a function.
pub stands_local : (o : Outline) (x : Ident) (t : ObjectType) (h : History) (k : Known) → length k.frame.variables ≡ locals_in h → Stands h k → Stands (local x t ∷ h) (declare_local o x t k)
stands_local o x t h k count is =
    record {
      inner = b ∷ is.inner;
      outer = is.outer;
      scopes = ap (bound b) is.scopes;
      scoped = subst (λ n. AreOpen ((record { name = x.name; variable = Variable.local n t } ∷ is.inner) ∷ is.outer) (declare_local o x t k).scopes) count
          (binds x.name (length k.frame.variables) Home.Local t is.inner is.outer k.scopes is.scoped);
      tags = is.tags;
    } where
      b : Meant
      b = record { name = x.name; variable = Variable.local (locals_in h) t }

pub stands_opens : (c : Opening) (h : History) (k : Known) → Stands h k → Stands (opens c ∷ h) (entered k)
stands_opens c h k is = record {
  inner = [];
  outer = is.inner ∷ is.outer;
  scopes = ap (λ ss. [] ∷ ss) is.scopes;
  scoped = opens_one (is.inner ∷ is.outer) k.scopes is.scoped;
  tags = is.tags;
}

pub stands_function : (f : ℕ) (r : Option ObjectType) (h : History) (k : Known) → Stands h k → Stands (function f r ∷ h) (entered k)
stands_function f r h k is = record {
  inner = [];
  outer = is.inner ∷ is.outer;
  scopes = ap (λ ss. [] ∷ ss) is.scopes;
  scoped = opens_one (is.inner ∷ is.outer) k.scopes is.scoped;
  tags = is.tags;
}

-- a scope that is not the last is closed
pub stands_closes : (h : History) (k : Known) (s : List Meant) (ss : Open) → left (scopes_of h) ≡ s ∷ ss → Stands h k → Stands (closes ∷ h) (exited k)
stands_closes h k s ss e is = record {
  inner = s;
  outer = ss;
  scopes = e;
  scoped = subst (λ ss. AreOpen ss (exited k).scopes) (sym (ap left is.scopes) ∙ e) (closes_one is.inner is.outer k.scopes is.scoped);
  tags = is.tags;
}
