-- What is known at an item of a program: one law for each mark of the program's own scope.
use Rattle.std.proofs.Common.{◌≡◌, ℕ, suc, ◌+◌, ◌≤◌, ℤ, Bool, true, false, ◌||◌, List, [], ◌∷◌, length, Option, Some, is_some, nat_eq, refl, ap, sym, ◌∙◌, subst}
use Rattle.c_ast.specs.declared.ident.Ident.{Ident}
use Rattle.c_typed.specs.declared.types.ObjectType.{ObjectType}
use Rattle.c_types.specs.declared.table.Table.{Table}
use Rattle.c_types.specs.declared.scopes.Home.{Home}
use Rattle.c_types.specs.declared.outline.Outline.{Outline}
use Rattle.c_types.specs.declared.known.Declared.{Declared}
use Rattle.c_types.specs.declared.known.Known.{Known}
use Rattle.c_typed.specs.Types as types
use Rattle.c_typed.specs.Marks as marks
use Rattle.c_typed.specs.Marks.{Mark, Opening, global, prototype, opens, closes, History, Variable, globals_in}
use Rattle.c_typed.specs.Whole.{Whole}
use Rattle.c_typed.specs.Parts.{marked}
use Rattle.c_typed.specs.tools.Scopes.{Binding as Meant, bound}
use Rattle.c_types.specs.tools.Tables.{looked, put}
use Rattle.c_types.specs.tools.Outlines.{capped}
use Rattle.c_types.specs.tools.KnownSteps.{entered, exited}
use Rattle.c_types.specs.tools.ProgramSteps.{nothing_known, global_declared, prototype_declared}
use Rattle.c_typed.proofs.Balanced.{Balanced, left_behind, unchanged, has_global_outside, has_function_outside, has_prototype_outside, functions_outside, globals_outside, global_words_outside}
use Rattle.c_types.proofs.Outlined.{IsOutline}
use Rattle.c_types.proofs.OutlineWords.{words_same, capped_sum}
use Rattle.c_types.proofs.Bindings.{AreOpen, when, looked_put, binds, none_some}
use Rattle.c_types.proofs.Standing.{Stands, length_push, stands_closes, stands_opens, inner_opens}
use Rattle.c_types.proofs.WalkAnswers.{Within}
use Rattle.c_types.proofs.OuterStands.{Outer}

-- the fields that were declared so far, by the numbers of their structs
abbrev pub FieldsBelow : Declared → Type 0
FieldsBelow d = (x n : ℕ) → looked d.fields x ≡ Some n → n ≤ d.structs

pub record AtItem (w : Whole) (h : History) (k : Known) : Type 0 where
  pub outer : Outer w h k
  pub fields : FieldsBelow k.declared

pub nothing_stands : (w : Whole) → AtItem w [] nothing_known
nothing_stands w = record {
  outer = record {
    stands = record {
      inner = [];
      outer = [];
      scopes = refl;
      scoped = record { bindings = refl; starts = refl; newest = λ x. refl; hide = tt };
      tags = λ x. refl;
    };
    framed = record { result = refl; variables = refl; words = refl };
    global_names = λ x. refl;
    function_names = λ x. refl;
    prototype_names = λ x. refl;
    functions = refl;
    globals = refl;
    global_words = refl;
  };
  fields = λ x n e. absurd (none_some e);
}

-- a name that is put into a table
when_some : (t : Bool) (n : ℕ) (o : Option ℕ) → is_some (when t (Some n) o) ≡ t || is_some o
when_some true n o = refl
when_some false n o = refl

pub put_some : (x y n : ℕ) (t : Table) (b : Bool) → is_some (looked t y) ≡ b → is_some (looked (put x (Some n) t) y) ≡ nat_eq y x || b
put_some x y n t b is = ap is_some (looked_put x y (Some n) t) ∙ when_some (nat_eq y x) n (looked t y) ∙ ap (λ b. nat_eq y x || b) is

-- A global.
stands_global : (o : Outline) (x : Ident) (t : ObjectType) (start : ℤ) (h : History) (k : Known) → length k.declared.globals ≡ globals_in h → Stands h k
    → Stands (global x.name t ∷ h) (global_declared o x t start k)
stands_global o x t start h k count is =
    record {
      inner = b ∷ is.inner;
      outer = is.outer;
      scopes = ap (bound b) is.scopes;
      scoped = subst (λ n. AreOpen ((record { name = x.name; variable = Variable.global n t } ∷ is.inner) ∷ is.outer) (global_declared o x t start k).scopes) count
          (binds x.name (length k.declared.globals) Home.Global t is.inner is.outer k.scopes is.scoped);
      tags = is.tags;
    } where
      b : Meant
      b = record { name = x.name; variable = Variable.global (globals_in h) t }

pub at_global : (w : Whole) (o : Outline) → IsOutline w o → (x : Ident) (t : ObjectType) (start : ℤ) (h : History) (k : Known) → AtItem w h k
    → AtItem w (global x.name t ∷ h) (global_declared o x t start k)
at_global w o is x t start h k was =
    let d = k.declared in
    record {
      outer = record {
        stands = stands_global o x t start h k was.outer.globals was.outer.stands;
        framed = record { result = was.outer.framed.result; variables = was.outer.framed.variables; words = was.outer.framed.words };
        global_names = λ y. put_some x.name y (length d.globals) d.global_names (marks.has_global y h) (was.outer.global_names y);
        function_names = was.outer.function_names;
        prototype_names = was.outer.prototype_names;
        functions = was.outer.functions;
        globals = length_push d.globals (record { line = x.line; object = t; start = start }) ∙ ap suc was.outer.globals;
        global_words =
            ap (λ n. capped (n + d.global_words)) (words_same w o is t) ∙ ap (λ n. capped (capped (types.words_of w.sizes t) + n)) was.outer.global_words
            ∙ capped_sum (types.words_of w.sizes t) (marks.global_words w.sizes h);
      };
      fields = was.fields;
    }

-- A prototype.
pub at_prototype : (w : Whole) (x : ℕ) (h : History) (k : Known) → AtItem w h k → AtItem w (prototype x ∷ h) (prototype_declared x k)
at_prototype w x h k was = record {
  outer = record {
    stands = record { inner = was.outer.stands.inner; outer = was.outer.stands.outer; scopes = was.outer.stands.scopes; scoped = was.outer.stands.scoped; tags = was.outer.stands.tags };
    framed = record { result = was.outer.framed.result; variables = was.outer.framed.variables; words = was.outer.framed.words };
    global_names = was.outer.global_names;
    function_names = was.outer.function_names;
    prototype_names = λ y. put_some x y k.declared.functions k.declared.prototype_names (marks.has_prototype y h) (was.outer.prototype_names y);
    functions = was.outer.functions;
    globals = was.outer.globals;
    global_words = was.outer.global_words;
  };
  fields = was.fields;
}

-- A scope at program level, in which nothing of the program's own is declared.
pub record Opened (w : Whole) (d : Declared) (h : History) (k : Known) : Type 0 where
  pub within : Within w h k
  pub declared : k.declared ≡ d

pub opened_there : (w : Whole) (o : Opening) (h : History) (k : Known) → AtItem w h k → Opened w k.declared (opens o ∷ h) (entered k)
opened_there w o h k was = record {
  within = record {
    stands = stands_opens o h k was.outer.stands;
    framed = record { result = was.outer.framed.result; variables = was.outer.framed.variables; words = was.outer.framed.words };
    inner = inner_opens o h;
  };
  declared = refl;
}

pub closed_there : (w : Whole) (o : Opening) (h : History) (k l : Known) {ms : List Mark} → Balanced ms → AtItem w h k → Opened w k.declared (marked ms (opens o ∷ h)) l
    → AtItem w (closes ∷ marked ms (opens o ∷ h)) (exited l)
closed_there w o h k l balanced was is =
    let g = opens o ∷ h in
    record {
      outer = record {
        stands = stands_closes _ l was.outer.stands.inner was.outer.stands.outer (left_behind g balanced ∙ was.outer.stands.scopes) is.within.stands;
        framed = record { result = is.within.framed.result; variables = is.within.framed.variables; words = is.within.framed.words };
        global_names = λ x. ap (λ (d : Declared). is_some (looked d.global_names x)) is.declared ∙ was.outer.global_names x ∙ sym (unchanged (marks.has_global x) (has_global_outside x) g balanced);
        function_names = λ x. ap (λ (d : Declared). is_some (looked d.function_names x)) is.declared ∙ was.outer.function_names x ∙ sym (unchanged (marks.has_function x) (has_function_outside x) g balanced);
        prototype_names = λ x. ap (λ (d : Declared). is_some (looked d.prototype_names x)) is.declared ∙ was.outer.prototype_names x ∙ sym (unchanged (marks.has_prototype x) (has_prototype_outside x) g balanced);
        functions = ap (λ (d : Declared). d.functions) is.declared ∙ was.outer.functions ∙ sym (unchanged marks.functions_in functions_outside g balanced);
        globals = ap (λ (d : Declared). length d.globals) is.declared ∙ was.outer.globals ∙ sym (unchanged globals_in globals_outside g balanced);
        global_words = ap (λ (d : Declared). d.global_words) is.declared ∙ was.outer.global_words ∙ ap capped (sym (unchanged (marks.global_words w.sizes) (global_words_outside w.sizes) g balanced));
      };
      fields = subst FieldsBelow (sym is.declared) was.fields;
    }
