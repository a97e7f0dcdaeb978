-- What is known inside a struct: its fields so far, and else what is known before it.
use Rattle.std.proofs.Common.{◌≡◌, ℕ, ◌+◌, ◌≤◌, Bool, true, false, ◌||◌, ◌∷◌, Option, Some, None, is_some, nat_eq, refl, ap, sym, ◌∙◌, subst, arith}
use Rattle.std.proofs.lemmas.Bool.Decides.{nat_tests}
use Rattle.c_ast.specs.declared.ident.Ident.{Ident}
use Rattle.c_typed.specs.declared.types.ObjectType.{ObjectType}
use Rattle.c_types.specs.declared.outline.Outline.{Outline}
use Rattle.c_types.specs.declared.known.Known.{Known}
use Rattle.c_typed.specs.Types as types
use Rattle.c_typed.specs.Marks as marks
use Rattle.c_typed.specs.Marks.{tag, field, opens, closes, fields, History, has_field, field_words, variable}
use Rattle.c_typed.specs.Whole.{Whole}
use Rattle.c_typed.specs.tools.Scopes.{left, scopes_of}
use Rattle.c_types.specs.tools.Tables.{looked}
use Rattle.c_types.specs.tools.Outlines.{bound, capped}
use Rattle.c_types.specs.tools.ProgramSteps.{with_fields, struct_begun, is_number, is_field, field_declared, struct_ended}
use Rattle.c_types.proofs.Outlined.{IsOutline, Names, variable_of}
use Rattle.c_types.proofs.OutlineWords.{words_same, capped_sum}
use Rattle.c_types.proofs.Bindings.{when, looked_put, some_is}
use Rattle.c_types.proofs.Standing.{names_of, variables_of}
use Rattle.c_types.proofs.ItemStands.{AtItem, FieldsBelow, put_some}

-- a struct begins behind g, and fields alone follow
pub data InFields (g : History) : History → Type 0 where
  begun : InFields g (opens fields ∷ g)
  next : (x : ℕ) (t : ObjectType) {h : History} → InFields g h → InFields g (field x t ∷ h)

-- what fields do not change
pub over_fields : {A : Type 0} (f : History → A) → ((x : ℕ) (t : ObjectType) (h : History) → f (field x t ∷ h) ≡ f h) → {g h : History} → InFields g h → f h ≡ f (opens fields ∷ g)
over_fields f over begun = refl
over_fields f over (next x t {h} is) = over x t h ∙ over_fields f over is

-- g and l: what stands before the struct, and what is known there
pub record Inside (w : Whole) (g : History) (l : Known) (h : History) (k : Known) : Type 0 where
  pub begun : InFields g h
  pub named : (x : ℕ) → is_field k x ≡ has_field x h
  pub words : k.declared.field_words ≡ capped (field_words w.sizes h)
  pub numbers : FieldsBelow k.declared
  pub known : k ≡ with_fields k.declared.fields k.declared.structs k.declared.field_words l

module _ (w : Whole) (g : History) (l : Known) (was : AtItem w g l) where
  unknown_yet : (o : Option ℕ) → ((n : ℕ) → o ≡ Some n → n ≤ l.declared.structs) → is_number (l.declared.structs + 1) o ≡ false
  unknown_yet None below = refl
  unknown_yet (Some n) below = let le = below n refl in grind (arith, nat_tests, le)

  more : (n m : ℕ) → n ≤ m → n ≤ m + 1
  more n m le = omega (arith, le)

  pub inside_begun : Inside w g l (opens fields ∷ g) (struct_begun l)
  inside_begun = record {
    begun = begun;
    named = λ x. unknown_yet (looked l.declared.fields x) (was.fields x);
    words = refl;
    numbers = λ x n e. more n l.declared.structs (was.fields x n e);
    known = refl;
  }

pub field_names : (w : Whole) (g : History) (l : Known) → AtItem w g l → (h : History) (k : Known) → Inside w g l h k → Names h k
field_names w g l was h k is =
    let names = names_of was.outer.stands in
    record {
      variables = λ x. ap (λ k. variable_of (bound k x)) is.known ∙ names.variables x ∙ sym (over_fields (variable x 0) (λ y t h. refl) is.begun);
      tags = λ x. ap (λ (k : Known). is_some (looked k.declared.tags x)) is.known ∙ names.tags x ∙ sym (over_fields (marks.has_tag x) (λ y t h. refl) is.begun);
    }

-- One more field.
same_number : (n : ℕ) → nat_eq n n ≡ true
same_number n = grind (arith, nat_tests)

number_put : (n : ℕ) (t : Bool) (o : Option ℕ) → is_number n (when t (Some n) o) ≡ t || is_number n o
number_put n true o = same_number n
number_put n false o = refl

no_more : (n m : ℕ) → m ≡ n → n ≤ m
no_more n m e = omega (arith, e)

below_put : (m n : ℕ) (t : Bool) (o : Option ℕ) → (o ≡ Some n → n ≤ m) → when t (Some m) o ≡ Some n → n ≤ m
below_put m n true o below e = no_more n m (some_is e)
below_put m n false o below e = below e

pub inside_field : (w : Whole) (o : Outline) → IsOutline w o → (g : History) (l : Known) (x : Ident) (t : ObjectType) (h : History) (k : Known) → Inside w g l h k
    → Inside w g l (field x.name t ∷ h) (field_declared o x t k)
inside_field w o is_outline g l x t h k is =
    let d = k.declared in
    record {
      begun = next x.name t is.begun;
      named = λ y.
          ap (is_number d.structs) (looked_put x.name y (Some d.structs) d.fields) ∙ number_put d.structs (nat_eq y x.name) (looked d.fields y)
          ∙ ap (λ b. nat_eq y x.name || b) (is.named y);
      words =
          ap (λ n. capped (n + d.field_words)) (words_same w o is_outline t) ∙ ap (λ n. capped (capped (types.words_of w.sizes t) + n)) is.words
          ∙ capped_sum (types.words_of w.sizes t) (field_words w.sizes h);
      numbers = λ y n e. below_put d.structs n (nat_eq y x.name) (looked d.fields y) (is.numbers y n) (sym (looked_put x.name y (Some d.structs) d.fields) ∙ e);
      known = ap (with_fields (field_declared o x t k).declared.fields d.structs (field_declared o x t k).declared.field_words) is.known;
    }

-- The struct ends.
pub inside_ended : (w : Whole) (g : History) (l : Known) (x : ℕ) (h : History) (k : Known) → AtItem w g l → Inside w g l h k → AtItem w (tag x ∷ closes ∷ h) (struct_ended x k)
inside_ended w g l x h k was is =
    let d = k.declared in
    subst (λ k. AtItem w (tag x ∷ closes ∷ h) (struct_ended x k)) (sym is.known)
    (record {
      outer = record {
        stands = record {
          inner = was.outer.stands.inner;
          outer = was.outer.stands.outer;
          scopes = ap left (over_fields scopes_of (λ y t h. refl) is.begun) ∙ was.outer.stands.scopes;
          scoped = was.outer.stands.scoped;
          tags = λ y. put_some x y d.structs l.declared.tags (marks.has_tag y h) (was.outer.stands.tags y ∙ sym (over_fields (marks.has_tag y) (λ z t h. refl) is.begun));
        };
        framed = record {
          result = was.outer.framed.result ∙ sym (over_fields marks.result_at (λ y t h. refl) is.begun);
          variables = was.outer.framed.variables ∙ sym (over_fields variables_of (λ y t h. refl) is.begun);
          words = was.outer.framed.words ∙ ap capped (sym (over_fields (marks.frame_words w.sizes) (λ y t h. refl) is.begun));
        };
        global_names = λ y. was.outer.global_names y ∙ sym (over_fields (marks.has_global y) (λ z t h. refl) is.begun);
        function_names = λ y. was.outer.function_names y ∙ sym (over_fields (marks.has_function y) (λ z t h. refl) is.begun);
        prototype_names = λ y. was.outer.prototype_names y ∙ sym (over_fields (marks.has_prototype y) (λ z t h. refl) is.begun);
        functions = was.outer.functions ∙ sym (over_fields marks.functions_in (λ y t h. refl) is.begun);
        globals = was.outer.globals ∙ sym (over_fields marks.globals_in (λ y t h. refl) is.begun);
        global_words = was.outer.global_words ∙ ap capped (sym (over_fields (marks.global_words w.sizes) (λ y t h. refl) is.begun));
      };
      fields = is.numbers;
    })
