-- What stands before an item of a program, behind each kind of item.
use Rattle.std.proofs.Common.{◌≡◌, ℕ, ◌<◌, Bool, true, false, ◌||◌, List, [], ◌∷◌, ◌++◌, map, length, Option, Some, None, refl, ap, sym, ◌∙◌, subst, arith}
use Rattle.std.specs.Prelude.{slice_get, nat_eq}
use Rattle.std.proofs.lemmas.List.{append-nil, append_assoc}
use Rattle.std.proofs.lemmas.Bool.Decides.{nat_tests}
use Rattle.c_ast.specs.declared.ident.Ident.{Ident}
use Rattle.c_ast.specs.declared.decl.Base.{Base}
use Rattle.c_ast.specs.declared.decl.Decl.{Decl}
use Rattle.c_ast.specs.declared.decl.DeclItem.{DeclItem}
use Rattle.c_ast.specs.declared.decl.Declarator.{Declarator}
use Rattle.c_ast.specs.declared.decl.ProtoParam.{ProtoParam}
use Rattle.c_ast.specs.declared.decl.ProtoParams.{ProtoParams}
use Rattle.c_ast.specs.declared.program.Field.{Field}
use Rattle.c_ast.specs.declared.program.StructDef.{StructDef}
use Rattle.c_ast.specs.declared.program.Function.{Function as SourceFunction}
use Rattle.c_ast.specs.declared.program.Proto.{Proto}
use Rattle.c_typed.specs.declared.types.ObjectType.{ObjectType}
use Rattle.c_typed.specs.Types.{place_of, declared_type, pointers_to, parameter_stars, result_type}
use Rattle.c_typed.specs.Marks as marks
use Rattle.c_typed.specs.Marks.{Mark, tag, field, global, prototype, function, opens, closes, History, has_tag, globals_in, functions_in}
use Rattle.c_typed.specs.Whole.{Whole}
use Rattle.c_typed.specs.Parts.{Part, marked, separated, in_turn}
use Rattle.c_typed.specs.tools.Scopes.{Scopes, left, scopes_of}
use Rattle.c_typed.specs.Decls as decls
use Rattle.c_typed.specs.Decls.{field_item, fields, named, nameless, proto_parameter}
use Rattle.c_typed.specs.Programs as programs
use Rattle.c_typed.specs.Programs.{struct, global_item, global_decl, function_text, proto, proto_parameters}
use Rattle.c_typed.specs.Typed.{Typed}
use Rattle.c_typed.specs.IsWell.{Context}
use Rattle.c_typed.proofs.Quiet.{quiet_base}
use Rattle.c_typed.proofs.Balanced.{Balanced, variable, marked_append, unchanged, left_behind, tags_outside}
use Rattle.c_typed.proofs.BalancedStmts.{balanced_quiet, join, balanced_separated, all_balanced, balanced_parameters, balanced_function_body}
use Rattle.c_typed.proofs.WellParts.{AllScopes}
use Rattle.c_typed.proofs.WellMarks.{Tagged}
use Rattle.c_typed.proofs.WellFunction.{IsOuter, quiet_result}

-- Fields alone.
abbrev pub FieldsOnly : List Mark → Type 0
FieldsOnly [] = Unit {0}
FieldsOnly (field x t ∷ ms) = FieldsOnly ms
FieldsOnly (_ ∷ ms) = ⊥

fields_append : (ms ns : List Mark) → FieldsOnly ms → FieldsOnly ns → FieldsOnly (ms ++ ns)
fields_append [] ns is that = that
fields_append (field x t ∷ ms) ns is that = fields_append ms ns is that
fields_append (_ ∷ ms) ns is that = absurd is

fields_quiet : {ms : List Mark} → ms ≡ [] → FieldsOnly ms
fields_quiet is = subst FieldsOnly (sym is) tt

separated_fields : (w : Whole) (b : Base) (ds : List Declarator) → FieldsOnly (separated (map (field_item w b) ds)).marks
separated_fields w b [] = tt
separated_fields w b (d ∷ []) = tt
separated_fields w b (d ∷ e ∷ ds) = separated_fields w b (e ∷ ds)

pub line_fields : (w : Whole) (f : Field) → FieldsOnly (fields w f).marks
line_fields w f =
    fields_append ((Rattle.c_typed.specs.Tags.base w (decls.by_value f.items) f.base).marks ++ (separated (map (field_item w f.base) f.items)).marks) []
    (fields_append (Rattle.c_typed.specs.Tags.base w (decls.by_value f.items) f.base).marks (separated (map (field_item w f.base) f.items)).marks (fields_quiet (quiet_base w (decls.by_value f.items) f.base)) (separated_fields w f.base f.items)) tt

pub all_fields : (w : Whole) (fs : List Field) → FieldsOnly (in_turn (map (fields w) fs)).marks
all_fields w [] = tt
all_fields w (f ∷ fs) = fields_append (fields w f).marks (in_turn (map (fields w) fs)).marks (line_fields w f) (all_fields w fs)

scopes_fields : (h : History) (ms : List Mark) → FieldsOnly ms → scopes_of (marked ms h) ≡ scopes_of h
scopes_fields h [] is = refl
scopes_fields h (field x t ∷ ms) is = scopes_fields (field x t ∷ h) ms is
scopes_fields h (_ ∷ ms) is = absurd is

pub tags_fields : (x : ℕ) (h : History) (ms : List Mark) → FieldsOnly ms → has_tag x (marked ms h) ≡ has_tag x h
tags_fields x h [] is = refl
tags_fields x h (field y t ∷ ms) is = tags_fields x (field y t ∷ h) ms is
tags_fields x h (_ ∷ ms) is = absurd is

pub globals_fields : (h : History) (ms : List Mark) → FieldsOnly ms → globals_in (marked ms h) ≡ globals_in h
globals_fields h [] is = refl
globals_fields h (field y t ∷ ms) is = globals_fields (field y t ∷ h) ms is
globals_fields h (_ ∷ ms) is = absurd is

pub functions_fields : (h : History) (ms : List Mark) → FieldsOnly ms → functions_in (marked ms h) ≡ functions_in h
functions_fields h [] is = refl
functions_fields h (field y t ∷ ms) is = functions_fields (field y t ∷ h) ms is
functions_fields h (_ ∷ ms) is = absurd is

-- Prototypes' parameters.
balanced_head : (w : Whole) (p : ProtoParam) (t : ObjectType) (o : Option Ident) → Balanced (elim o as (λ o. Part (Unit {0})) [ None ↦ nameless w p t | Some x ↦ named w p t x ]).marks
balanced_head w p t None = join (balanced_quiet (quiet_base w (nat_eq (parameter_stars p.stars p.brackets) 0) p.base)) Balanced.none
balanced_head w p t (Some x) = join (join (balanced_quiet (quiet_base w (nat_eq (parameter_stars p.stars p.brackets) 0) p.base)) Balanced.none) (variable x t Balanced.none)

balanced_proto_parameter : (w : Whole) (p : ProtoParam) → Balanced (proto_parameter w p).marks
balanced_proto_parameter w p = join (balanced_head w p (pointers_to w.tags p.base (parameter_stars p.stars p.brackets)) p.name) Balanced.none

pub balanced_proto_parameters : (w : Whole) (p : ProtoParams) → Balanced (proto_parameters w p).marks
balanced_proto_parameters w ProtoParams.Empty = Balanced.none
balanced_proto_parameters w (ProtoParams.Void line) = Balanced.none
balanced_proto_parameters w (ProtoParams.List ps) = balanced_separated (all_balanced (proto_parameter w) (balanced_proto_parameter w) ps)

-- Globals alone.
abbrev pub GlobalsOnly : List Mark → Type 0
GlobalsOnly [] = Unit {0}
GlobalsOnly (global x t ∷ ms) = GlobalsOnly ms
GlobalsOnly (_ ∷ ms) = ⊥

abbrev pub objects_in : List Mark → List ObjectType
objects_in [] = []
objects_in (global x t ∷ ms) = t ∷ objects_in ms
objects_in (_ ∷ ms) = objects_in ms

pub decl_globals : (w : Whole) (d : Decl) → (global_decl w d).marks ≡ map (λ i. global i.declarator.name.name (declared_type w.tags d.base i.declarator)) d.items
decl_globals w d =
    ap (λ ms. ms ++ (separated (map (global_item w d.base) d.items)).marks ++ []) (quiet_base w (decls.by_value (map (λ i. i.declarator) d.items)) d.base)
    ∙ append-nil (separated (map (global_item w d.base) d.items)).marks ∙ separated_globals d.base d.items where
      separated_globals : (b : Base) (is : List DeclItem) → (separated (map (global_item w b) is)).marks ≡ map (λ i. global i.declarator.name.name (declared_type w.tags b i.declarator)) is
      separated_globals b [] = refl
      separated_globals b (i ∷ []) = refl
      separated_globals b (i ∷ j ∷ is) = ap (λ ms. global i.declarator.name.name (declared_type w.tags b i.declarator) ∷ ms) (separated_globals b (j ∷ is))

-- A function's marks.
pub function_marks : (w : Whole) (f : SourceFunction) (result : Option ObjectType)
    → (function_text w f result).marks ≡ function f.name.name result ∷ ((programs.parameters w f.params).marks ++ [] ++ (programs.function_body w f.body).marks ++ (closes ∷ []))
function_marks w f result =
    ap (λ ms. ms ++ (function f.name.name result ∷ []) ++ [] ++ (programs.parameters w f.params).marks ++ [] ++ (programs.function_body w f.body).marks ++ (closes ∷ [])) (quiet_result w f.result)

-- Behind each kind of item.
module _ (w : Whole) (t : Typed) where
  pub outer_struct : (d : StructDef) (h : History) → place_of d.tag.name w.tags < length w.tags → IsOuter w t h → IsOuter w t (marked (struct w d).marks h)
  outer_struct d h there is =
      let fs = (in_turn (map (fields w) d.fields)).marks ++ [] in
      let only = fields_append (in_turn (map (fields w) d.fields)).marks [] (all_fields w d.fields) tt in
      let behind = marked_append (opens marks.fields ∷ fs) (closes ∷ tag d.tag.name ∷ []) h in
      let eq : marked (struct w d).marks h ≡ tag d.tag.name ∷ closes ∷ marked fs (opens marks.fields ∷ h) =
      ap (λ ms. marked ms h) (append_assoc (opens marks.fields ∷ fs) (closes ∷ []) (tag d.tag.name ∷ [])) ∙ behind in
      record {
        scopes = λ c gs. subst (λ h. AllScopes c (scopes_of h)) (sym eq) (subst (λ ss. AllScopes c (left ss)) (sym (scopes_fields (opens marks.fields ∷ h) fs only)) (is.scopes c gs));
        tags = subst (Tagged w) (sym eq) (λ x e. tagged_now d.tag.name x (marked fs (opens marks.fields ∷ h)) there (λ e. is.tags x (sym (tags_fields x (opens marks.fields ∷ h) fs only) ∙ e)) e);
      } where
        tagged_now : (y x : ℕ) (h : History) → place_of y w.tags < length w.tags → (has_tag x h ≡ true → place_of x w.tags < length w.tags) → has_tag x (tag y ∷ closes ∷ h) ≡ true → place_of x w.tags < length w.tags
        tagged_now y x h there rest e = by (nat_eq x y) refl e where
          by : (b : Bool) → nat_eq x y ≡ b → b || has_tag x h ≡ true → place_of x w.tags < length w.tags
          by true at e = let same : x ≡ y = grind (arith, nat_tests, at) in subst (λ x. place_of x w.tags < length w.tags) (sym same) there
          by false at e = rest e

  -- behind a scope that a function or a prototype opens and closes
  closed_outer : (h g : History) (ms : List Mark) → Balanced ms → scopes_of g ≡ [] ∷ scopes_of h → ((x : ℕ) → has_tag x g ≡ has_tag x h) → IsOuter w t h → IsOuter w t (closes ∷ marked ms g)
  closed_outer h g ms balanced opened same is = record {
    scopes = λ c gs. subst (AllScopes c) (sym (left_behind g balanced ∙ ap left opened)) (is.scopes c gs);
    tags = λ x e. is.tags x (sym (unchanged (has_tag x) (tags_outside x) g balanced ∙ same x) ∙ e);
  }

  pub outer_function : (f : SourceFunction) (h : History) → IsOuter w t h → IsOuter w t (marked (function_text w f (result_type w.tags f.result)).marks h)
  outer_function f h is =
      let ms = (programs.parameters w f.params).marks ++ [] ++ (programs.function_body w f.body).marks in
      let g = function f.name.name (result_type w.tags f.result) ∷ h in
      subst (IsOuter w t) (sym (ap (λ ms. marked ms h) (function_marks w f (result_type w.tags f.result)) ∙ marked_append ms (closes ∷ []) g))
      (closed_outer h g ms (join (join (balanced_parameters w f.params) Balanced.none) (balanced_function_body w f.body)) refl (λ x. refl) is)

  pub outer_proto : (p : Proto) (h : History) → IsOuter w t h → IsOuter w t (marked (proto w p).marks h)
  outer_proto p h is =
      let ms = (proto_parameters w p.params).marks in
      let g = opens marks.block ∷ prototype p.name.name ∷ h in
      let eq : (proto w p).marks ≡ prototype p.name.name ∷ opens marks.block ∷ (ms ++ (closes ∷ [])) =
      ap (λ rs. rs ++ (prototype p.name.name ∷ []) ++ [] ++ (opens marks.block ∷ []) ++ ms ++ (closes ∷ []) ++ []) (quiet_result w p.result)
      ∙ append-nil (prototype p.name.name ∷ opens marks.block ∷ (ms ++ (closes ∷ []))) in
      subst (IsOuter w t) (sym (ap (λ ms. marked ms h) eq ∙ marked_append ms (closes ∷ []) g)) (closed_outer h g ms (balanced_proto_parameters w p.params) refl (λ x. refl) is)

  -- a list of globals
  pub outer_global : (x : ℕ) (o : ObjectType) (h : History) → slice_get (map (λ g. g.object) t.globals) (globals_in h) ≡ Some o → IsOuter w t h → IsOuter w t (global x o ∷ h)
  outer_global x o h there is = record {
    scopes = λ c gs. bound_scopes' c (scopes_of h) (ap (λ gs. slice_get gs (globals_in h)) gs ∙ there) (is.scopes c gs);
    tags = is.tags;
  } where
    bound_scopes' : (c : Context) (ss : Scopes) → slice_get c.globals (globals_in h) ≡ Some o → AllScopes c ss
        → AllScopes c (Rattle.c_typed.specs.tools.Scopes.bound (record { name = x; variable = marks.Variable.global (globals_in h) o }) ss)
    bound_scopes' c [] bound all = ((bound, tt), tt)
    bound_scopes' c (s ∷ ss) bound all = ((bound, all.0), all.1)
