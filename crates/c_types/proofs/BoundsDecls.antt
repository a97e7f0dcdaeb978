-- The faults of a declaration stand within it.
use Rattle.std.proofs.Common.{ℕ, ◌+◌, ◌<◌, ◌≤◌, Bool, true, false, List, [], ◌∷◌, ◌++◌, map, Option, Some, None, arith}
use Rattle.dfi_base.specs.declared.numbers.Line.{Line}
use Rattle.c_ast.specs.declared.ident.Ident.{Ident}
use Rattle.c_ast.specs.declared.decl.Base.{Base}
use Rattle.c_ast.specs.declared.decl.Brackets.{Brackets}
use Rattle.c_ast.specs.declared.decl.Declarator.{Declarator}
use Rattle.c_ast.specs.declared.decl.Decl.{Decl}
use Rattle.c_ast.specs.declared.decl.DeclItem.{DeclItem}
use Rattle.c_ast.specs.declared.decl.Param.{Param}
use Rattle.c_ast.specs.declared.decl.ProtoParam.{ProtoParam}
use Rattle.c_ast.specs.declared.expr.Expr.{Expr as SourceExpr}
use Rattle.c_ast.specs.declared.program.Field.{Field}
use Rattle.c_typed.specs.declared.types.ObjectType.{ObjectType}
use Rattle.std.specs.Prelude
use Rattle.c_typed.specs.declared.fault.BigWhat.{BigWhat}
use Rattle.c_typed.specs.Marks
use Rattle.c_typed.specs.Marks.{Mark}
use Rattle.c_typed.specs.Faults
use Rattle.c_typed.specs.Types
use Rattle.c_typed.specs.Whole.{Whole}
use Rattle.c_typed.specs.Faults.{Rule, Fault, unless}
use Rattle.c_typed.specs.Parts.{Place, Part, tokens, mark, joined, with_faults, separated, in_turn, ◌⊗◌, ◌<⊗◌, ◌⊗>◌}
use Rattle.c_typed.specs.Exprs.{expr}
use Rattle.c_typed.specs.Decls
use Rattle.c_typed.specs.Decls.{declarator_tokens, field_item, fields, declared, valued, local_item, local_decl, parameter_base, parameter, nameless, named, proto_parameter}
use Rattle.c_types.proofs.Bounds.{IsWithin, IsBounded, IsInside, inside, inside_tokens, inside_given, inside_joined, inside_map, bounded_first, bounded_second, bounded_obeys, from_append, before_append}
use Rattle.c_types.proofs.BoundsExprs.{bounded, bounded_base, bounded_value}

-- Parts in a row.
pub beside : {A B : Type 0} {p : Part A} {q : Part B} → IsInside p → IsInside q → IsInside (p ⊗ q)
beside {A} {B} {p} {q} is that = inside_joined (λ a b. (a, b)) p q is that

pub before : {A B : Type 0} {p : Part A} {q : Part B} → IsInside p → IsInside q → IsInside (p <⊗ q)
before {A} {B} {p} {q} is that = inside_joined (λ a b. a) p q is that

pub after : {A B : Type 0} {p : Part A} {q : Part B} → IsInside p → IsInside q → IsInside (p ⊗> q)
after {A} {B} {p} {q} is that = inside_joined (λ a b. b) p q is that

pub first : {A : Type 0} {p : Part A} {q : Part (List A)} → IsInside p → IsInside q → IsInside (joined (λ a rest. a ∷ rest) p q)
first {A} {p} {q} is that = inside_joined (λ a rest. a ∷ rest) p q is that

pub inside_mark : (m : Mark) → IsInside (mark m)
inside_mark m = record { within = λ here. record { start = tt; end = tt } }

-- every part of a list
pub data AllInside {A : Type 0} : List (Part A) → Type 0 where
  none : AllInside []
  each : {p : Part A} {ps : List (Part A)} → IsInside p → AllInside ps → AllInside (p ∷ ps)

pub all_inside : {A B : Type 0} (f : A → Part B) → ((a : A) → IsInside (f a)) → (xs : List A) → AllInside (map f xs)
all_inside f is [] = none
all_inside f is (x ∷ xs) = each (is x) (all_inside f is xs)

pub inside_in_turn : {A : Type 0} {ps : List (Part A)} → AllInside ps → IsInside (in_turn ps)
inside_in_turn none = inside_given []
inside_in_turn (each p ps) = first p (inside_in_turn ps)

pub inside_separated : {A : Type 0} {ps : List (Part A)} → AllInside ps → IsInside (separated ps)
inside_separated none = inside_given []
inside_separated (each p none) = first p (inside_given [])
inside_separated (each p (each q ps)) = first (before p (inside_tokens 1)) (inside_separated (each q ps))

-- Faults beside those of a part.
pub within_none : (from to : ℕ) → IsWithin from to []
within_none from to = record { start = tt; end = tt }

pub within_append : {from to : ℕ} {fs gs : List Fault} → IsWithin from to fs → IsWithin from to gs → IsWithin from to (fs ++ gs)
within_append {from} {to} {fs} {gs} is that = record { start = from_append from fs gs is.start that.start; end = before_append to fs gs is.end that.end }

pub within_unless : {from to : ℕ} (test : Bool) (at : ℕ) (rule : Rule) (line : Line) → from ≤ at → at < to → IsWithin from to (unless test at rule line)
within_unless {from} {to} true at rule line le less = within_none from to
within_unless false at rule line le less = record { start = (le, tt); end = (less, tt) }

pub inside_with : {A : Type 0} (faults : Place → List Fault) (p : Part A) → ((here : Place) → IsWithin here.at (here.at + p.tokens) (faults here)) → IsInside p → IsInside (with_faults faults p)
inside_with faults p is that = record { within = λ here. within_append (is here) (that.within here) }

-- Declarators.
inside_declarator : (d : Declarator) (m : Mark) → IsInside (tokens (declarator_tokens d) <⊗ mark m)
inside_declarator d m = before (inside_tokens (declarator_tokens d)) (inside_mark m)

length_within : (t : ObjectType) (d : Declarator) (here : Place) → IsWithin here.at (here.at + (declarator_tokens d + 0)) (Decls.length_faults t d here)
length_within t d here = within_unless _ here.at _ _ (omega arith) (omega arith)

-- a rule of the name, which stands behind the stars
pub name_rule_within : (d : Declarator) (here : Place) (test : Bool) (rule : Rule) → IsWithin here.at (here.at + (declarator_tokens d + 0)) (unless test (Decls.name_at d here) rule d.name.line)
name_rule_within d here test rule = within_unless test (here.at + d.stars) rule d.name.line (omega arith) (omega arith)

field_within : (w : Whole) (d : Declarator) (t : ObjectType) (here : Place) → IsWithin here.at (here.at + (declarator_tokens d + 0)) (Decls.field_faults w d t here)
field_within w d t here =
    within_append (within_append (length_within t d here) (name_rule_within d here _ _)) (name_rule_within d here _ _)

pub inside_field_item : (w : Whole) (b : Base) (d : Declarator) → IsInside (field_item w b d)
inside_field_item w b d = inside_with _ _ (field_within w d (Types.declared_type w.tags b d)) (inside_declarator d _)

pub inside_fields : (w : Whole) (f : Field) → IsInside (fields w f)
inside_fields w f =
    before (after (inside _ (bounded_base w (Decls.by_value f.items) f.base)) (inside_separated (all_inside (field_item w f.base) (inside_field_item w f.base) f.items)))
    (inside_tokens 1)

local_within : (w : Whole) (d : Declarator) (t : ObjectType) (here : Place) → IsWithin here.at (here.at + (declarator_tokens d + 0)) (Decls.local_faults w d t here)
local_within w d t here =
    within_append (within_append (within_append (length_within t d here) (name_rule_within d here _ _)) (name_rule_within d here _ _))
    (name_rule_within d here (Prelude.nat_le (Marks.frame_words w.sizes (Mark.local d.name t ∷ here.before)) Decls.frame_limit) (Faults.big BigWhat.Frame))

pub inside_declared : (w : Whole) (d : Declarator) (t : ObjectType) → IsInside (declared w d t)
inside_declared w d t = inside_with _ _ (local_within w d t) (inside_declarator d _)

pub bounded_declared : (w : Whole) (d : Declarator) (t : ObjectType) → IsBounded (declared w d t)
bounded_declared w d t = record { within = (inside_declared w d t).within; more = omega arith }

pub inside_valued : (w : Whole) (d : Declarator) (t : ObjectType) (v : Option SourceExpr) → IsInside (valued w d t v)
inside_valued w d t None = inside_map (λ _. []) (declared w d t) (inside_declared w d t)
inside_valued w d t (Some e) =
    inside _ (bounded_obeys _ d.line _ _
    (bounded_second (λ a b. b) _ _ (after (inside_declared w d t) (inside_tokens 1)) (bounded_value (expr w e) (bounded w e))))

pub inside_local_item : (w : Whole) (b : Base) (i : DeclItem) → IsInside (local_item w b i)
inside_local_item w b i = inside_valued w i.declarator _ i.value

pub inside_local_decl : (w : Whole) (d : Decl) → IsInside (local_decl w d)
inside_local_decl w d =
    inside_map _ _
    (before (after (inside _ (bounded_base w (Decls.by_value (map (λ i. i.declarator) d.items)) d.base))
    (inside_separated (all_inside (local_item w d.base) (inside_local_item w d.base) d.items))) (inside_tokens 1))

-- Parameters.
pub inside_parameter_base : (w : Whole) (b : Base) (stars : ℕ) (brackets : Brackets) → IsBounded (parameter_base w b stars brackets)
inside_parameter_base w b stars brackets =
    let p = bounded_first (λ a b. b) _ _ (bounded_base w _ b) (inside_tokens stars) in
    record { within = (inside_with _ _ (λ here. within_unless _ here.at _ _ (omega arith) (omega (arith, p.more))) (inside _ p)).within; more = p.more }

name_within : (x : Ident) (t : ObjectType) (here : Place) → IsWithin here.at (here.at + (1 + 0)) (Decls.parameter_faults x t here)
name_within x t here = within_append (within_unless _ here.at _ _ (omega arith) (omega arith)) (within_unless _ here.at _ _ (omega arith) (omega arith))

frame_within : (w : Whole) (x : Ident) (t : ObjectType) (here : Place) → IsWithin here.at (here.at + (1 + 0)) (Decls.frame_faults w x t here.before here.at)
frame_within w x t here = within_unless _ here.at _ _ (omega arith) (omega arith)

pub inside_parameter : (w : Whole) (p : Param) → IsInside (parameter w p)
inside_parameter w p =
    let t = Types.pointers_to w.tags p.base (Types.parameter_stars p.stars p.brackets) in
    before (after (inside _ (inside_parameter_base w p.base p.stars p.brackets))
    (inside_with (λ here. Decls.parameter_faults p.name t here ++ Decls.frame_faults w p.name t here.before here.at) (tokens 1 <⊗ mark (Mark.local p.name t))
    (λ here. within_append (name_within p.name t here) (frame_within w p.name t here)) (before (inside_tokens 1) (inside_mark _)))) (inside_tokens _)

inside_named : (w : Whole) (p : ProtoParam) (t : ObjectType) (x : Ident) → IsInside (named w p t x)
inside_named w p t x =
    after (inside _ (inside_parameter_base w p.base p.stars p.brackets))
    (inside_with (λ here. Decls.parameter_faults x t here) (tokens 1 <⊗ mark (Mark.local x t)) (λ here. name_within x t here) (before (inside_tokens 1) (inside_mark _)))

inside_nameless : (w : Whole) (p : ProtoParam) (t : ObjectType) → IsInside (nameless w p t)
inside_nameless w p t = inside _ (bounded_obeys _ _ _ _ (inside_parameter_base w p.base p.stars p.brackets))

inside_head : (w : Whole) (p : ProtoParam) (t : ObjectType) (o : Option Ident) → IsInside (elim o [ None ↦ nameless w p t | Some x ↦ named w p t x ])
inside_head w p t None = inside_nameless w p t
inside_head w p t (Some x) = inside_named w p t x

pub inside_proto_parameter : (w : Whole) (p : ProtoParam) → IsInside (proto_parameter w p)
inside_proto_parameter w p =
    before (inside_head w p (Types.pointers_to w.tags p.base (Types.parameter_stars p.stars p.brackets)) p.name) (inside_tokens (Decls.bracket_tokens p.brackets))
