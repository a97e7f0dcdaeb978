-- The faults of a declaration.
use Rattle.std.proofs.Common.{◌≡◌, ◌∙◌, sym, ap, ◌⊎◌, inl, inr, ℕ, ◌+◌, ◌<◌, ◌≤◌, Bool, List, [], ◌∷◌, ◌++◌, map, Option, Some, None, arith}
use Rattle.dfi_base.specs.declared.numbers.Line.{Line}
use Rattle.c_ast.specs.declared.ident.Ident.{Ident}
use Rattle.c_ast.specs.declared.decl.Base.{Base}
use Rattle.c_ast.specs.declared.decl.Brackets.{Brackets}
use Rattle.c_ast.specs.declared.decl.Declarator.{Declarator}
use Rattle.c_ast.specs.declared.decl.Decl.{Decl}
use Rattle.c_ast.specs.declared.decl.DeclItem.{DeclItem}
use Rattle.c_ast.specs.declared.decl.Param.{Param}
use Rattle.c_ast.specs.declared.decl.ProtoParam.{ProtoParam}
use Rattle.c_ast.specs.declared.expr.Expr.{Expr as SourceExpr}
use Rattle.c_ast.specs.declared.program.Field.{Field}
use Rattle.c_typed.specs.declared.types.ObjectType.{ObjectType}
use Rattle.std.specs.Prelude
use Rattle.std.specs.Prelude.{nat_eq}
use Rattle.c_typed.specs.declared.fault.BigWhat.{BigWhat}
use Rattle.c_typed.specs.Marks
use Rattle.c_typed.specs.Marks.{Mark}
use Rattle.c_typed.specs.Types
use Rattle.c_typed.specs.Whole.{Whole}
use Rattle.c_typed.specs.Faults.{Rule, Fault, order, unknown, twice, mismatch, big, unless}
use Rattle.c_typed.specs.Tags.{base, known_tag}
use Rattle.c_ast.specs.LineOf.{line_of_base}
use Rattle.c_typed.specs.Parts.{Place, tokens, mark, ◌<⊗◌, ◌⊗>◌}
use Rattle.c_typed.specs.Exprs.{expr, value}
use Rattle.c_typed.specs.Decls
use Rattle.c_typed.specs.Decls.{declarator_tokens, field_item, fields, declared, valued, local_item, local_decl, parameter_base, parameter, nameless, named, proto_parameter}
use Rattle.line_law.proofs.Lined.{IsIn, in_append, AreLined, in_unless, AllAt, unless_at, both_at, lined_at, IsLined}
use Rattle.line_law.proofs.Parts.{IsInside, IsBounded, inside, clean_tokens, inside_tokens, inside_map, inside_mark, inside_obeys, inside_with, inside_unless, IsBehind, behind_tokens, behind_first, Begins, begins_behind, begins_first, bounded_obeys, before, after, all_inside, inside_separated, bounded_first}
use Rattle.line_law.proofs.Exprs.{one_token, bounded, bounded_base, bounded_value}

-- Declarators.
inside_declarator : (d : Declarator) (m : Mark) → IsInside (tokens (declarator_tokens d) <⊗ mark m)
inside_declarator d m = before (inside_tokens (declarator_tokens d)) (inside_mark m)

-- Where it has no stars, its first token is its name.
abbrev pub BeginsWithName : Declarator → Type 0
BeginsWithName d = d.stars ≡ 0 → d.line ≡ d.name.line

-- What is told of it is told of its lengths, at its first token, or at its name.
abbrev pub IsOfLengths : Declarator → Place → Fault → Type 0
IsOfLengths d here f = (f.at ≡ here.at) × (f.line ≡ d.line) × (order f.rule ≡ 2)

abbrev pub IsOfName : Declarator → Place → Fault → Type 0
IsOfName d here f = (f.at ≡ here.at + d.stars) × (f.line ≡ d.name.line) × (order f.rule ≡ 2 → BeginsWithName d)

pub record AllOf (d : Declarator) (here : Place) (fs : List Fault) : Type 0 where
  pub each : (f : Fault) → IsIn f fs → IsOfLengths d here f ⊎ IsOfName d here f

pub all_both : {d : Declarator} {here : Place} {fs gs : List Fault} → AllOf d here fs → AllOf d here gs → AllOf d here (fs ++ gs)
all_both {d} {here} {fs} {gs} x y = record { each = λ f h. by f (in_append f fs gs h) } where
  by : (f : Fault) → IsIn f fs ⊎ IsIn f gs → IsOfLengths d here f ⊎ IsOfName d here f
  by f (inl k) = x.each f k
  by f (inr k) = y.each f k

pub of_lengths : (d : Declarator) (here : Place) (test : Bool) → AllOf d here (unless test here.at mismatch d.line)
of_lengths d here test = record {
  each = λ f h.
      let e = in_unless test here.at mismatch d.line f h in
      inl (ap (λ (x : Fault). x.at) e, ap (λ (x : Fault). x.line) e, ap (λ (x : Fault). order x.rule) e);
}

pub of_name : (d : Declarator) (here : Place) (test : Bool) (rule : Rule) → (order rule ≡ 2 → BeginsWithName d) → AllOf d here (unless test (Decls.name_at d here) rule d.name.line)
of_name d here test rule begins = record {
  each = λ f h.
      let e = in_unless test (Decls.name_at d here) rule d.name.line f h in
      inr (ap (λ (x : Fault). x.at) e, ap (λ (x : Fault). x.line) e, λ two. begins (sym (ap (λ (x : Fault). order x.rule) e) ∙ two));
}

module _ (d : Declarator) (here : Place) where
  low_by : (f : Fault) → IsOfLengths d here f ⊎ IsOfName d here f → here.at ≤ f.at
  low_by f (inl x) = let e = x.0 in omega (arith, e)
  low_by f (inr x) = let e = x.0 in omega (arith, e)

  high_by : (f : Fault) → IsOfLengths d here f ⊎ IsOfName d here f → f.at < here.at + (declarator_tokens d + 0)
  high_by f (inl x) = let e = x.0 in omega (arith, e)
  high_by f (inr x) = let e = x.0 in omega (arith, e)

  meets : (f g : Fault) → IsOfLengths d here f → IsOfName d here g → f.at ≡ g.at → order f.rule ≡ order g.rule → f.line ≡ g.line
  meets f g x y a r =
      let e = x.0 in
      let n = y.0 in
      x.1 ∙ y.2 (sym r ∙ x.2) (omega (arith, a, e, n)) ∙ sym y.1

  lined_by : (f g : Fault) → IsOfLengths d here f ⊎ IsOfName d here f → IsOfLengths d here g ⊎ IsOfName d here g → AreLined f g
  lined_by f g (inl x) (inl y) a r = x.1 ∙ sym y.1
  lined_by f g (inl x) (inr y) a r = meets f g x y a (ap order r)
  lined_by f g (inr x) (inl y) a r = sym (meets g f y x (sym a) (ap order (sym r)))
  lined_by f g (inr x) (inr y) a r = x.1 ∙ sym y.1

pub lined_declarator : {d : Declarator} {here : Place} {fs : List Fault} → AllOf d here fs → IsLined here.at (here.at + (declarator_tokens d + 0)) fs
lined_declarator {d} {here} {fs} all = record {
  start = λ f h. low_by d here f (all.each f h);
  end = λ f h. high_by d here f (all.each f h);
  lined = λ f g h k. lined_by d here f g (all.each f h) (all.each g k);
}

-- of the names of locals and fields nothing is told that is told of lengths too
other_rule : (d : Declarator) (n : ℕ) → (n ≡ 2 → ⊥) → n ≡ 2 → BeginsWithName d
other_rule d n other e = absurd (other e)

all_of_field : (w : Whole) (d : Declarator) (t : ObjectType) (here : Place) → AllOf d here (Decls.field_faults w d t here)
all_of_field w d t here =
    all_both (all_both (of_lengths d here _) (of_name d here _ twice (other_rule d _ (λ e. omega (arith, e)))))
    (of_name d here _ (big BigWhat.Shape) (other_rule d _ (λ e. omega (arith, e))))

pub inside_field_item : (w : Whole) (b : Base) (d : Declarator) → IsInside (field_item w b d)
inside_field_item w b d =
    inside_with _ _ (λ here. lined_declarator (all_of_field w d (Types.declared_type w.tags b d) here)) (λ here f g h k. absurd k) (inside_declarator d _)

pub inside_fields : (w : Whole) (f : Field) → IsInside (fields w f)
inside_fields w f =
    before (after (inside _ (bounded_base w (Decls.by_value f.items) f.base)) (inside_separated (all_inside (field_item w f.base) (inside_field_item w f.base) f.items)))
    (inside_tokens 1)

all_of_local : (w : Whole) (d : Declarator) (t : ObjectType) (here : Place) → AllOf d here (Decls.local_faults w d t here)
all_of_local w d t here =
    all_both (all_both (all_both (of_lengths d here _) (of_name d here _ twice (other_rule d _ (λ e. omega (arith, e)))))
    (of_name d here _ (big BigWhat.Shape) (other_rule d _ (λ e. omega (arith, e)))))
    (of_name d here (Prelude.nat_le (Marks.frame_words w.sizes (Mark.local d.name t ∷ here.before)) Decls.frame_limit) (big BigWhat.Frame) (other_rule d _ (λ e. omega (arith, e))))

pub inside_declared : (w : Whole) (d : Declarator) (t : ObjectType) → IsInside (declared w d t)
inside_declared w d t = inside_with _ _ (λ here. lined_declarator (all_of_local w d t here)) (λ here f g h k. absurd k) (inside_declarator d _)

-- a mismatch at its first token is told on the line of that
pub starts_at : (d : Declarator) (here : Place) (f : Fault) → IsOfLengths d here f ⊎ IsOfName d here f → f.at ≡ here.at → f.rule ≡ mismatch → f.line ≡ d.line
starts_at d here f (inl x) a r = x.1
starts_at d here f (inr x) a r = let e = x.0 in x.1 ∙ sym (x.2 (ap order r) (omega (arith, a, e)))

begins_declared : (w : Whole) (d : Declarator) (t : ObjectType) → Begins mismatch d.line (declared w d t)
begins_declared w d t here f h a r = by (in_append f (Decls.local_faults w d t here) [] h) where
  by : IsIn f (Decls.local_faults w d t here) ⊎ IsIn f [] → f.line ≡ d.line
  by (inl k) = starts_at d here f ((all_of_local w d t here).each f k) a r
  by (inr k) = absurd k

pub inside_valued : (w : Whole) (d : Declarator) (t : ObjectType) (v : Option SourceExpr) → IsInside (valued w d t v)
inside_valued w d t None = inside_map (λ _. []) (declared w d t) (inside_declared w d t)
inside_valued w d t (Some e) =
    inside_obeys mismatch d.line _ (declared w d t ⊗> tokens 1 ⊗> value (expr w e)) (omega arith)
    (begins_first (λ a b. b) mismatch d.line (declared w d t ⊗> tokens 1) (value (expr w e)) (omega arith)
    (begins_first (λ a b. b) mismatch d.line (declared w d t) (tokens 1) (omega arith) (begins_declared w d t) (inside_tokens 1))
    (inside _ (bounded_value (expr w e) (bounded w e))))
    (after (after (inside_declared w d t) (inside_tokens 1)) (inside _ (bounded_value (expr w e) (bounded w e))))

pub inside_local_item : (w : Whole) (b : Base) (i : DeclItem) → IsInside (local_item w b i)
inside_local_item w b i = inside_valued w i.declarator _ i.value

pub inside_local_decl : (w : Whole) (d : Decl) → IsInside (local_decl w d)
inside_local_decl w d =
    inside_map _ _
    (before (after (inside _ (bounded_base w (Decls.by_value (map (λ i. i.declarator) d.items)) d.base))
    (inside_separated (all_inside (local_item w d.base) (inside_local_item w d.base) d.items))) (inside_tokens 1))

-- Parameters.
behind_base : (w : Whole) (by_value : Bool) (b : Base) → IsBehind 1 (base w by_value b)
behind_base w by_value (Base.Int line) = behind_tokens 1 1
behind_base w by_value (Base.Struct line tag) =
    behind_first (λ a b. b) 1 (tokens 1) _ (omega arith) (behind_tokens 1 1) (inside _ (bounded_obeys unknown tag.line (known_tag w by_value tag) (tokens 1) one_token))

base_stars : (w : Whole) (by_value : Bool) (b : Base) (stars : ℕ) → IsBounded (base w by_value b ⊗> tokens stars)
base_stars w by_value b stars = bounded_first (λ a b. b) _ _ (bounded_base w by_value b) (clean_tokens stars)

begins_base : (w : Whole) (by_value : Bool) (b : Base) (stars : ℕ) (rule : Rule) (line : Line) → Begins rule line (base w by_value b ⊗> tokens stars)
begins_base w by_value b stars rule line =
    begins_first (λ a b. b) rule line (base w by_value b) (tokens stars) (bounded_base w by_value b).more (begins_behind rule line (base w by_value b) (behind_base w by_value b)) (inside_tokens stars)

pub inside_parameter_base : (w : Whole) (b : Base) (stars : ℕ) (brackets : Brackets) → IsInside (parameter_base w b stars brackets)
inside_parameter_base w b stars brackets =
    let by_value = nat_eq (Types.parameter_stars stars brackets) 0 in
    inside_unless (λ here. Decls.bracket_items brackets) mismatch (line_of_base b) (base w by_value b ⊗> tokens stars) (base_stars w by_value b stars).more
    (begins_base w by_value b stars mismatch (line_of_base b)) (inside _ (base_stars w by_value b stars))

begins_parameter_base : (w : Whole) (b : Base) (stars : ℕ) (brackets : Brackets) → Begins mismatch (line_of_base b) (parameter_base w b stars brackets)
begins_parameter_base w b stars brackets here f h a r = by (in_append f (unless (Decls.bracket_items brackets) here.at mismatch (line_of_base b)) _ h) where
  by : IsIn f (unless (Decls.bracket_items brackets) here.at mismatch (line_of_base b))
      ⊎ IsIn f ((base w (nat_eq (Types.parameter_stars stars brackets) 0) b ⊗> tokens stars).judge here).faults → f.line ≡ line_of_base b
  by (inl k) = ((unless_at (Decls.bracket_items brackets) here.at mismatch (line_of_base b)).each f k).1
  by (inr k) = begins_base w (nat_eq (Types.parameter_stars stars brackets) 0) b stars mismatch (line_of_base b) here f k a r

name_at : (x : Ident) (t : ObjectType) (here : Place) → AllAt here.at x.line (Decls.parameter_faults x t here)
name_at x t here = both_at (unless_at _ here.at twice x.line) (unless_at _ here.at mismatch x.line)

pub inside_parameter : (w : Whole) (p : Param) → IsInside (parameter w p)
inside_parameter w p =
    let t = Types.pointers_to w.tags p.base (Types.parameter_stars p.stars p.brackets) in
    before (after (inside_parameter_base w p.base p.stars p.brackets)
    (inside_with (λ here. Decls.parameter_faults p.name t here ++ Decls.frame_faults w p.name t here.before here.at) (tokens 1 <⊗ mark (Mark.local p.name t))
    (λ here. lined_at (omega arith) (omega arith) (both_at (name_at p.name t here) (unless_at _ here.at (big BigWhat.Frame) p.name.line)))
    (λ here f g h k. absurd k) (before (inside_tokens 1) (inside_mark _)))) (inside_tokens _)

inside_named : (w : Whole) (p : ProtoParam) (t : ObjectType) (x : Ident) → IsInside (named w p t x)
inside_named w p t x =
    after (inside_parameter_base w p.base p.stars p.brackets)
    (inside_with (λ here. Decls.parameter_faults x t here) (tokens 1 <⊗ mark (Mark.local x t)) (λ here. lined_at (omega arith) (omega arith) (name_at x t here))
    (λ here f g h k. absurd k) (before (inside_tokens 1) (inside_mark _)))

inside_nameless : (w : Whole) (p : ProtoParam) (t : ObjectType) → IsInside (nameless w p t)
inside_nameless w p t =
    inside_obeys mismatch (line_of_base p.base) _ (parameter_base w p.base p.stars p.brackets)
    (base_stars w (nat_eq (Types.parameter_stars p.stars p.brackets) 0) p.base p.stars).more
    (begins_parameter_base w p.base p.stars p.brackets) (inside_parameter_base w p.base p.stars p.brackets)

inside_head : (w : Whole) (p : ProtoParam) (t : ObjectType) (o : Option Ident) → IsInside (elim o [ None ↦ nameless w p t | Some x ↦ named w p t x ])
inside_head w p t None = inside_nameless w p t
inside_head w p t (Some x) = inside_named w p t x

pub inside_proto_parameter : (w : Whole) (p : ProtoParam) → IsInside (proto_parameter w p)
inside_proto_parameter w p =
    before (inside_head w p (Types.pointers_to w.tags p.base (Types.parameter_stars p.stars p.brackets)) p.name) (inside_tokens (Decls.bracket_tokens p.brackets))
