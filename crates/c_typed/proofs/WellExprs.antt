-- The value of an expression is well-formed, by its form.
use Rattle.std.proofs.Common.{◌≡◌, ℕ, ◌<◌, Bool, true, false, ◌&&◌, ◌||◌, List, [], ◌∷◌, length, Option, Some, None, refl, ap, sym, ◌∙◌, subst, arith}
use Rattle.std.specs.Prelude.{nat_eq}
use Rattle.std.proofs.lemmas.Bool.Decides.{nat_tests}
use Rattle.dfi_base.specs.declared.numbers.Line.{Line}
use Rattle.c_ast.specs.declared.ident.Ident.{Ident}
use Rattle.c_ast.specs.declared.decl.Base.{Base}
use Rattle.c_ast.specs.declared.decl.TypeName.{TypeName}
use Rattle.c_ast.specs.declared.expr.UnaryOp.{UnaryOp}
use Rattle.c_ast.specs.declared.expr.BinaryOp.{BinaryOp}
use Rattle.c_typed.specs.declared.types.ObjectType.{ObjectType}
use Rattle.c_typed.specs.declared.program.Struct.{Struct}
use Rattle.c_typed.specs.declared.types.ExprType.{ExprType}
use Rattle.c_typed.specs.declared.expr.PrefixOp.{PrefixOp}
use Rattle.c_typed.specs.declared.expr.Expr.{Expr}
use Rattle.c_typed.specs.declared.expr.Form.TheOpen.{Form-F}
use Rattle.c_typed.specs.Types.{place_of, base_type, named_type, is_truth, is_unknown}
use Rattle.c_typed.specs.Marks.{History}
use Rattle.c_typed.specs.Whole.{Whole}
use Rattle.c_typed.specs.Faults.{unknown, mismatch, not_lvalue}
use Rattle.c_typed.specs.Parts.{Part, tokens, obeys, ◌<⊗◌, ◌⊗>◌}
use Rattle.c_typed.specs.Tags.{base, type_name, is_tag, known_tag}
use Rattle.c_typed.specs.Exprs
use Rattle.c_typed.specs.Exprs.{made, Size, Reading, value, place, operands, value_by_type, place_by_type, of_ints, of_sum, of_difference, of_equality, binary_type, binary, int_prefix, plus, pointed_at, address_by, address, unary, unless_untyped, item_by, item_at, struct_by, struct_of, struct_at, struct_behind, with_struct}
use Rattle.c_typed.specs.IsWell.{IsBase, IsObject, IsTyping, Context, IsExpr, IsPrefix}
use Rattle.c_typed.proofs.WellParts.{none_some, some_is, Stands, Pure, pure_tokens, pure_joined, pure_map, pure_obeys, pure_weaker}
use Rattle.c_typed.proofs.WellTypes.{IsLinked, struct_is, item_object, typing_of, no_unknown, made_known, one, two, place_object, pointer_object, value_known, IsUsedAs, IsUsed, used, is_known}

-- What is wanted of a part that may be there.
abbrev pub IfPure : (w : Whole) (c : Context) {A : Type 0} → Option (Part A) → (A → Type 0) → Type 0
IfPure w c None Q = Unit {0}
IfPure w c (Some p) Q = Pure w c p Q

abbrev pub IsUsedThere : Context → Option Expr → Type 0
IsUsedThere c None = Unit {0}
IsUsedThere c (Some e) = IsUsed c e

-- the type of a type name
abbrev pub IsNamed : List Struct → ObjectType → Type 0
IsNamed structs t = IsObject structs t × (t.lengths ≡ [])

pub record IsSize (c : Context) (s : Size) : Type 0 where
  pub item : IsNamed c.structs s.item
  pub count : IsUsedThere c s.count

pub record IsSound (w : Whole) (c : Context) (r : Reading) : Type 0 where
  pub plain : Pure w c r.plain (IsUsed c)
  pub sizeof : IfPure w c r.sizeof (IsNamed c.structs)
  pub size : IfPure w c r.size (IsSize c)

module _ (w : Whole) (c : Context) (linked : IsLinked w c) where
  pub all_used : (p : Part Expr) → Pure w c p (IsExpr c) → Pure w c p (IsUsed c)
  all_used p is = pure_weaker w c p is (λ e is. used c e is)

  pub plainly : (line : Line) (p : Part Expr) → Pure w c p (IsExpr c) → IsSound w c (Exprs.reading line p)
  plainly line p is = record { plain = all_used p is; sizeof = tt; size = tt }

  -- Values and places.
  pub sound_value : (r : Reading) → IsSound w c r → Pure w c (value r) (IsUsed c)
  sound_value r is = pure_obeys w c mismatch r.line _ r.plain is.plain (λ h e v st e_is has. value_known w c linked e e.typing v e_is refl has)

  place_known : (e : Expr) (s : ExprType) (v : Expr) → IsUsedAs c s e → place_by_type e s ≡ Some v → IsExpr c v
  place_known e (ExprType.Place t) v is has = subst (IsExpr c) (some_is has) is
  place_known e ExprType.Int v is has = absurd (none_some has)
  place_known e ExprType.Null v is has = absurd (none_some has)
  place_known e (ExprType.Pointer t) v is has = absurd (none_some has)
  place_known e ExprType.Void v is has = absurd (none_some has)
  place_known e ExprType.Unknown v is has = subst (IsExpr c) (some_is has) is

  pub sound_place : (r : Reading) → IsSound w c r → Pure w c (place r) (IsExpr c)
  sound_place r is = pure_obeys w c not_lvalue r.line _ r.plain is.plain (λ h e v st e_is has. place_known e e.typing v e_is has)

  pub sound_operands : (l r : Reading) → IsSound w c l → IsSound w c r → Pure w c (operands l r) (λ p. IsUsed c p.0 × IsUsed c p.1)
  sound_operands l r is that =
      pure_joined w c (λ a b. (a, b)) (value l <⊗ tokens 1) (value r) (pure_joined w c (λ a b. a) (value l) (tokens 1) (sound_value l is) (pure_tokens w c 1) (λ a b x y. x)) (sound_value r that)
      (λ a b x y. (x, y))

  -- Operators.
  ints_typing : (s t v : ExprType) → of_ints s t ≡ Some v → IsTyping c.structs v
  ints_typing ExprType.Int ExprType.Int v e = subst (IsTyping c.structs) (some_is e) tt
  ints_typing _ _ v e = absurd (none_some e)

  int_when : (b : Bool) (v : ExprType) → elim b as (λ b. Option ExprType) [ true ↦ Some ExprType.Int | false ↦ None ] ≡ Some v → IsTyping c.structs v
  int_when true v e = subst (IsTyping c.structs) (some_is e) tt
  int_when false v e = absurd (none_some e)

  sum_typing : (s t v : ExprType) → IsTyping c.structs s → IsTyping c.structs t → of_sum s t ≡ Some v → IsTyping c.structs v
  sum_typing ExprType.Int ExprType.Int v is that e = subst (IsTyping c.structs) (some_is e) tt
  sum_typing (ExprType.Pointer t) ExprType.Int v is that e = subst (IsTyping c.structs) (some_is e) is
  sum_typing ExprType.Int (ExprType.Pointer t) v is that e = subst (IsTyping c.structs) (some_is e) that
  sum_typing _ _ v is that e = absurd (none_some e)

  difference_typing : (s t v : ExprType) → IsTyping c.structs s → of_difference s t ≡ Some v → IsTyping c.structs v
  difference_typing ExprType.Int ExprType.Int v is e = subst (IsTyping c.structs) (some_is e) tt
  difference_typing (ExprType.Pointer t) ExprType.Int v is e = subst (IsTyping c.structs) (some_is e) is
  difference_typing _ _ v is e = absurd (none_some e)

  binary_typing : (op : BinaryOp) (s t v : ExprType) → IsTyping c.structs s → IsTyping c.structs t → binary_type op s t ≡ Some v → IsTyping c.structs v
  binary_typing BinaryOp.Or s t v is that e = int_when (is_truth s && is_truth t) v e
  binary_typing BinaryOp.And s t v is that e = int_when (is_truth s && is_truth t) v e
  binary_typing BinaryOp.Equal s t v is that e = int_when (Exprs.are_equal_types s t) v e
  binary_typing BinaryOp.NotEqual s t v is that e = int_when (Exprs.are_equal_types s t) v e
  binary_typing BinaryOp.Add s t v is that e = sum_typing s t v is that e
  binary_typing BinaryOp.Sub s t v is that e = difference_typing s t v is e
  binary_typing _ s t v is that e = ints_typing s t v e

  binary_by : (op : BinaryOp) (e f : Expr) (o : Option ExprType) (v : Expr) → ((t : ExprType) → o ≡ Some t → IsExpr c e × IsExpr c f) → binary_type op e.typing f.typing ≡ o
      → elim o as (λ o. Option Expr) [ None ↦ None | Some t ↦ Some (made t (Form-F.Binary e op f)) ] ≡ Some v → IsExpr c v
  binary_by op e f None v are has e_is = absurd (none_some e_is)
  binary_by op e f (Some t) v are has e_is =
      let is = (are t refl).0 in
      let that = (are t refl).1 in
      subst (IsExpr c) (some_is e_is)
      (made_known w c linked t (Form-F.Binary e op f) (binary_typing op e.typing f.typing t (typing_of w c linked e is) (typing_of w c linked f that) has) has (two w c linked e f is that))

  -- An operand of an operator has a value.
  pub false_is : false ≡ true → ⊥
  false_is e = subst (λ b. elim b as (λ b. Type 0) [ true ↦ ⊥ | false ↦ Unit {0} ]) e tt

  no_truths : (a b : Bool) (u : ExprType) → a && b ≡ false → elim (a && b) as (λ b. Option ExprType) [ true ↦ Some ExprType.Int | false ↦ None ] ≡ Some u → ⊥
  no_truths a b u at e = none_some (sym (ap (λ b. elim b as (λ b. Option ExprType) [ true ↦ Some ExprType.Int | false ↦ None ]) at) ∙ e)

  and_false : (a : Bool) → a && false ≡ false
  and_false true = refl
  and_false false = refl

  no_equal_left : (t u : ExprType) → is_unknown t ≡ false → of_equality ExprType.Void t ≡ Some u → ⊥
  no_equal_left ExprType.Void u at e = none_some e
  no_equal_left (ExprType.Place t) u at e = none_some e
  no_equal_left ExprType.Int u at e = none_some e
  no_equal_left ExprType.Null u at e = none_some e
  no_equal_left (ExprType.Pointer t) u at e = none_some e
  no_equal_left ExprType.Unknown u at e = false_is (sym at)

  no_equal_right : (s u : ExprType) → is_unknown s ≡ false → of_equality s ExprType.Void ≡ Some u → ⊥
  no_equal_right ExprType.Void u at e = none_some e
  no_equal_right (ExprType.Place t) u at e = none_some e
  no_equal_right ExprType.Int u at e = none_some e
  no_equal_right ExprType.Null u at e = none_some e
  no_equal_right (ExprType.Pointer t) u at e = none_some e
  no_equal_right ExprType.Unknown u at e = false_is (sym at)

  no_ints : (s u : ExprType) → of_ints s ExprType.Void ≡ Some u → ⊥
  no_ints ExprType.Int u e = none_some e
  no_ints _ u e = none_some e

  no_sum : (s u : ExprType) → of_sum s ExprType.Void ≡ Some u → ⊥
  no_sum ExprType.Int u e = none_some e
  no_sum (ExprType.Pointer t) u e = none_some e
  no_sum _ u e = none_some e

  no_difference : (s u : ExprType) → of_difference s ExprType.Void ≡ Some u → ⊥
  no_difference ExprType.Int u e = none_some e
  no_difference (ExprType.Pointer t) u e = none_some e
  no_difference _ u e = none_some e

  no_left : (op : BinaryOp) (t u : ExprType) → is_unknown t ≡ false → binary_type op ExprType.Void t ≡ Some u → ⊥
  no_left BinaryOp.Or t u at e = none_some e
  no_left BinaryOp.And t u at e = none_some e
  no_left BinaryOp.Equal t u at e = no_equal_left t u at e
  no_left BinaryOp.NotEqual t u at e = no_equal_left t u at e
  no_left BinaryOp.Add t u at e = none_some e
  no_left BinaryOp.Sub t u at e = none_some e
  no_left _ t u at e = none_some e

  no_right : (op : BinaryOp) (s u : ExprType) → is_unknown s ≡ false → binary_type op s ExprType.Void ≡ Some u → ⊥
  no_right BinaryOp.Or s u at e = no_truths (is_truth s) false u (and_false (is_truth s)) e
  no_right BinaryOp.And s u at e = no_truths (is_truth s) false u (and_false (is_truth s)) e
  no_right BinaryOp.Equal s u at e = no_equal_right s u at e
  no_right BinaryOp.NotEqual s u at e = no_equal_right s u at e
  no_right BinaryOp.Add s u at e = no_sum s u e
  no_right BinaryOp.Sub s u at e = no_difference s u e
  no_right _ s u at e = no_ints s u e

  left_value : (op : BinaryOp) (e : Expr) (s t u : ExprType) → IsUsedAs c s e → is_unknown t ≡ false → binary_type op s t ≡ Some u → IsExpr c e
  left_value op e ExprType.Void t u is at has = absurd (no_left op t u at has)
  left_value op e (ExprType.Place o) t u is at has = is
  left_value op e ExprType.Int t u is at has = is
  left_value op e ExprType.Null t u is at has = is
  left_value op e (ExprType.Pointer o) t u is at has = is
  left_value op e ExprType.Unknown t u is at has = is

  right_value : (op : BinaryOp) (f : Expr) (s t u : ExprType) → IsUsedAs c t f → is_unknown s ≡ false → binary_type op s t ≡ Some u → IsExpr c f
  right_value op f s ExprType.Void u is at has = absurd (no_right op s u at has)
  right_value op f s (ExprType.Place o) u is at has = is
  right_value op f s ExprType.Int u is at has = is
  right_value op f s ExprType.Null u is at has = is
  right_value op f s (ExprType.Pointer o) u is at has = is
  right_value op f s ExprType.Unknown u is at has = is

  typed_rule : (b : Bool) (layer : Exprs.Layer) (o : Option Expr) (v : Expr) → b ≡ false → unless_untyped b layer o ≡ Some v → o ≡ Some v
  typed_rule false layer o v at has = has
  typed_rule true layer o v at has = absurd (subst (λ b. elim b as (λ b. Type 0) [ true ↦ Unit {0} | false ↦ ⊥ ]) at tt)

  neither : (a b : Bool) → a ≡ false → b ≡ false → a || b ≡ false
  neither a b e f = ap (λ a. a || b) e ∙ f

  pub binary_known : (op : BinaryOp) (e f v : Expr) → IsUsed c e → IsUsed c f → binary op e f ≡ Some v → IsExpr c v
  binary_known op e f v is that has =
      binary_by op e f (binary_type op e.typing f.typing) v
      (λ t at. (left_value op e e.typing f.typing t is (is_known w c linked f that) at, right_value op f e.typing f.typing t that (is_known w c linked e is) at)) refl
      (typed_rule (is_unknown e.typing || is_unknown f.typing) (Form-F.Binary e op f) _ v
      (neither (is_unknown e.typing) (is_unknown f.typing) (is_known w c linked e is) (is_known w c linked f that)) has)

  prefix_known : (op : PrefixOp) (e : Expr) (s : ExprType) (v : Expr) → (e.typing ≡ ExprType.Int → IsPrefix op e.typing) → IsUsedAs c s e → e.typing ≡ s → int_prefix op e s ≡ Some v → IsExpr c v
  prefix_known op e ExprType.Int v by is at has =
      subst (IsExpr c) (some_is has) (made_known w c linked ExprType.Int (Form-F.Prefix op e) tt (by at, refl) (one w c linked e is))
  prefix_known op e (ExprType.Place t) v by is at has = absurd (none_some has)
  prefix_known op e ExprType.Null v by is at has = absurd (none_some has)
  prefix_known op e (ExprType.Pointer t) v by is at has = absurd (none_some has)
  prefix_known op e ExprType.Void v by is at has = absurd (none_some has)
  prefix_known op e ExprType.Unknown v by is at has = absurd (no_unknown w c linked e is at)

  plus_known : (e : Expr) (s : ExprType) (v : Expr) → IsUsedAs c s e → plus e s ≡ Some v → IsExpr c v
  plus_known e ExprType.Int v is has = subst (IsExpr c) (some_is has) is
  plus_known e (ExprType.Place t) v is has = absurd (none_some has)
  plus_known e ExprType.Null v is has = absurd (none_some has)
  plus_known e (ExprType.Pointer t) v is has = absurd (none_some has)
  plus_known e ExprType.Void v is has = absurd (none_some has)
  plus_known e ExprType.Unknown v is has = subst (IsExpr c) (some_is has) is

  -- and so has what is tested
  pub truth_value : (e : Expr) (s : ExprType) → IsUsedAs c s e → is_truth s ≡ true → IsExpr c e
  truth_value e ExprType.Void is at = absurd (false_is at)
  truth_value e (ExprType.Place t) is at = is
  truth_value e ExprType.Int is at = is
  truth_value e ExprType.Null is at = is
  truth_value e (ExprType.Pointer t) is at = is
  truth_value e ExprType.Unknown is at = is

  negated : (e v : Expr) (b : Bool) → IsUsed c e → is_truth e.typing ≡ b → elim b as (λ b. Option Expr) [ true ↦ Some (made ExprType.Int (Form-F.Prefix PrefixOp.Not e)) | false ↦ None ] ≡ Some v → IsExpr c v
  negated e v true is at has = subst (IsExpr c) (some_is has) (made_known w c linked ExprType.Int (Form-F.Prefix PrefixOp.Not e) tt (at, refl) (one w c linked e (truth_value e e.typing is at)))
  negated e v false is at has = absurd (none_some has)

  pointed_known : (e : Expr) (s : ExprType) (v : Expr) → IsUsedAs c s e → e.typing ≡ s → pointed_at e s ≡ Some v → IsExpr c v
  pointed_known e (ExprType.Pointer t) v is at has =
      subst (IsExpr c) (some_is has) (made_known w c linked (ExprType.Place t) (Form-F.Deref e) (pointer_object w c linked e t is at) (t, at, refl) (one w c linked e is))
  pointed_known e ExprType.Int v is at has = absurd (none_some has)
  pointed_known e (ExprType.Place t) v is at has = absurd (none_some has)
  pointed_known e ExprType.Null v is at has = absurd (none_some has)
  pointed_known e ExprType.Void v is at has = absurd (none_some has)
  pointed_known e ExprType.Unknown v is at has = absurd (no_unknown w c linked e is at)

  address_of : (e : Expr) (t : ObjectType) (ls : List ℕ) (v : Expr) → IsExpr c e → e.typing ≡ ExprType.Place t → t.lengths ≡ ls → address_by e t ls ≡ Some v → IsExpr c v
  address_of e t [] v is at none_left has =
      subst (IsExpr c) (some_is has) (made_known w c linked (ExprType.Pointer t) (Form-F.Address e) (place_object w c linked e t is at) (t, at, none_left, refl) (one w c linked e is))
  address_of e t (n ∷ ns) v is at some_left has = absurd (none_some has)

  address_known : (e : Expr) (s : ExprType) (v : Expr) → IsExpr c e → e.typing ≡ s → address e s ≡ Some v → IsExpr c v
  address_known e (ExprType.Place t) v is at has = address_of e t t.lengths v is at refl has
  address_known e ExprType.Int v is at has = absurd (none_some has)
  address_known e ExprType.Null v is at has = absurd (none_some has)
  address_known e (ExprType.Pointer t) v is at has = absurd (none_some has)
  address_known e ExprType.Void v is at has = absurd (none_some has)
  address_known e ExprType.Unknown v is at has = absurd (no_unknown w c linked e is at)

  behind_sign : (r : Reading) → IsSound w c r → Pure w c (tokens 1 ⊗> value r) (IsUsed c)
  behind_sign r is = pure_joined w c (λ a b. b) (tokens 1) (value r) (pure_tokens w c 1) (sound_value r is) (λ a b x y. y)

  pub sound_unary : (op : UnaryOp) (line : Line) (r : Reading) → IsSound w c r → Pure w c (unary op line r) (IsExpr c)
  sound_unary UnaryOp.Minus line r is = pure_obeys w c mismatch line _ _ (behind_sign r is) (λ h e v st x has. prefix_known PrefixOp.Minus e e.typing v (λ t. t) x refl has)
  sound_unary UnaryOp.Plus line r is = pure_obeys w c mismatch line _ _ (behind_sign r is) (λ h e v st x has. plus_known e e.typing v x has)
  sound_unary UnaryOp.Not line r is = pure_obeys w c mismatch line _ _ (behind_sign r is) (λ h e v st x has. negated e v (is_truth e.typing) x refl (typed_rule (is_unknown e.typing) (Form-F.Prefix PrefixOp.Not e) _ v (is_known w c linked e x) has))
  sound_unary UnaryOp.Complement line r is = pure_obeys w c mismatch line _ _ (behind_sign r is) (λ h e v st x has. prefix_known PrefixOp.Complement e e.typing v (λ t. t) x refl has)
  sound_unary UnaryOp.Deref line r is = pure_obeys w c mismatch line _ _ (behind_sign r is) (λ h e v st x has. pointed_known e e.typing v x refl has)
  sound_unary UnaryOp.Address line r is =
      pure_obeys w c mismatch line _ _ (pure_joined w c (λ a b. b) (tokens 1) (place r) (pure_tokens w c 1) (sound_place r is) (λ a b x y. y)) (λ h e v st x has. address_known e e.typing v x refl has)

  -- Indices.
  item_known : (p i : Expr) (s t : ExprType) (v : Expr) → IsUsedAs c s p → IsUsedAs c t i → p.typing ≡ s → i.typing ≡ t → item_by p i s t ≡ Some v → IsExpr c v
  item_known p i (ExprType.Pointer t) ExprType.Int v is that p_is i_is has =
      subst (IsExpr c) (some_is has)
      (made_known w c linked (ExprType.Place t) (Form-F.Index p i) (pointer_object w c linked p t is p_is) (t, p_is, i_is, refl) (two w c linked p i is that))
  item_known p i _ _ v is that p_is i_is has = absurd (none_some has)

  pub sound_index : (line : Line) (l r : Reading) → IsSound w c l → IsSound w c r
      → Pure w c (obeys mismatch line (λ h e. item_at e.0 e.1 e.0.typing e.1.typing) (operands l r <⊗ tokens 1)) (IsExpr c)
  sound_index line l r is that =
      pure_obeys w c mismatch line (λ h e. item_at e.0 e.1 e.0.typing e.1.typing) (operands l r <⊗ tokens 1)
      (pure_joined w c (λ a b. a) (operands l r) (tokens 1) (sound_operands l r is that) (pure_tokens w c 1) (λ a b x y. x))
      (λ h e v st x has. item_known e.0 e.1 e.0.typing e.1.typing v x.0 x.1 refl refl
      (typed_rule (is_unknown e.0.typing || is_unknown e.1.typing) (Form-F.Index e.0 e.1) _ v
      (neither (is_unknown e.0.typing) (is_unknown e.1.typing) (is_known w c linked e.0 x.0) (is_known w c linked e.1 x.1)) has))

  pub sound_binary : (line : Line) (op : BinaryOp) (l r : Reading) → IsSound w c l → IsSound w c r → Pure w c (obeys mismatch line (λ h e. binary op e.0 e.1) (operands l r)) (IsExpr c)
  sound_binary line op l r is that =
      pure_obeys w c mismatch line (λ h e. binary op e.0 e.1) (operands l r) (sound_operands l r is that) (λ h e v st x has. binary_known op e.0 e.1 v x.0 x.1 has)

  -- Type names: their struct is one of the text.
  tag_within : (x : ℕ) (h : History) (by_value b : Bool) → Stands w c h → is_tag w h by_value x ≡ true → place_of x w.tags < length w.tags
  tag_within x h true b st e = st.tags x e
  tag_within x h false b st e = grind (arith, nat_tests, e)

  -- of a base that keeps its rules
  abbrev pub HasBase : Base → Type 0
  HasBase b = IsBase c.structs (base_type w.tags b)

  tag_known : (line : Line) (tag : Ident) (h : History) (by_value b : Bool) (u : Unit {0}) → Stands w c h → is_tag w h by_value tag.name ≡ b
      → elim b as (λ b. Option (Unit {0})) [ true ↦ Some u | false ↦ None ] ≡ Some u → HasBase (Base.Struct line tag)
  tag_known line tag h by_value true u st at has = struct_is c.structs (length w.tags) (place_of tag.name w.tags) (tag_within tag.name h by_value true st at) linked.tags
  tag_known line tag h by_value false u st at has = absurd (none_some has)

  pub sound_base : (by_value : Bool) (b : Base) → Pure w c (base w by_value b) (λ u. HasBase b)
  sound_base by_value (Base.Int line) = record { quiet = refl; sound = λ here st u e. tt }
  sound_base by_value (Base.Struct line tag) =
      pure_joined w c (λ a b. b) (tokens 1) (obeys unknown tag.line (known_tag w by_value tag) (tokens 1)) (pure_tokens w c 1)
      (pure_obeys w c unknown tag.line (known_tag w by_value tag) (tokens 1) {Q = λ u. HasBase (Base.Struct line tag)} (pure_tokens w c 1)
      (λ h u v st x has. tag_known line tag h by_value (is_tag w h by_value tag.name) u st refl has)) (λ a b x y. y)

  pub sound_type_name : (t : TypeName) → Pure w c (type_name w t) (IsNamed c.structs)
  sound_type_name t =
      pure_map w c (λ _. named_type w.tags t) (base w (nat_eq t.stars 0) t.base ⊗> tokens t.stars)
      (pure_joined w c (λ a b. b) (base w (nat_eq t.stars 0) t.base) (tokens t.stars) {R = λ u. HasBase t.base} (sound_base (nat_eq t.stars 0) t.base) (pure_tokens w c t.stars) (λ a b x y. x))
      (λ u is. (item_object w c linked (base_type w.tags t.base) t.stars is, refl))
