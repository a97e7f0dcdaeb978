-- Types whose arrays are among the types of a list, and so those of what is built of them.
use Rattle.std.proofs.Common.{◌≡◌, ℕ, zero, suc, ◌⊎◌, ◌&&◌, Bool, true, false, List, [], ◌∷◌, Option, Some, None, refl, ap, sym, ◌∙◌, subst}
use Rattle.c_ast.specs.declared.expr.BinaryOp.{BinaryOp}
use Rattle.c_typed.specs.declared.types.BaseType.{BaseType}
use Rattle.c_typed.specs.declared.types.ObjectType.{ObjectType}
use Rattle.c_typed.specs.declared.types.ExprType.{ExprType}
use Rattle.c_typed.specs.Types.{is_known, pointer_to, scalar, value_by, value_type, scalar_by, scalar_type, is_truth}
use Rattle.c_typed.specs.Exprs.{of_ints, of_sum, of_difference, are_equal_types, binary_type, called_type}

abbrev pub Member : {A : Type 0} → A → List A → Type 0
Member x [] = ⊥
Member x (y ∷ ys) = (x ≡ y) ⊎ Member x ys

module _ (us : List ObjectType) where
  abbrev pub Arrays : BaseType → ℕ → List ℕ → Type 0
  Arrays base stars [] = Unit {0}
  Arrays base stars (n ∷ ns) = Member (record { base = base; stars = stars; lengths = n ∷ ns }) us × Arrays base stars ns

  abbrev pub Parted : ObjectType → Type 0
  Parted t = Arrays t.base t.stars t.lengths

  -- of what stands at a place, and of what a pointer points to
  abbrev pub PartedTyping : ExprType → Type 0
  PartedTyping (ExprType.Place t) = Parted t
  PartedTyping (ExprType.Pointer t) = Parted t
  PartedTyping _ = Unit {0}

  pub no_arrays : (t : ObjectType) → t.lengths ≡ [] → Parted t
  no_arrays t is = subst (λ ns. Arrays t.base t.stars ns) (sym is) tt

  some_parted : (v s : ExprType) → Some v ≡ Some s → PartedTyping v → PartedTyping s
  some_parted v s e is = (let same : v ≡ s = cc in subst PartedTyping same is)

  -- Values.
  value_parted : (base : BaseType) (stars : ℕ) (s : ExprType) → scalar base stars ≡ Some s → PartedTyping s
  value_parted BaseType.Unknown n s e = some_parted ExprType.Unknown s e tt
  value_parted BaseType.Int zero s e = some_parted ExprType.Int s e tt
  value_parted (BaseType.Struct k) zero s e = cc
  value_parted BaseType.Int (suc n) s e = some_parted (ExprType.Pointer (record { base = BaseType.Int; stars = n; lengths = [] })) s e tt
  value_parted (BaseType.Struct k) (suc n) s e = some_parted (ExprType.Pointer (record { base = BaseType.Struct k; stars = n; lengths = [] })) s e tt

  scalar_parted_by : (t : ObjectType) (ns : List ℕ) (s : ExprType) → scalar_by t ns ≡ Some s → PartedTyping s
  scalar_parted_by t [] s e = value_parted t.base t.stars s e
  scalar_parted_by t (n ∷ ns) s e = cc

  pub scalar_parted : (t : ObjectType) (s : ExprType) → scalar_type t ≡ Some s → PartedTyping s
  scalar_parted t s e = scalar_parted_by t t.lengths s e

  pointer_parted : (t : ObjectType) → Parted t → PartedTyping (pointer_to t)
  pointer_parted t is = by (is_known t)
    where
      by : (b : Bool) → PartedTyping (elim b as (λ b. ExprType) [ true ↦ ExprType.Pointer t | false ↦ ExprType.Unknown ])
      by true = is
      by false = tt

  -- the pointer to the first item of an array
  pub decay_parted : (t : ObjectType) (n : ℕ) (ns : List ℕ) (s : ExprType) → t.lengths ≡ n ∷ ns → value_type t ≡ Some s → Parted t → PartedTyping s
  decay_parted t n ns s is value all =
      let rest = (subst (λ xs. Arrays t.base t.stars xs) is all).1 in
      let item : ObjectType = record { base = t.base; stars = t.stars; lengths = ns } in
      some_parted (pointer_to item) s (ap (value_by t) (sym is) ∙ value) (pointer_parted item rest)

  called_parted_by : (o : Option ExprType) → ((s : ExprType) → o ≡ Some s → PartedTyping s) → PartedTyping (elim o as (λ o. ExprType) [ None ↦ ExprType.Unknown | Some v ↦ v ])
  called_parted_by None all = tt
  called_parted_by (Some v) all = all v refl

  pub called_parted : (o : Option ObjectType) → PartedTyping (called_type o)
  called_parted None = tt
  called_parted (Some t) = called_parted_by (scalar_type t) (scalar_parted t)

  -- Operators.
  int_parted : (b : Bool) (s : ExprType) → elim b as (λ b. Option ExprType) [ true ↦ Some ExprType.Int | false ↦ None ] ≡ Some s → PartedTyping s
  int_parted true s e = some_parted ExprType.Int s e tt
  int_parted false s e = cc

  ints_parted : (a b s : ExprType) → of_ints a b ≡ Some s → PartedTyping s
  ints_parted ExprType.Int ExprType.Int s e = some_parted ExprType.Int s e tt
  ints_parted a b s e = cc

  sum_parted : (a b s : ExprType) → of_sum a b ≡ Some s → PartedTyping a → PartedTyping b → PartedTyping s
  sum_parted ExprType.Int ExprType.Int s e is that = some_parted ExprType.Int s e tt
  sum_parted (ExprType.Pointer t) ExprType.Int s e is that = some_parted (ExprType.Pointer t) s e is
  sum_parted ExprType.Int (ExprType.Pointer t) s e is that = some_parted (ExprType.Pointer t) s e that
  sum_parted a b s e is that = cc

  difference_parted : (a b s : ExprType) → of_difference a b ≡ Some s → PartedTyping a → PartedTyping s
  difference_parted ExprType.Int ExprType.Int s e is = some_parted ExprType.Int s e tt
  difference_parted (ExprType.Pointer t) ExprType.Int s e is = some_parted (ExprType.Pointer t) s e is
  difference_parted a b s e is = cc

  pub binary_parted : (op : BinaryOp) (a b s : ExprType) → binary_type op a b ≡ Some s → PartedTyping a → PartedTyping b → PartedTyping s
  binary_parted BinaryOp.Or a b s e is that = int_parted (is_truth a && is_truth b) s e
  binary_parted BinaryOp.And a b s e is that = int_parted (is_truth a && is_truth b) s e
  binary_parted BinaryOp.Equal a b s e is that = int_parted (are_equal_types a b) s e
  binary_parted BinaryOp.NotEqual a b s e is that = int_parted (are_equal_types a b) s e
  binary_parted BinaryOp.Add a b s e is that = sum_parted a b s e is that
  binary_parted BinaryOp.Sub a b s e is that = difference_parted a b s e is
  binary_parted op a b s e is that = ints_parted a b s e
