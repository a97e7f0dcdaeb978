-- Typed expressions of small programs: trees whose code computes, with the proof that it is that of the typed tree.
use Rattle.std.specs.Prelude.{pos, map}
use Rattle.std.proofs.Common.{◌≡◌, ℕ, List, [], ◌∷◌, Some, None, refl, ap, ◌∙◌}
use Rattle.c_ast.specs.declared.expr.BinaryOp.{BinaryOp}
use Rattle.c_typed.specs.declared.types.ObjectType.{ObjectType}
use Rattle.c_typed.specs.declared.types.ExprType.{ExprType}
use Rattle.c_typed.specs.declared.expr.PrefixOp.{PrefixOp}
use Rattle.c_typed.specs.declared.expr.Expr.{Expr}
use Rattle.c_typed.specs.declared.expr.Form.{Form, roll-Form}
use Rattle.c_typed.specs.declared.expr.Form.TheOpen.{Form-F}
use Rattle.tac_lower.specs.Values.{Yield, Lowered, form_step, expr}
use Rattle.tac_lower.proofs.pieces.Levels.{expr_roll}

mutual
  -- each with the type that it has
  pub data Tree : Type 0 where
    global : ObjectType → ℕ → Tree
    local : ObjectType → ℕ → Tree
    deref : ObjectType → Tree → Tree
    index : ObjectType → Tree → Tree → Tree
    field : ObjectType → Tree → ℕ → Tree
    arrow : ObjectType → Tree → ℕ → Tree
    num : ℕ → Tree
    null : Tree
    read : ExprType → Tree → Tree
    decay : ObjectType → Tree → Tree
    address : ObjectType → Tree → Tree
    prefix : PrefixOp → Tree → Tree
    binary : ExprType → Tree → BinaryOp → Tree → Tree
    call : ExprType → ℕ → Trees → Tree
    getint : Tree
    left : Tree
    new : ℕ → ObjectType → Tree
    news : ℕ → ObjectType → Tree → Tree

  pub data Trees : Type 0 where
    none : Trees
    also : Tree → Trees → Trees

abbrev e : ExprType → Form-F Form Expr → Expr
e t x = record { typing = t; form = roll-Form x }

abbrev l : List ℕ → ExprType → Form-F (ℕ → Yield) Lowered → Lowered
l sizes t x = record { typing = t; yield = form_step sizes x }

abbrev mutual
  pub written : Tree → Expr
  written (global t n) = e (ExprType.Place t) (Form-F.Global n)
  written (local t n) = e (ExprType.Place t) (Form-F.Local n)
  written (deref t p) = e (ExprType.Place t) (Form-F.Deref (written p))
  written (index t p i) = e (ExprType.Place t) (Form-F.Index (written p) (written i))
  written (field t w k) = e (ExprType.Place t) (Form-F.Field (written w) k)
  written (arrow t p k) = e (ExprType.Place t) (Form-F.Arrow (written p) k)
  written (num n) = e ExprType.Int (Form-F.Number (pos n))
  written null = e ExprType.Null Form-F.Null
  written (read t p) = e t (Form-F.Read (written p))
  written (decay t p) = e (ExprType.Pointer t) (Form-F.Decay (written p))
  written (address t p) = e (ExprType.Pointer t) (Form-F.Address (written p))
  written (prefix op x) = e ExprType.Int (Form-F.Prefix op (written x))
  written (binary t x op y) = e t (Form-F.Binary (written x) op (written y))
  written (call t f xs) = e t (Form-F.Call f (all_written xs))
  written getint = e ExprType.Int Form-F.GetInt
  written left = e ExprType.Int Form-F.Left
  written (new n t) = e (ExprType.Pointer t) (Form-F.New n t None)
  written (news n t x) = e (ExprType.Pointer t) (Form-F.New n t (Some (written x)))

  pub all_written : Trees → List Expr
  all_written none = []
  all_written (also x xs) = written x ∷ all_written xs

abbrev mutual
  pub lowered : List ℕ → Tree → Lowered
  lowered s (global t n) = l s (ExprType.Place t) (Form-F.Global n)
  lowered s (local t n) = l s (ExprType.Place t) (Form-F.Local n)
  lowered s (deref t p) = l s (ExprType.Place t) (Form-F.Deref (lowered s p))
  lowered s (index t p i) = l s (ExprType.Place t) (Form-F.Index (lowered s p) (lowered s i))
  lowered s (field t w k) = l s (ExprType.Place t) (Form-F.Field (lowered s w) k)
  lowered s (arrow t p k) = l s (ExprType.Place t) (Form-F.Arrow (lowered s p) k)
  lowered s (num n) = l s ExprType.Int (Form-F.Number (pos n))
  lowered s null = l s ExprType.Null Form-F.Null
  lowered s (read t p) = l s t (Form-F.Read (lowered s p))
  lowered s (decay t p) = l s (ExprType.Pointer t) (Form-F.Decay (lowered s p))
  lowered s (address t p) = l s (ExprType.Pointer t) (Form-F.Address (lowered s p))
  lowered s (prefix op x) = l s ExprType.Int (Form-F.Prefix op (lowered s x))
  lowered s (binary t x op y) = l s t (Form-F.Binary (lowered s x) op (lowered s y))
  lowered s (call t f xs) = l s t (Form-F.Call f (all_lowered s xs))
  lowered s getint = l s ExprType.Int Form-F.GetInt
  lowered s left = l s ExprType.Int Form-F.Left
  lowered s (new n t) = l s (ExprType.Pointer t) (Form-F.New n t None)
  lowered s (news n t x) = l s (ExprType.Pointer t) (Form-F.New n t (Some (lowered s x)))

  pub all_lowered : List ℕ → Trees → List Lowered
  all_lowered s none = []
  all_lowered s (also x xs) = lowered s x ∷ all_lowered s xs

mutual
  pub lowers : (s : List ℕ) (x : Tree) → expr s (written x) ≡ lowered s x
  lowers s (global t n) = expr_roll s _ _
  lowers s (local t n) = expr_roll s _ _
  lowers s (deref t p) = expr_roll s _ _ ∙ ap (λ x. l s (ExprType.Place t) (Form-F.Deref x)) (lowers s p)
  lowers s (index t p i) =
      expr_roll s _ _ ∙ ap (λ x. l s (ExprType.Place t) (Form-F.Index x (expr s (written i)))) (lowers s p)
      ∙ ap (λ x. l s (ExprType.Place t) (Form-F.Index (lowered s p) x)) (lowers s i)
  lowers s (field t w k) = expr_roll s _ _ ∙ ap (λ x. l s (ExprType.Place t) (Form-F.Field x k)) (lowers s w)
  lowers s (arrow t p k) = expr_roll s _ _ ∙ ap (λ x. l s (ExprType.Place t) (Form-F.Arrow x k)) (lowers s p)
  lowers s (num n) = expr_roll s _ _
  lowers s null = expr_roll s _ _
  lowers s (read t p) = expr_roll s _ _ ∙ ap (λ x. l s t (Form-F.Read x)) (lowers s p)
  lowers s (decay t p) = expr_roll s _ _ ∙ ap (λ x. l s (ExprType.Pointer t) (Form-F.Decay x)) (lowers s p)
  lowers s (address t p) = expr_roll s _ _ ∙ ap (λ x. l s (ExprType.Pointer t) (Form-F.Address x)) (lowers s p)
  lowers s (prefix op x) = expr_roll s _ _ ∙ ap (λ x. l s ExprType.Int (Form-F.Prefix op x)) (lowers s x)
  lowers s (binary t x op y) =
      expr_roll s _ _ ∙ ap (λ z. l s t (Form-F.Binary z op (expr s (written y)))) (lowers s x)
      ∙ ap (λ z. l s t (Form-F.Binary (lowered s x) op z)) (lowers s y)
  lowers s (call t f xs) = expr_roll s _ _ ∙ ap (λ z. l s t (Form-F.Call f z)) (all_lowers s xs)
  lowers s getint = expr_roll s _ _
  lowers s left = expr_roll s _ _
  lowers s (new n t) = expr_roll s _ _
  lowers s (news n t x) = expr_roll s _ _ ∙ ap (λ z. l s (ExprType.Pointer t) (Form-F.New n t (Some z))) (lowers s x)

  pub all_lowers : (s : List ℕ) (xs : Trees) → map (expr s) (all_written xs) ≡ all_lowered s xs
  all_lowers s none = refl
  all_lowers s (also x xs) = ap (λ z. z ∷ map (expr s) (all_written xs)) (lowers s x) ∙ ap (λ z. lowered s x ∷ z) (all_lowers s xs)
