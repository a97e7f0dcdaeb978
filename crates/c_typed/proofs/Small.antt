-- Small programs for the worked rows: trees whose readings compute, with the proof that they are those of the syntax tree.
use Rattle.std.specs.Prelude.{pos, map}
use Rattle.std.proofs.Common.{◌≡◌, ℕ, List, [], ◌∷◌, refl, ap, ◌∙◌}
use Rattle.dfi_base.specs.declared.numbers.Line.{Line}
use Rattle.c_ast.specs.declared.ident.Ident.{Ident}
use Rattle.c_ast.specs.declared.decl.TypeName.{TypeName}
use Rattle.c_ast.specs.declared.expr.BinaryOp.{BinaryOp}
use Rattle.c_ast.specs.declared.expr.UnaryOp.{UnaryOp}
use Rattle.c_ast.specs.declared.expr.Expr.{Expr as SourceExpr}
use Rattle.c_ast.specs.declared.expr.Form.{Form as SourceForm, roll-Form}
use Rattle.c_ast.specs.declared.expr.Form.TheOpen.{Form-F as Source}
use Rattle.c_typed.specs.Whole.{Whole}
use Rattle.c_typed.specs.Exprs.{Reading, form_step, expr}
use Rattle.c_typed.proofs.Levels.{expr_roll}

-- everything stands on line 1
abbrev pub one : Line
one = record { 0 = 1 }

abbrev pub ident : ℕ → Ident
ident n = record { line = one; name = n }

mutual
  pub data Tree : Type 0 where
    bin : Tree → BinaryOp → Tree → Tree
    un : UnaryOp → Tree → Tree
    cast : TypeName → Tree → Tree
    index : Tree → Tree → Tree
    dot : Tree → ℕ → Tree
    arrow : Tree → ℕ → Tree
    num : ℕ → Tree
    null : Tree
    id : ℕ → Tree
    call : ℕ → Trees → Tree
    sizeof : TypeName → Tree

  pub data Trees : Type 0 where
    none : Trees
    also : Tree → Trees → Trees

abbrev pub e : Source SourceForm SourceExpr → SourceExpr
e f = record { line = one; form = roll-Form f }

abbrev mutual
  pub written : Tree → SourceExpr
  written (bin l op r) = e (Source.Binary (written l) op (written r))
  written (un op t) = e (Source.Unary op (written t))
  written (cast to t) = e (Source.Cast to (written t))
  written (index a i) = e (Source.Index (written a) (written i))
  written (dot t f) = e (Source.Field (written t) (ident f))
  written (arrow t f) = e (Source.Arrow (written t) (ident f))
  written (num n) = e (Source.Number (pos n))
  written null = e Source.Null
  written (id n) = e (Source.Name (ident n))
  written (call f ts) = e (Source.Call (ident f) (all_written ts))
  written (sizeof t) = e (Source.Sizeof t)

  pub all_written : Trees → List SourceExpr
  all_written none = []
  all_written (also t ts) = written t ∷ all_written ts

abbrev mutual
  pub read : Whole → Tree → Reading
  read w (bin l op r) = form_step w (Source.Binary (read w l) op (read w r)) one
  read w (un op t) = form_step w (Source.Unary op (read w t)) one
  read w (cast to t) = form_step w (Source.Cast to (read w t)) one
  read w (index a i) = form_step w (Source.Index (read w a) (read w i)) one
  read w (dot t f) = form_step w (Source.Field (read w t) (ident f)) one
  read w (arrow t f) = form_step w (Source.Arrow (read w t) (ident f)) one
  read w (num n) = form_step w (Source.Number (pos n)) one
  read w null = form_step w Source.Null one
  read w (id n) = form_step w (Source.Name (ident n)) one
  read w (call f ts) = form_step w (Source.Call (ident f) (all_read w ts)) one
  read w (sizeof t) = form_step w (Source.Sizeof t) one

  pub all_read : Whole → Trees → List Reading
  all_read w none = []
  all_read w (also t ts) = read w t ∷ all_read w ts

mutual
  pub reads : (w : Whole) (t : Tree) → expr w (written t) ≡ read w t
  reads w (bin l op r) =
      expr_roll w one _ ∙ ap (λ x. form_step w (Source.Binary x op (expr w (written r))) one) (reads w l)
      ∙ ap (λ x. form_step w (Source.Binary (read w l) op x) one) (reads w r)
  reads w (un op t) = expr_roll w one _ ∙ ap (λ x. form_step w (Source.Unary op x) one) (reads w t)
  reads w (cast to t) = expr_roll w one _ ∙ ap (λ x. form_step w (Source.Cast to x) one) (reads w t)
  reads w (index l r) =
      expr_roll w one _ ∙ ap (λ x. form_step w (Source.Index x (expr w (written r))) one) (reads w l)
      ∙ ap (λ x. form_step w (Source.Index (read w l) x) one) (reads w r)
  reads w (dot t f) = expr_roll w one _ ∙ ap (λ x. form_step w (Source.Field x (ident f)) one) (reads w t)
  reads w (arrow t f) = expr_roll w one _ ∙ ap (λ x. form_step w (Source.Arrow x (ident f)) one) (reads w t)
  reads w (num n) = expr_roll w one _
  reads w null = expr_roll w one _
  reads w (id n) = expr_roll w one _
  reads w (call f ts) = expr_roll w one _ ∙ ap (λ x. form_step w (Source.Call (ident f) x) one) (all_reads w ts)
  reads w (sizeof t) = expr_roll w one _

  pub all_reads : (w : Whole) (ts : Trees) → map (expr w) (all_written ts) ≡ all_read w ts
  all_reads w none = refl
  all_reads w (also t ts) = ap (λ x. x ∷ map (expr w) (all_written ts)) (reads w t) ∙ ap (λ x. read w t ∷ x) (all_reads w ts)
