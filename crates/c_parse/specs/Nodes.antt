-- Expressions by form, with their line: that of their own first token, which a parenthesis round them is not.
use Rattle.std.specs.Prelude.{ℤ, List}
use Rattle.dfi_base.specs.declared.numbers.Line.{Line}
use Rattle.c_ast.specs.declared.ident.Ident.{Ident}
use Rattle.c_ast.specs.declared.decl.TypeName.{TypeName}
use Rattle.c_ast.specs.declared.expr.UnaryOp.{UnaryOp}
use Rattle.c_ast.specs.declared.expr.BinaryOp.{BinaryOp}
use Rattle.c_ast.specs.declared.expr.Expr.{Expr}
use Rattle.c_ast.specs.declared.expr.Form.TheVariants as form

abbrev pub Binary : Line → Expr → BinaryOp → Expr → Expr
Binary l a op b = record { line = l; form = form.Binary a op b }

abbrev pub Unary : Line → UnaryOp → Expr → Expr
Unary l op a = record { line = l; form = form.Unary op a }

abbrev pub Cast : Line → TypeName → Expr → Expr
Cast l t a = record { line = l; form = form.Cast t a }

abbrev pub Index : Line → Expr → Expr → Expr
Index l a b = record { line = l; form = form.Index a b }

abbrev pub Field : Line → Expr → Ident → Expr
Field l a i = record { line = l; form = form.Field a i }

abbrev pub Arrow : Line → Expr → Ident → Expr
Arrow l a i = record { line = l; form = form.Arrow a i }

abbrev pub Number : Line → ℤ → Expr
Number l n = record { line = l; form = form.Number n }

abbrev pub Null : Line → Expr
Null l = record { line = l; form = form.Null }

abbrev pub Name : Ident → Expr
Name i = record { line = i.line; form = form.Name i }

abbrev pub Call : Ident → List Expr → Expr
Call f args = record { line = f.line; form = form.Call f args }

abbrev pub Sizeof : Line → TypeName → Expr
Sizeof l t = record { line = l; form = form.Sizeof t }
