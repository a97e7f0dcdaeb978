-- Where a global starts with `-` of a number, that number is not negative, so that what it starts with fits. A tool of proof.
use Rattle.std.specs.Prelude.{◌≡◌, ℕ, ℤ, pos, List, Option, Some, None}
use Rattle.std.specs.List.{All}
use Rattle.c_ast.specs.declared.decl.DeclItem.{DeclItem}
use Rattle.c_ast.specs.declared.expr.UnaryOp.{UnaryOp}
use Rattle.c_ast.specs.declared.expr.Expr.{Expr as SourceExpr}
use Rattle.c_ast.specs.declared.expr.Form.{out-Form, Form as SourceForm}
use Rattle.c_ast.specs.declared.expr.Form.TheOpen.{Form-F as Source}
use Rattle.c_ast.specs.declared.program.Item.{Item}
use Rattle.c_typed.specs.Programs.{number_of}

abbrev pub NotNegative : Option ℤ → Type 0
NotNegative None = Unit {0}
NotNegative (Some k) = (n : ℕ) × (k ≡ pos n)

abbrev pub Negatable : Source SourceForm SourceExpr → Type 0
Negatable (Source.Unary UnaryOp.Minus e) = NotNegative (number_of (out-Form e.form))
Negatable _ = Unit {0}

abbrev pub NegatableValue : Option SourceExpr → Type 0
NegatableValue None = Unit {0}
NegatableValue (Some e) = Negatable (out-Form e.form)

abbrev pub NegatableItems : List DeclItem → Type 0
NegatableItems = All (λ i. NegatableValue i.value)

abbrev pub NegatableStarts : Item → Type 0
NegatableStarts (Item.Decl d) = NegatableItems d.items
NegatableStarts _ = Unit {0}
