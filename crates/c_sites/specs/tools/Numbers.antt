-- What numbering a part finds: the part with its sites numbered from one number on, and the number behind them. A tool of proof.
use Rattle.std.specs.Prelude.{◌≡◌, ℕ, ◌+◌, map, Option, Some, None, Result, Ok, Err}
use Rattle.dfi_base.specs.declared.numbers.Line.{Line}
use Rattle.c_ast.specs.declared.stmt.AssignOp.{AssignOp}
use Rattle.c_typed.specs.declared.fault.TypeFault.{TypeFault}
use Rattle.c_typed.specs.declared.expr.Expr.{Expr}
use Rattle.c_typed.specs.declared.expr.Form.{fold-Form, Form}
use Rattle.c_typed.specs.declared.stmt.Branch.{Branch}
use Rattle.c_typed.specs.declared.stmt.Condition.{Condition}
use Rattle.c_typed.specs.declared.stmt.Stmt.{Stmt, roll-Stmt}
use Rattle.c_typed.specs.declared.stmt.Stmt.TheOpen.{Stmt-F}
use Rattle.c_typed.specs.Sites.{Sited, given, ◌<$>◌, joined, ◌⊗◌, in_turn, number_form, expr, condition_there, stmt}

-- want of memory is free
abbrev pub Numbers : {A : Type 0} → Result A TypeFault → ℕ → ℕ → Sited A → Type 0
Numbers (Ok a) first next p = (a ≡ p.from first) × (next ≡ first + p.count)
Numbers (Err e) first next p = e ≡ TypeFault.Memory

abbrev pub sited_form : Form → Sited Form
sited_form = fold-Form (Sited Form) (Sited Expr) number_form (λ e. (λ form. record { typing = e.typing; form = form }) <$> e.form)

abbrev pub sited_branch : Branch Stmt → Sited (Branch Stmt)
sited_branch b = (λ ss. record { body = ss; close = b.close }) <$> in_turn (map stmt b.body)

abbrev pub assignment : Line → Expr → AssignOp → Expr → Sited Stmt
assignment line target op v = joined (λ e f. roll-Stmt (Stmt-F.Assign line e op f)) (expr target) (expr v)
