-- Statements (C99 6.8, and `par`), one case for each form.
use Rattle.std.specs.Prelude.{Bool, true, false, ◌&&◌, not, nat_le, List, [], map, length, Option, Some, None}
use Rattle.dfi_base.specs.declared.numbers.Line.{Line}
use Rattle.c_ast.specs.declared.ident.Ident.{Ident}
use Rattle.c_ast.specs.declared.expr.Expr.{Expr as SourceExpr}
use Rattle.c_ast.specs.declared.stmt.AssignOp.{AssignOp}
use Rattle.c_ast.specs.declared.stmt.Simple.{Simple}
use Rattle.c_ast.specs.declared.stmt.ForStart.{ForStart}
use Rattle.c_ast.specs.declared.stmt.Block.{Block}
use Rattle.c_ast.specs.declared.stmt.BlockItem.{BlockItem}
use Rattle.c_ast.specs.declared.stmt.Stmt.{fold-Stmt, Stmt as SourceStmt}
use Rattle.c_ast.specs.declared.stmt.Stmt.TheOpen.{Stmt-F as Source}
use Rattle.c_typed.specs.declared.types.ObjectType.{ObjectType}
use Rattle.c_typed.specs.declared.types.ExprType.{ExprType}
use Rattle.c_typed.specs.declared.expr.Expr.{Expr}
use Rattle.c_typed.specs.declared.stmt.Branch.{Branch}
use Rattle.c_typed.specs.declared.stmt.Condition.{Condition}
use Rattle.c_typed.specs.declared.stmt.Stmt.{Stmt, roll-Stmt}
use Rattle.c_typed.specs.declared.stmt.Stmt.TheOpen.{Stmt-F}
use Rattle.c_typed.specs.Types.{fits, suits, scalar_type, is_truth}
use Rattle.c_typed.specs.Marks.{opens, closes, block, loop, branch, around, in_loop, in_branch, result_at}
use Rattle.c_typed.specs.Whole.{Whole, Builtin, Meaning, meaning}
use Rattle.c_typed.specs.Faults.{mismatch, escape, branches, unless}
use Rattle.c_typed.specs.Parts.{Part, tokens, mark, obeys, with_faults, in_turn, if_there, ◌⊗◌, ◌<⊗◌, ◌⊗>◌, ◌<$>◌}
use Rattle.c_typed.specs.Exprs.{Reading, expr, value, place, put, freed, arguments, called, call_as}
use Rattle.c_typed.specs.Decls.{local_decl}

abbrev pub Layer : Type 0
Layer = Stmt-F Stmt

-- A condition is an int or a pointer.
abbrev pub tested : Line → Expr → Option Condition
tested line e = elim (is_truth e.typing) [ true ↦ Some (record { line = line; value = e }) | false ↦ None ]

abbrev pub condition_by : Reading → Part Condition
condition_by r = obeys mismatch r.line (λ h e. tested r.line e) (value r)

abbrev pub condition : Whole → SourceExpr → Part Condition
condition w e = condition_by (expr w e)

-- Assignments: a scalar place and a value of its type; two ints, or a pointer that is moved by an int.
abbrev pub moves : AssignOp → Bool
moves AssignOp.Add = true
moves AssignOp.Sub = true
moves _ = false

abbrev pub compounds : AssignOp → ExprType → ExprType → Bool
compounds op t ExprType.Void = false
compounds op ExprType.Unknown v = true
compounds op t ExprType.Unknown = true
compounds op ExprType.Int ExprType.Int = true
compounds op (ExprType.Pointer t) ExprType.Int = moves op
compounds op _ _ = false

abbrev pub assigns_scalar : AssignOp → ExprType → ExprType → Bool
assigns_scalar AssignOp.Plain t v = suits v t
assigns_scalar op t v = compounds op t v

-- the type of what stands at a place, none for arrays and structs
abbrev pub scalar_at : ExprType → Option ExprType
scalar_at (ExprType.Place t) = scalar_type t
scalar_at ExprType.Unknown = Some ExprType.Unknown
scalar_at _ = None

abbrev pub assigned : Line → AssignOp → Expr → Expr → Option Stmt
assigned line op target v =
    elim (scalar_at target.typing) [
      | None ↦ None
      | Some t ↦ elim (assigns_scalar op t v.typing) [ true ↦ Some (roll-Stmt (Stmt-F.Assign line target op v)) | false ↦ None ]
    ]

-- `++` and `--` take a scalar place
abbrev pub counted : Expr → Layer → Option Stmt
counted target layer = elim (scalar_at target.typing) [ None ↦ None | Some t ↦ Some (roll-Stmt layer) ]

-- A call: `putint` and `free` are statements of their own.
abbrev pub call_by : Whole → Ident → List Reading → Meaning → Part Stmt
call_by w f rs (Meaning.builtin Builtin.putint) =
    (λ e. roll-Stmt (Stmt-F.PutInt f.line e)) <$> obeys mismatch f.line (λ h es. put es) (called (arguments rs))
call_by w f rs (Meaning.builtin Builtin.free) =
    (λ e. roll-Stmt (Stmt-F.Free f.line e)) <$> obeys mismatch f.line (λ h es. freed es) (called (arguments rs))
call_by w f rs m = (λ e. roll-Stmt (Stmt-F.Call f.line e)) <$> call_as w f.line f rs m

abbrev pub call_stmt : Whole → Ident → List Reading → Part Stmt
call_stmt w f rs = record {
  tokens = (called (arguments rs)).tokens;
  marks = [];
  judge = λ here. (call_by w f rs (meaning w here.before f.name)).judge here;
}

abbrev pub simple : Whole → Simple → Part Stmt
simple w (Simple.Assign line target op v) =
    obeys mismatch line (λ h e. assigned line op e.0 e.1) (place (expr w target) <⊗ tokens 1 ⊗ value (expr w v))
simple w (Simple.Increment line target) =
    obeys mismatch line (λ h e. counted e (Stmt-F.Increment line e)) (place (expr w target) <⊗ tokens 1)
simple w (Simple.Decrement line target) =
    obeys mismatch line (λ h e. counted e (Stmt-F.Decrement line e)) (place (expr w target) <⊗ tokens 1)
simple w (Simple.PreIncrement line target) =
    obeys mismatch line (λ h e. counted e (Stmt-F.Increment line e)) (tokens 1 ⊗> place (expr w target))
simple w (Simple.PreDecrement line target) =
    obeys mismatch line (λ h e. counted e (Stmt-F.Decrement line e)) (tokens 1 ⊗> place (expr w target))
simple w (Simple.Call f args) = call_stmt w f (map (expr w) args)

-- A value exactly where the function is not void, and of its result's type.
abbrev pub returns : Line → Option ObjectType → Option Expr → Option Stmt
returns line None None = Some (roll-Stmt (Stmt-F.Return line None))
returns line (Some t) (Some e) = elim (fits e.typing t) [ true ↦ Some (roll-Stmt (Stmt-F.Return line (Some e))) | false ↦ None ]
returns line _ _ = None

abbrev pub value_of : Whole → SourceExpr → Part Expr
value_of w e = value (expr w e)

abbrev pub value_there : Whole → Option SourceExpr → Part (Option Expr)
value_there w None = if_there None
value_there w (Some e) = if_there (Some (value_of w e))

abbrev pub condition_there : Whole → Option SourceExpr → Part (Option Condition)
condition_there w None = if_there None
condition_there w (Some e) = if_there (Some (condition w e))

-- `break` and `continue`: a loop stands round them, and no branch between.
abbrev pub within_loop : Line → Layer → Part Stmt
within_loop line layer =
    with_faults (λ here. unless (in_loop (around 0 here.before)) here.at escape line) ((λ _. roll-Stmt layer) <$> tokens 2)

-- Blocks.
abbrev pub empty : Stmt
empty = roll-Stmt (Stmt-F.Block [])

abbrev pub block_item : Whole → BlockItem (Part Stmt) → Part Stmt
block_item w (BlockItem.Decl d) = local_decl w d
block_item w (BlockItem.Stmt s) = s

-- in braces, without a scope of its own
abbrev pub body : Whole → Block (Part Stmt) → Part (List Stmt)
body w b = tokens 1 ⊗> in_turn (map (block_item w) b.items) <⊗ tokens 1

abbrev pub branch_of : Whole → Block (Part Stmt) → Part (Branch Stmt)
branch_of w b = (λ ss. record { body = ss; close = b.close }) <$> (mark (opens branch) ⊗> body w b <⊗ mark closes)

-- The first part of a `for`, and its step.
abbrev pub start : Whole → ForStart → Part Stmt
start w (ForStart.Decl d) = local_decl w d
start w (ForStart.Simple None) = (λ _. empty) <$> tokens 1
start w (ForStart.Simple (Some s)) = simple w s <⊗ tokens 1

abbrev pub step : Whole → Option Simple → Part Stmt
step w None = (λ _. empty) <$> tokens 0
step w (Some s) = simple w s

abbrev pub second : Option (Part Stmt) → Part (Option Stmt)
second None = if_there None
second (Some s) = if_there (Some (tokens 1 ⊗> s))

abbrev pub stmt_step : Whole → Source (Part Stmt) → Part Stmt
stmt_step w (Source.Block b) = (λ ss. roll-Stmt (Stmt-F.Block ss)) <$> (mark (opens block) ⊗> body w b <⊗ mark closes)
stmt_step w (Source.Empty line) = (λ _. empty) <$> tokens 1
stmt_step w (Source.Simple s) = simple w s <⊗ tokens 1
stmt_step w (Source.Return line v) =
    with_faults (λ here. unless (not (in_branch (around 0 here.before))) here.at escape line)
    (obeys mismatch line (λ h e. returns line (result_at h) e) (tokens 1 ⊗> value_there w v <⊗ tokens 1))
stmt_step w (Source.Break line) = within_loop line (Stmt-F.Break line)
stmt_step w (Source.Continue line) = within_loop line (Stmt-F.Continue line)
stmt_step w (Source.If line c first other) =
    (λ s. roll-Stmt (Stmt-F.If line s.0.0 s.0.1 s.1)) <$> (tokens 2 ⊗> condition w c <⊗ tokens 1 ⊗ first ⊗ second other)
stmt_step w (Source.While line c s) =
    (λ s. roll-Stmt (Stmt-F.While line s.0 s.1)) <$> (mark (opens loop) ⊗> tokens 2 ⊗> condition w c <⊗ tokens 1 ⊗ s <⊗ mark closes)
stmt_step w (Source.For line first c last s) =
    (λ s. roll-Stmt (Stmt-F.For line s.0.0.0 s.0.0.1 s.0.1 s.1))
    <$> (mark (opens loop) ⊗> tokens 2 ⊗> start w first ⊗ condition_there w c <⊗ tokens 1 ⊗ step w last <⊗ tokens 1 ⊗ s <⊗ mark closes)
stmt_step w (Source.Par line bs) =
    with_faults (λ here. unless (nat_le 2 (length bs) && nat_le (length bs) 15) here.at branches line)
    ((λ b. roll-Stmt (Stmt-F.Par line b)) <$> (tokens 2 ⊗> in_turn (map (branch_of w) bs) <⊗ tokens 1))

unfoldable pub stmt : Whole → SourceStmt → Part Stmt
stmt w = fold-Stmt (Part Stmt) (stmt_step w)
