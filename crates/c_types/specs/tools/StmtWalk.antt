-- What the code finds of a statement, and what is known behind it, one case for each form. A tool of proof.
use Rattle.std.specs.Prelude.{Bool, true, false, ◌&&◌, not, nat_le, List, map, length, Option, Some, None, Ok, Err}
use Rattle.dfi_base.specs.declared.numbers.Line.{Line}
use Rattle.c_ast.specs.declared.ident.Ident.{Ident}
use Rattle.c_ast.specs.declared.expr.Expr.{Expr as SourceExpr}
use Rattle.c_ast.specs.declared.stmt.AssignOp.{AssignOp}
use Rattle.c_ast.specs.declared.stmt.Simple.{Simple}
use Rattle.c_ast.specs.declared.stmt.ForStart.{ForStart}
use Rattle.c_ast.specs.declared.stmt.Block.{Block}
use Rattle.c_ast.specs.declared.stmt.BlockItem.{BlockItem}
use Rattle.c_ast.specs.declared.stmt.Stmt.{fold-Stmt, Stmt as SourceStmt}
use Rattle.c_ast.specs.declared.stmt.Stmt.TheOpen.{Stmt-F as Source}
use Rattle.c_typed.specs.declared.types.ObjectType.{ObjectType}
use Rattle.c_typed.specs.declared.expr.Expr.{Expr}
use Rattle.c_typed.specs.declared.stmt.Branch.{Branch}
use Rattle.c_typed.specs.declared.stmt.Condition.{Condition}
use Rattle.c_typed.specs.declared.stmt.Stmt.{Stmt, roll-Stmt}
use Rattle.c_typed.specs.declared.stmt.Stmt.TheOpen.{Stmt-F}
use Rattle.c_types.specs.declared.outline.Outline.{Outline}
use Rattle.c_types.specs.declared.outline.Spelling.{Spelling}
use Rattle.c_types.specs.declared.scopes.Binding.{Binding}
use Rattle.c_types.specs.declared.known.Known.{Known}
use Rattle.c_types.specs.declared.known.Around.{Around}
use Rattle.c_typed.specs.Faults.{mismatch, escape, branches}
use Rattle.c_typed.specs.Stmts.{Layer, tested, assigned, counted, returns, empty}
use Rattle.c_types.specs.tools.Steps.{Found, ◌>>=◌, broken, kept, unless_kept, each, one}
use Rattle.c_types.specs.tools.Outlines.{spelled, bound}
use Rattle.c_types.specs.tools.ExprWalk as exprs
use Rattle.c_types.specs.tools.ExprWalk.{Finding, expr_walk, value, place}
use Rattle.c_types.specs.tools.DeclWalk.{local_decl_walk}
use Rattle.c_types.specs.tools.KnownSteps.{entered, exited}

-- a walk at what is known
abbrev pub Walk : Type 0 → Type 0
Walk A = Known → Found (A × Known)

-- it leaves what is known as it was
abbrev pub same : {A : Type 0} → Known → Found A → Found (A × Known)
same k f = f >>= (λ a. Ok (a, k))

abbrev pub condition_walk : Outline → Known → SourceExpr → Found Condition
condition_walk o k e = value (expr_walk o k e) >>= (λ v. kept mismatch (expr_walk o k e).line (tested (expr_walk o k e).line v))

abbrev pub condition_there_walk : Outline → Known → Option SourceExpr → Found (Option Condition)
condition_there_walk o k None = Ok None
condition_there_walk o k (Some e) = condition_walk o k e >>= (λ c. Ok (Some c))

abbrev pub assign_walk : Outline → Known → Line → SourceExpr → AssignOp → SourceExpr → Found Stmt
assign_walk o k line target op v =
    place (expr_walk o k target) >>= (λ t. value (expr_walk o k v) >>= (λ e. kept mismatch line (assigned line op t e)))

abbrev pub counted_walk : Outline → Known → Line → SourceExpr → (Expr → Layer) → Found Stmt
counted_walk o k line target layer = place (expr_walk o k target) >>= (λ t. kept mismatch line (counted t (layer t)))

-- A call: `putint` and `free` are statements of their own.
abbrev pub put_walk : Line → List Finding → Found Stmt
put_walk line fs = exprs.put_walk line fs >>= (λ e. Ok (roll-Stmt (Stmt-F.PutInt line e)))

abbrev pub free_walk : Line → List Finding → Found Stmt
free_walk line fs = exprs.free_walk line fs >>= (λ e. Ok (roll-Stmt (Stmt-F.Free line e)))

abbrev pub unused_walk : Outline → Known → Ident → List Finding → Found Stmt
unused_walk o k f fs = exprs.call_walk o k f.line f fs >>= (λ e. Ok (roll-Stmt (Stmt-F.Call f.line e)))

abbrev pub spelled_walk : Outline → Known → Ident → List Finding → Spelling → Found Stmt
spelled_walk o k f fs Spelling.PutInt = put_walk f.line fs
spelled_walk o k f fs Spelling.Free = free_walk f.line fs
spelled_walk o k f fs s = unused_walk o k f fs

abbrev pub call_by : Outline → Known → Ident → List Finding → Option Binding → Found Stmt
call_by o k f fs (Some b) = unused_walk o k f fs
call_by o k f fs None = spelled_walk o k f fs (spelled o f.name)

abbrev pub call_walk : Outline → Known → Ident → List Finding → Found Stmt
call_walk o k f fs = call_by o k f fs (bound k f.name)

abbrev pub simple_walk : Outline → Known → Simple → Found Stmt
simple_walk o k (Simple.Assign line target op v) = assign_walk o k line target op v
simple_walk o k (Simple.Increment line target) = counted_walk o k line target (λ t. Stmt-F.Increment line t)
simple_walk o k (Simple.Decrement line target) = counted_walk o k line target (λ t. Stmt-F.Decrement line t)
simple_walk o k (Simple.PreIncrement line target) = counted_walk o k line target (λ t. Stmt-F.Increment line t)
simple_walk o k (Simple.PreDecrement line target) = counted_walk o k line target (λ t. Stmt-F.Decrement line t)
simple_walk o k (Simple.Call f args) = call_walk o k f (map (expr_walk o k) args)

abbrev pub value_there_walk : Outline → Known → Option SourceExpr → Found (Option Expr)
value_there_walk o k None = Ok None
value_there_walk o k (Some e) = value (expr_walk o k e) >>= (λ v. Ok (Some v))

-- A `return` inside a branch is told before faults of its value, but behind a value of another type.
abbrev pub returned : Line → Bool → Option ObjectType → Found (Option Expr) → Found Stmt
returned line in_branch result (Err e) = elim in_branch [ true ↦ broken escape line | false ↦ Err e ]
returned line in_branch result (Ok v) = kept mismatch line (returns line result v) >>= (λ s. unless_kept (not in_branch) escape line (Ok s))

abbrev pub within_loop : Line → Layer → Around → Found Stmt
within_loop line layer a = unless_kept a.in_loop escape line (Ok (roll-Stmt layer))

abbrev pub in_loop : Around → Around
in_loop a = record { in_loop = true; in_branch = a.in_branch }

abbrev pub in_branch : Around
in_branch = record { in_loop = false; in_branch = true }

-- Blocks.
abbrev pub block_item_walk : Outline → Around → BlockItem (Around → Walk Stmt) → Walk Stmt
block_item_walk o a (BlockItem.Decl d) k = local_decl_walk o d k
block_item_walk o a (BlockItem.Stmt s) k = s a k

abbrev pub items_walk : Outline → Around → List (BlockItem (Around → Walk Stmt)) → Walk (List Stmt)
items_walk o a is k = each one (block_item_walk o a) is k

-- a scope of its own
abbrev pub scoped : {A : Type 0} → Walk A → Walk A
scoped walk k = walk (entered k) >>= (λ s. Ok (s.0, exited s.1))

abbrev pub branch_walk : Outline → Block (Around → Walk Stmt) → Walk (Branch Stmt)
branch_walk o b k = scoped (items_walk o in_branch b.items) k >>= (λ s. Ok (record { body = s.0; close = b.close }, s.1))

abbrev pub branches_walk : Outline → List (Block (Around → Walk Stmt)) → Walk (List (Branch Stmt))
branches_walk o bs k = each one (branch_walk o) bs k

abbrev pub start_walk : Outline → ForStart → Walk Stmt
start_walk o (ForStart.Decl d) k = local_decl_walk o d k
start_walk o (ForStart.Simple None) k = Ok (empty, k)
start_walk o (ForStart.Simple (Some s)) k = same k (simple_walk o k s)

abbrev pub step_walk : Outline → Known → Option Simple → Found Stmt
step_walk o k None = Ok empty
step_walk o k (Some s) = simple_walk o k s

abbrev pub second_walk : Around → Option (Around → Walk Stmt) → Walk (Option Stmt)
second_walk a None k = Ok (None, k)
second_walk a (Some s) k = s a k >>= (λ s. Ok (Some s.0, s.1))

abbrev pub if_walk : Outline → Line → SourceExpr → (Around → Walk Stmt) → Option (Around → Walk Stmt) → Around → Walk Stmt
if_walk o line c first other a k =
    condition_walk o k c
    >>= (λ c. first a k >>= (λ s. second_walk a other s.1 >>= (λ t. Ok (roll-Stmt (Stmt-F.If line c s.0 t.0), t.1))))

abbrev pub while_walk : Outline → Line → SourceExpr → (Around → Walk Stmt) → Around → Walk Stmt
while_walk o line c s a k = condition_walk o k c >>= (λ c. s (in_loop a) k >>= (λ s. Ok (roll-Stmt (Stmt-F.While line c s.0), s.1)))

abbrev pub for_walk : Outline → Line → ForStart → Option SourceExpr → Option Simple → (Around → Walk Stmt) → Around → Walk Stmt
for_walk o line first c last s a k =
    start_walk o first k
    >>= (λ f. condition_there_walk o f.1 c
    >>= (λ c. step_walk o f.1 last
    >>= (λ l. s (in_loop a) f.1 >>= (λ s. Ok (roll-Stmt (Stmt-F.For line f.0 c l s.0), s.1)))))

abbrev pub stmt_walk_step : Outline → Source (Around → Walk Stmt) → Around → Walk Stmt
stmt_walk_step o (Source.Block b) a k = scoped (items_walk o a b.items) k >>= (λ s. Ok (roll-Stmt (Stmt-F.Block s.0), s.1))
stmt_walk_step o (Source.Empty line) a k = Ok (empty, k)
stmt_walk_step o (Source.Simple s) a k = same k (simple_walk o k s)
stmt_walk_step o (Source.Return line v) a k = same k (returned line a.in_branch k.frame.result (value_there_walk o k v))
stmt_walk_step o (Source.Break line) a k = same k (within_loop line (Stmt-F.Break line) a)
stmt_walk_step o (Source.Continue line) a k = same k (within_loop line (Stmt-F.Continue line) a)
stmt_walk_step o (Source.If line c first other) a k = if_walk o line c first other a k
stmt_walk_step o (Source.While line c s) a k = scoped (while_walk o line c s a) k
stmt_walk_step o (Source.For line first c last s) a k = scoped (for_walk o line first c last s a) k
stmt_walk_step o (Source.Par line bs) a k =
    unless_kept (nat_le 2 (length bs) && nat_le (length bs) 15) branches line
    (branches_walk o bs k >>= (λ s. Ok (roll-Stmt (Stmt-F.Par line s.0), s.1)))

unfoldable pub stmt_walk : Outline → SourceStmt → Around → Walk Stmt
stmt_walk o = fold-Stmt (Around → Walk Stmt) (stmt_walk_step o)

-- The same over the statements of the source.
abbrev pub source_item_walk : Outline → Around → BlockItem SourceStmt → Walk Stmt
source_item_walk o a (BlockItem.Decl d) k = local_decl_walk o d k
source_item_walk o a (BlockItem.Stmt s) k = stmt_walk o s a k

abbrev pub source_items_walk : Outline → Around → List (BlockItem SourceStmt) → Walk (List Stmt)
source_items_walk o a is k = each one (source_item_walk o a) is k

abbrev pub source_branch_walk : Outline → Block SourceStmt → Walk (Branch Stmt)
source_branch_walk o b k = scoped (source_items_walk o in_branch b.items) k >>= (λ s. Ok (record { body = s.0; close = b.close }, s.1))

abbrev pub source_branches_walk : Outline → List (Block SourceStmt) → Walk (List (Branch Stmt))
source_branches_walk o bs k = each one (source_branch_walk o) bs k

abbrev pub source_second_walk : Outline → Around → Option SourceStmt → Walk (Option Stmt)
source_second_walk o a None k = Ok (None, k)
source_second_walk o a (Some s) k = stmt_walk o s a k >>= (λ s. Ok (Some s.0, s.1))

abbrev pub source_par_walk : Outline → Line → List (Block SourceStmt) → Walk Stmt
source_par_walk o line bs k =
    unless_kept (nat_le 2 (length bs) && nat_le (length bs) 15) branches line
    (source_branches_walk o bs k >>= (λ s. Ok (roll-Stmt (Stmt-F.Par line s.0), s.1)))

abbrev pub if_rest : Outline → Line → Condition → Stmt → Around → Option SourceStmt → Walk Stmt
if_rest o line c first a other k = source_second_walk o a other k >>= (λ t. Ok (roll-Stmt (Stmt-F.If line c first t.0), t.1))

abbrev pub source_block_walk : Outline → Around → List (BlockItem SourceStmt) → Walk Stmt
source_block_walk o a is k = scoped (source_items_walk o a is) k >>= (λ s. Ok (roll-Stmt (Stmt-F.Block s.0), s.1))
