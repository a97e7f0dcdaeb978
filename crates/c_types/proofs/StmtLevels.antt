-- The equations of `stmt` at a statement of a form that is known.
use Rattle.std.proofs.Common.{◌≡◌, List, map, Option, Some, None, ap, sym, ◌∙◌}
use Rattle.dfi_base.specs.declared.numbers.Line.{Line}
use Rattle.c_ast.specs.declared.expr.Expr.{Expr as SourceExpr}
use Rattle.c_ast.specs.declared.stmt.Simple.{Simple}
use Rattle.c_ast.specs.declared.stmt.ForStart.{ForStart}
use Rattle.c_ast.specs.declared.stmt.Block.{Block}
use Rattle.c_ast.specs.declared.stmt.Stmt.{roll-Stmt, Stmt as SourceStmt}
use Rattle.c_ast.specs.declared.stmt.Stmt.TheOpen.{Stmt-F as Source}
use Rattle.c_ast.specs.declared.stmt.Stmt.TheVariants as form
use Rattle.c_typed.specs.declared.stmt.Stmt.{Stmt}
use Rattle.c_typed.specs.Whole.{Whole}
use Rattle.c_typed.specs.Parts.{Part}
use Rattle.c_typed.specs.Stmts.{stmt_step, stmt}
use Rattle.c_typed.proofs.Levels.{stmt_roll, stmt_block, stmt_par, with_parts}

pub block_is : (w : Whole) (s : SourceStmt) (b : Block SourceStmt) → s ≡ form.Block b → stmt w s ≡ stmt_step w (Source.Block (with_parts w b))
block_is w s b is = ap (stmt w) (is ∙ sym (form.rolls-Block b)) ∙ stmt_block w b

pub par_is : (w : Whole) (s : SourceStmt) (line : Line) (bs : List (Block SourceStmt)) → s ≡ form.Par line bs → stmt w s ≡ stmt_step w (Source.Par line (map (with_parts w) bs))
par_is w s line bs is = ap (stmt w) (is ∙ sym (form.rolls-Par line bs)) ∙ stmt_par w line bs

pub empty_is : (w : Whole) (s : SourceStmt) (line : Line) → s ≡ form.Empty line → stmt w s ≡ stmt_step w (Source.Empty line)
empty_is w s line is = ap (stmt w) (is ∙ sym (form.rolls-Empty line)) ∙ stmt_roll w (Source.Empty line)

pub simple_is : (w : Whole) (s : SourceStmt) (x : Simple) → s ≡ form.Simple x → stmt w s ≡ stmt_step w (Source.Simple x)
simple_is w s x is = ap (stmt w) (is ∙ sym (form.rolls-Simple x)) ∙ stmt_roll w (Source.Simple x)

pub return_is : (w : Whole) (s : SourceStmt) (line : Line) (v : Option SourceExpr) → s ≡ form.Return line v → stmt w s ≡ stmt_step w (Source.Return line v)
return_is w s line v is = ap (stmt w) (is ∙ sym (form.rolls-Return line v)) ∙ stmt_roll w (Source.Return line v)

pub break_is : (w : Whole) (s : SourceStmt) (line : Line) → s ≡ form.Break line → stmt w s ≡ stmt_step w (Source.Break line)
break_is w s line is = ap (stmt w) (is ∙ sym (form.rolls-Break line)) ∙ stmt_roll w (Source.Break line)

pub continue_is : (w : Whole) (s : SourceStmt) (line : Line) → s ≡ form.Continue line → stmt w s ≡ stmt_step w (Source.Continue line)
continue_is w s line is = ap (stmt w) (is ∙ sym (form.rolls-Continue line)) ∙ stmt_roll w (Source.Continue line)

abbrev pub part_there : Whole → Option SourceStmt → Option (Part Stmt)
part_there w None = None
part_there w (Some s) = Some (stmt w s)

other_mapped : (w : Whole) (line : Line) (c : SourceExpr) (first : SourceStmt) (o : Option SourceStmt)
    → stmt w (roll-Stmt (Source.If line c first o)) ≡ stmt_step w (Source.If line c (stmt w first) (part_there w o))
other_mapped w line c first None = stmt_roll w (Source.If line c first None)
other_mapped w line c first (Some s) = stmt_roll w (Source.If line c first (Some s))

pub if_is : (w : Whole) (s : SourceStmt) (line : Line) (c : SourceExpr) (first : SourceStmt) (o : Option SourceStmt) → s ≡ form.If line c first o
    → stmt w s ≡ stmt_step w (Source.If line c (stmt w first) (part_there w o))
if_is w s line c first o is = ap (stmt w) (is ∙ sym (form.rolls-If line c first o)) ∙ other_mapped w line c first o

pub while_is : (w : Whole) (s : SourceStmt) (line : Line) (c : SourceExpr) (b : SourceStmt) → s ≡ form.While line c b → stmt w s ≡ stmt_step w (Source.While line c (stmt w b))
while_is w s line c b is = ap (stmt w) (is ∙ sym (form.rolls-While line c b)) ∙ stmt_roll w (Source.While line c b)

pub for_is : (w : Whole) (s : SourceStmt) (line : Line) (first : ForStart) (c : Option SourceExpr) (last : Option Simple) (b : SourceStmt) → s ≡ form.For line first c last b
    → stmt w s ≡ stmt_step w (Source.For line first c last (stmt w b))
for_is w s line first c last b is = ap (stmt w) (is ∙ sym (form.rolls-For line first c last b)) ∙ stmt_roll w (Source.For line first c last b)
