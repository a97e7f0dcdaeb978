-- The equations of `stmt`, one for each form.
use Rattle.std.proofs.Common.{◌≡◌, ℕ, pos, List, [], ◌∷◌, map, Option, Some, None, option_map, refl, ap, sym, ◌∙◌}
use Rattle.dfi_base.specs.declared.numbers.Line.{Line}
use Rattle.c_ast.specs.declared.stmt.AssignOp.{AssignOp}
use Rattle.c_typed.specs.declared.expr.Expr.{Expr}
use Rattle.c_typed.specs.declared.stmt.Branch.{Branch}
use Rattle.c_typed.specs.declared.stmt.Condition.{Condition}
use Rattle.c_typed.specs.declared.stmt.Stmt.{Stmt, roll-Stmt, map-Stmt}
use Rattle.c_typed.specs.declared.stmt.Stmt.TheOpen.{Stmt-F}
use Rattle.c_typed.specs.declared.stmt.Stmt.TheVariants as form
use Rattle.tac_lower.specs.Parts.{Part, in_turn, ◌⨟◌}
use Rattle.tac_lower.specs.Instrs.{constant}
use Rattle.tac_lower.specs.Values.{expr, value}
use Rattle.tac_lower.specs.Stmts.{Around, stmt, stmt_step, assignment, compound, put, freed, return, leaving, condition, guard, choice, while, for, branches, ended}
use Rattle.tac_lower.specs.tools.Nested.{branch}
use Rattle.tac_lower.proofs.pieces.Levels.{stmt_roll, branches_of}

of_form : (c : Around) (s : Stmt) (x : Stmt-F Stmt) (f : Stmt) → s ≡ f → f ≡ roll-Stmt x → stmt c s ≡ stmt_step c (map-Stmt Stmt (Part ℕ) (stmt c) x)
of_form c s x f is rolled = ap (stmt c) (is ∙ rolled) ∙ stmt_roll c x

pub block_is : (c : Around) (s : Stmt) (ss : List Stmt) → s ≡ form.Block ss → stmt c s ≡ in_turn (map (stmt c) ss)
block_is c s ss is = of_form c s (Stmt-F.Block ss) _ is (sym (form.rolls-Block ss))

pub assign_is : (c : Around) (s : Stmt) (line : Line) (target : Expr) (op : AssignOp) (v : Expr) → s ≡ form.Assign line target op v
    → stmt c s ≡ assignment line.0 c.sizes op (expr c.sizes target) (value line.0 (expr c.sizes v))
assign_is c s line target op v is = of_form c s (Stmt-F.Assign line target op v) _ is (sym (form.rolls-Assign line target op v))

pub increment_is : (c : Around) (s : Stmt) (line : Line) (target : Expr) → s ≡ form.Increment line target
    → stmt c s ≡ compound line.0 c.sizes AssignOp.Add (expr c.sizes target) (constant line.0 (pos 1))
increment_is c s line target is = of_form c s (Stmt-F.Increment line target) _ is (sym (form.rolls-Increment line target))

pub decrement_is : (c : Around) (s : Stmt) (line : Line) (target : Expr) → s ≡ form.Decrement line target
    → stmt c s ≡ compound line.0 c.sizes AssignOp.Sub (expr c.sizes target) (constant line.0 (pos 1))
decrement_is c s line target is = of_form c s (Stmt-F.Decrement line target) _ is (sym (form.rolls-Decrement line target))

pub call_is : (c : Around) (s : Stmt) (line : Line) (e : Expr) → s ≡ form.Call line e → stmt c s ≡ value line.0 (expr c.sizes e)
call_is c s line e is = of_form c s (Stmt-F.Call line e) _ is (sym (form.rolls-Call line e))

pub putint_is : (c : Around) (s : Stmt) (line : Line) (e : Expr) → s ≡ form.PutInt line e → stmt c s ≡ put line.0 (expr c.sizes e)
putint_is c s line e is = of_form c s (Stmt-F.PutInt line e) _ is (sym (form.rolls-PutInt line e))

pub free_is : (c : Around) (s : Stmt) (line : Line) (e : Expr) → s ≡ form.Free line e → stmt c s ≡ freed line.0 (expr c.sizes e)
free_is c s line e is = of_form c s (Stmt-F.Free line e) _ is (sym (form.rolls-Free line e))

pub return_is : (c : Around) (s : Stmt) (line : Line) (v : Option Expr) → s ≡ form.Return line v → stmt c s ≡ return c line.0 v
return_is c s line v is = of_form c s (Stmt-F.Return line v) _ is (sym (form.rolls-Return line v))

pub break_is : (c : Around) (s : Stmt) (line : Line) → s ≡ form.Break line → stmt c s ≡ leaving line.0 (λ ends. ends.leave)
break_is c s line is = of_form c s (Stmt-F.Break line) _ is (sym (form.rolls-Break line))

pub continue_is : (c : Around) (s : Stmt) (line : Line) → s ≡ form.Continue line → stmt c s ≡ leaving line.0 (λ ends. ends.again)
continue_is c s line is = of_form c s (Stmt-F.Continue line) _ is (sym (form.rolls-Continue line))

pub if_is : (c : Around) (s : Stmt) (line : Line) (e : Condition) (first : Stmt) (second : Option Stmt) → s ≡ form.If line e first second
    → stmt c s ≡ choice line.0 (condition c e) (stmt c first) (option_map (stmt c) second)
if_is c s line e first None is = of_form c s (Stmt-F.If line e first None) _ is (sym (form.rolls-If line e first None))
if_is c s line e first (Some second) is = of_form c s (Stmt-F.If line e first (Some second)) _ is (sym (form.rolls-If line e first (Some second)))

pub while_is : (c : Around) (s : Stmt) (line : Line) (e : Condition) (body : Stmt) → s ≡ form.While line e body
    → stmt c s ≡ while line.0 (condition c e) (stmt c body)
while_is c s line e body is = of_form c s (Stmt-F.While line e body) _ is (sym (form.rolls-While line e body))

pub for_is : (c : Around) (s : Stmt) (line : Line) (start : Stmt) (e : Option Condition) (step body : Stmt) → s ≡ form.For line start e step body
    → stmt c s ≡ stmt c start ⨟ for line.0 (guard c e) (stmt c step) (stmt c body)
for_is c s line start e step body is = of_form c s (Stmt-F.For line start e step body) _ is (sym (form.rolls-For line start e step body))

all_branches : (c : Around) (line : Line) (bs : List (Branch Stmt)) → map ended (branches_of (map-Stmt Stmt (Part ℕ) (stmt c) (Stmt-F.Par line bs))) ≡ map (branch c) bs
all_branches c line [] = refl
all_branches c line (b ∷ bs) = ap (λ z. branch c b ∷ z) (all_branches c line bs)

pub par_is : (c : Around) (s : Stmt) (line : Line) (bs : List (Branch Stmt)) → s ≡ form.Par line bs → stmt c s ≡ branches line.0 (map (branch c) bs)
par_is c s line bs is = of_form c s (Stmt-F.Par line bs) _ is (sym (form.rolls-Par line bs)) ∙ ap (branches line.0) (all_branches c line bs)
