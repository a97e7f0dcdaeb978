-- The equations of `stmt`, one for each form.
use Rattle.std.proofs.Common.{◌≡◌, List, [], ◌∷◌, map, Option, Some, None, option_map, refl, ap, sym, ◌∙◌}
use Rattle.dfi_base.specs.declared.numbers.Line.{Line}
use Rattle.c_ast.specs.declared.stmt.AssignOp.{AssignOp}
use Rattle.c_typed.specs.declared.expr.Expr.{Expr}
use Rattle.c_typed.specs.declared.stmt.Branch.{Branch}
use Rattle.c_typed.specs.declared.stmt.Condition.{Condition}
use Rattle.c_typed.specs.declared.stmt.Stmt.{fold-roll-Stmt, Stmt, roll-Stmt, map-Stmt}
use Rattle.c_typed.specs.declared.stmt.Stmt.TheOpen.{Stmt-F}
use Rattle.c_typed.specs.declared.stmt.Stmt.TheVariants as form
use Rattle.src_law.specs.Acts.{an_end, Act, Acts}
use Rattle.src_law.specs.Exprs.{Around}
use Rattle.src_law.specs.Stmts.{stmt, layer, branches, in_turn}
use Rattle.src_meaning.specs.tools.Branches as code

stmt_roll : (c : Around) (x : Stmt-F Stmt) → stmt c (roll-Stmt x) ≡ layer c (map-Stmt Stmt (Act an_end) (stmt c) x)
unfolding stmt
stmt_roll c x = fold-roll-Stmt (Act an_end) (layer c) x

of_form : (c : Around) (s : Stmt) (x : Stmt-F Stmt) (f : Stmt) → s ≡ f → f ≡ roll-Stmt x → stmt c s ≡ layer c (map-Stmt Stmt (Act an_end) (stmt c) x)
of_form c s x f is rolled = ap (stmt c) (is ∙ rolled) ∙ stmt_roll c x

pub block_is : (c : Around) (s : Stmt) (ss : List Stmt) → s ≡ form.Block ss → stmt c s ≡ layer c (Stmt-F.Block (map (stmt c) ss))
block_is c s ss is = of_form c s (Stmt-F.Block ss) _ is (sym (form.rolls-Block ss))

pub assign_is : (c : Around) (s : Stmt) (line : Line) (target : Expr) (op : AssignOp) (v : Expr) → s ≡ form.Assign line target op v → stmt c s ≡ layer c (Stmt-F.Assign line target op v)
assign_is c s line target op v is = of_form c s (Stmt-F.Assign line target op v) _ is (sym (form.rolls-Assign line target op v))

pub increment_is : (c : Around) (s : Stmt) (line : Line) (target : Expr) → s ≡ form.Increment line target → stmt c s ≡ layer c (Stmt-F.Increment line target)
increment_is c s line target is = of_form c s (Stmt-F.Increment line target) _ is (sym (form.rolls-Increment line target))

pub decrement_is : (c : Around) (s : Stmt) (line : Line) (target : Expr) → s ≡ form.Decrement line target → stmt c s ≡ layer c (Stmt-F.Decrement line target)
decrement_is c s line target is = of_form c s (Stmt-F.Decrement line target) _ is (sym (form.rolls-Decrement line target))

pub call_is : (c : Around) (s : Stmt) (line : Line) (e : Expr) → s ≡ form.Call line e → stmt c s ≡ layer c (Stmt-F.Call line e)
call_is c s line e is = of_form c s (Stmt-F.Call line e) _ is (sym (form.rolls-Call line e))

pub putint_is : (c : Around) (s : Stmt) (line : Line) (e : Expr) → s ≡ form.PutInt line e → stmt c s ≡ layer c (Stmt-F.PutInt line e)
putint_is c s line e is = of_form c s (Stmt-F.PutInt line e) _ is (sym (form.rolls-PutInt line e))

pub free_is : (c : Around) (s : Stmt) (line : Line) (e : Expr) → s ≡ form.Free line e → stmt c s ≡ layer c (Stmt-F.Free line e)
free_is c s line e is = of_form c s (Stmt-F.Free line e) _ is (sym (form.rolls-Free line e))

pub return_is : (c : Around) (s : Stmt) (line : Line) (v : Option Expr) → s ≡ form.Return line v → stmt c s ≡ layer c (Stmt-F.Return line v)
return_is c s line v is = of_form c s (Stmt-F.Return line v) _ is (sym (form.rolls-Return line v))

pub break_is : (c : Around) (s : Stmt) (line : Line) → s ≡ form.Break line → stmt c s ≡ layer c (Stmt-F.Break line)
break_is c s line is = of_form c s (Stmt-F.Break line) _ is (sym (form.rolls-Break line))

pub continue_is : (c : Around) (s : Stmt) (line : Line) → s ≡ form.Continue line → stmt c s ≡ layer c (Stmt-F.Continue line)
continue_is c s line is = of_form c s (Stmt-F.Continue line) _ is (sym (form.rolls-Continue line))

pub while_is : (c : Around) (s : Stmt) (line : Line) (d : Condition) (inner : Stmt) → s ≡ form.While line d inner → stmt c s ≡ layer c (Stmt-F.While line d (stmt c inner))
while_is c s line d inner is = of_form c s (Stmt-F.While line d inner) _ is (sym (form.rolls-While line d inner))

pub for_is : (c : Around) (s : Stmt) (line : Line) (start : Stmt) (d : Option Condition) (step : Stmt) (inner : Stmt) → s ≡ form.For line start d step inner → stmt c s ≡ layer c (Stmt-F.For line (stmt c start) d (stmt c step) (stmt c inner))
for_is c s line start d step inner is = of_form c s (Stmt-F.For line start d step inner) _ is (sym (form.rolls-For line start d step inner))

pub if_is : (c : Around) (s : Stmt) (line : Line) (d : Condition) (first : Stmt) (second : Option Stmt) → s ≡ form.If line d first second
    → stmt c s ≡ layer c (Stmt-F.If line d (stmt c first) (option_map (stmt c) second))
if_is c s line d first None is = of_form c s (Stmt-F.If line d first None) _ is (sym (form.rolls-If line d first None))
if_is c s line d first (Some second) is = of_form c s (Stmt-F.If line d first (Some second)) _ is (sym (form.rolls-If line d first (Some second)))

abbrev pub list_of : {A : Type 0} → Stmt-F A → List (Branch A)
list_of (Stmt-F.Par n bs) = bs
list_of _ = []

all_branches : (c : Around) (line : Line) (bs : List (Branch Stmt))
    → branches (list_of (map-Stmt Stmt (Act an_end) (stmt c) (Stmt-F.Par line bs))) ≡ code.branches_of c bs
all_branches c line [] = refl
all_branches c line (b ∷ bs) = ap (λ z. Acts.beside (in_turn (map (stmt c) b.body)) z) (all_branches c line bs)

pub par_is : (c : Around) (s : Stmt) (line : Line) (bs : List (Branch Stmt)) → s ≡ form.Par line bs → stmt c s ≡ Act.forks (code.branches_of c bs)
par_is c s line bs is = of_form c s (Stmt-F.Par line bs) _ is (sym (form.rolls-Par line bs)) ∙ ap Act.forks (all_branches c line bs)
