-- Numbered sites count up from where they begin.
use Rattle.std.proofs.Common.{◌≡◌, ℕ, zero, suc, ◌+◌, List, [], ◌∷◌, ◌++◌, map, length, Option, Some, None, refl, ap, sym, ◌∙◌, subst, arith}
use Rattle.std.specs.List.{range_with_len}
use Rattle.std.proofs.lemmas.List.FromFn.{length-range_with_len}
use Rattle.dfi_base.specs.declared.numbers.Line.{Line}
use Rattle.c_typed.specs.declared.expr.Expr.{ind-Expr, Expr}
use Rattle.c_typed.specs.declared.expr.Form.{Form, map-Form}
use Rattle.c_typed.specs.declared.expr.Form.TheOpen.{Form-F}
use Rattle.c_typed.specs.declared.stmt.Branch.{Branch}
use Rattle.c_typed.specs.declared.stmt.Condition.{Condition}
use Rattle.c_typed.specs.declared.stmt.Stmt.{ind-Stmt, Stmt, roll-Stmt, map-Stmt}
use Rattle.c_typed.specs.declared.stmt.Stmt.TheOpen.{Stmt-F}
use Rattle.c_typed.specs.declared.program.Function.{Function}
use Rattle.c_typed.specs.Decls.{joined_lists}
use Rattle.c_typed.specs.Sites.{if_there, expr_sites, condition_sites, branch_sites, layer_sites, stmt_sites, function_sites, Sited, in_turn, number_form, expr, expr_there, condition, condition_there, branch, number_layer, stmt, function}
use Rattle.c_typed.proofs.SiteLevels.{with_form, sited_form, mapped, form_roll, expr_is, form_list, list_roll, sites_is, stmt_roll, layer_roll, with_body, branches_of, branches_mapped}

-- Counts.
range_append : (n a b : ℕ) → range_with_len n a ++ range_with_len (n + a) b ≡ range_with_len n (a + b)
range_append n zero b =
    let same : n + 0 ≡ n = omega arith in
    let none : b ≡ 0 + b = omega arith in
    ap (λ m. range_with_len m b) same ∙ ap (range_with_len n) none
range_append n (suc a) b =
    let same : n + suc a ≡ n + 1 + a = omega arith in
    ap (λ m. n ∷ (range_with_len (n + 1) a ++ range_with_len m b)) same ∙ ap (λ xs. n ∷ xs) (range_append (n + 1) a b)
    ∙ ap (range_with_len n) (let whole : suc (a + b) ≡ suc a + b = omega arith in whole)

one_more : (n a : ℕ) → range_with_len n a ++ (n + a) ∷ [] ≡ range_with_len n (suc a)
one_more n a = let same : a + 1 ≡ suc a = omega arith in range_append n a 1 ∙ ap (range_with_len n) same

both : (xs ys : List ℕ) (n a b : ℕ) → xs ≡ range_with_len n a → ys ≡ range_with_len (n + a) b → xs ++ ys ≡ range_with_len n (a + b)
both xs ys n a b is that = ap (λ xs. xs ++ ys) is ∙ ap (λ ys. range_with_len n a ++ ys) that ∙ range_append n a b

-- the numbers in a part, where they begin at n
abbrev pub Counted : {A : Type 0} → (A → List ℕ) → Sited A → Type 0
Counted f p = (n : ℕ) → f (p.from n) ≡ range_with_len n p.count

-- parts in turn
abbrev pub AllCounted : {A : Type 0} → (A → List ℕ) → List (Sited A) → Type 0
AllCounted f [] = Unit {0}
AllCounted f (p ∷ ps) = Counted f p × AllCounted f ps

pub turn_counted : {A : Type 0} (f : A → List ℕ) (ps : List (Sited A)) → AllCounted f ps → (n : ℕ) → joined_lists (map f ((in_turn ps).from n)) ≡ range_with_len n (in_turn ps).count
turn_counted f [] all n = refl
turn_counted f (p ∷ ps) all n =
    both (f (p.from n)) (joined_lists (map f ((in_turn ps).from (n + p.count)))) n p.count (in_turn ps).count (all.0 n) (turn_counted f ps all.1 (n + p.count))

-- Expressions.
abbrev FormCounted : Form → Type 0
FormCounted f = Counted form_list (sited_form f)

abbrev ExprCounted : Expr → Type 0
ExprCounted e = Counted expr_sites (expr e)

abbrev Known : Type 0
Known = (e : Expr) × ExprCounted e

abbrev KnownForm : Type 0
KnownForm = (f : Form) × FormCounted f

abbrev forgotten : Form-F KnownForm Known → Form-F Form Expr
forgotten y = map-Form KnownForm Known Form Expr (λ f. f.0) (λ e. e.0) y

all_known : (es : List Known) → AllCounted expr_sites (map expr (map (λ e. e.0) es))
all_known [] = tt
all_known (e ∷ es) = (e.1, all_known es)

level_counted : (y : Form-F KnownForm Known) → Counted form_list (number_form (mapped (forgotten y)))
level_counted (Form-F.Global k) n = list_roll (Form-F.Global k)
level_counted (Form-F.Local k) n = list_roll (Form-F.Local k)
level_counted (Form-F.Deref e) n = list_roll (Form-F.Deref ((expr e.0).from n)) ∙ e.1 n
level_counted (Form-F.Index e i) n =
    let m = n + (expr e.0).count in
    list_roll (Form-F.Index ((expr e.0).from n) ((expr i.0).from m)) ∙ both _ _ n (expr e.0).count (expr i.0).count (e.1 n) (i.1 m)
level_counted (Form-F.Field e k) n = list_roll (Form-F.Field ((expr e.0).from n) k) ∙ e.1 n
level_counted (Form-F.Arrow e k) n = list_roll (Form-F.Arrow ((expr e.0).from n) k) ∙ e.1 n
level_counted (Form-F.Number k) n = list_roll (Form-F.Number k)
level_counted Form-F.Null n = list_roll Form-F.Null
level_counted (Form-F.Read e) n = list_roll (Form-F.Read ((expr e.0).from n)) ∙ e.1 n
level_counted (Form-F.Decay e) n = list_roll (Form-F.Decay ((expr e.0).from n)) ∙ e.1 n
level_counted (Form-F.Address e) n = list_roll (Form-F.Address ((expr e.0).from n)) ∙ e.1 n
level_counted (Form-F.Prefix op e) n = list_roll (Form-F.Prefix op ((expr e.0).from n)) ∙ e.1 n
level_counted (Form-F.Binary e op f) n =
    let m = n + (expr e.0).count in
    list_roll (Form-F.Binary ((expr e.0).from n) op ((expr f.0).from m)) ∙ both _ _ n (expr e.0).count (expr f.0).count (e.1 n) (f.1 m)
level_counted (Form-F.Call k es) n =
    let ps = map expr (map (λ e. e.0) es) in
    list_roll (Form-F.Call k ((in_turn ps).from n)) ∙ turn_counted expr_sites ps (all_known es) n
level_counted Form-F.GetInt n = list_roll Form-F.GetInt
level_counted Form-F.Left n = list_roll Form-F.Left
level_counted (Form-F.New site item None) n = list_roll (Form-F.New (n + 0) item None) ∙ one_more n 0
level_counted (Form-F.New site item (Some e)) n =
    let k = (expr e.0).count in
    list_roll (Form-F.New (n + k) item (Some ((expr e.0).from n))) ∙ ap (λ xs. xs ++ (n + k) ∷ []) (e.1 n) ∙ one_more n k

pub expr_counted : (e : Expr) → ExprCounted e
expr_counted = ind-Expr FormCounted ExprCounted
    (λ x y is. subst (λ p. Counted form_list p) (sym (form_roll x)) (subst (λ x. Counted form_list (number_form (mapped x))) is (level_counted y)))
    (λ x y is. subst (λ x. ExprCounted (record { typing = x.typing; form = x.form })) is
    (subst (λ p. Counted expr_sites p) (sym (expr_is (record { typing = y.typing; form = y.form.0 }))) (λ n. sites_is (with_form y.typing ((sited_form y.form.0).from n)) ∙ y.form.1 n)))

-- Statements.
condition_counted : (d : Condition) → Counted condition_sites (condition d)
condition_counted d n = expr_counted d.value n

guard_counted : (d : Option Condition) → Counted (if_there condition_sites) (condition_there d)
guard_counted None n = refl
guard_counted (Some d) n = condition_counted d n

value_counted : (v : Option Expr) → Counted (if_there expr_sites) (expr_there v)
value_counted None n = refl
value_counted (Some e) n = expr_counted e n

abbrev StmtCounted : Stmt → Type 0
StmtCounted s = Counted stmt_sites (stmt s)

abbrev KnownStmt : Type 0
KnownStmt = (s : Stmt) × StmtCounted s

abbrev first : Stmt-F KnownStmt → Stmt-F Stmt
first y = map-Stmt KnownStmt Stmt (λ s. s.0) y

abbrev sited : Stmt-F Stmt → Sited Stmt
sited x = number_layer (map-Stmt Stmt (Sited Stmt) stmt x)

-- a numbered layer, by its parts
rolled : (x : Stmt-F Stmt) (xs : List ℕ) → layer_sites (map-Stmt Stmt (List ℕ) stmt_sites x) ≡ xs → stmt_sites (roll-Stmt x) ≡ xs
rolled x xs is = layer_roll x ∙ is

all_stmts : (ss : List KnownStmt) → AllCounted stmt_sites (map stmt (map (λ s. s.0) ss))
all_stmts [] = tt
all_stmts (s ∷ ss) = (s.1, all_stmts ss)

abbrev stmts_sites : List Stmt → List ℕ
stmts_sites ss = joined_lists (map stmt_sites ss)

abbrev listed : List (Branch Stmt) → List ℕ
listed bs = joined_lists (map branch_sites (map (with_body stmt_sites) bs))

abbrev block_first : Branch KnownStmt → Branch Stmt
block_first b = record { body = map (λ s. s.0) b.body; close = b.close }

branches_counted : (bs : List (Branch KnownStmt)) (n : ℕ)
    → listed ((in_turn (map branch (map (with_body stmt) (map block_first bs)))).from n) ≡ range_with_len n (in_turn (map branch (map (with_body stmt) (map block_first bs)))).count
branches_counted [] n = refl
branches_counted (b ∷ bs) n =
    let ps = map stmt (map (λ s. s.0) b.body) in
    let rest = in_turn (map branch (map (with_body stmt) (map block_first bs))) in
    both (stmts_sites ((in_turn ps).from n)) (listed (rest.from (n + (in_turn ps).count))) n (in_turn ps).count rest.count
    (turn_counted stmt_sites ps (all_stmts b.body) n) (branches_counted bs (n + (in_turn ps).count))

par_sites : (line : Line) (bs : List (Branch Stmt)) → stmt_sites (roll-Stmt (Stmt-F.Par line bs)) ≡ listed bs
par_sites line bs = layer_roll (Stmt-F.Par line bs) ∙ ap (λ ys. joined_lists (map branch_sites ys)) (branches_mapped stmt_sites line bs)

firsts : (line : Line) (bs : List (Branch KnownStmt)) → branches_of (first (Stmt-F.Par line bs)) ≡ map block_first bs
firsts line [] = refl
firsts line (b ∷ bs) = ap (λ ys. block_first b ∷ ys) (firsts line bs)

layer_counted : (y : Stmt-F KnownStmt) → Counted stmt_sites (sited (first y))
layer_counted (Stmt-F.Block ss) n =
    let ps = map stmt (map (λ s. s.0) ss) in
    rolled (Stmt-F.Block ((in_turn ps).from n)) _ (turn_counted stmt_sites ps (all_stmts ss) n)
layer_counted (Stmt-F.Assign line e op v) n =
    let m = n + (expr e).count in
    rolled (Stmt-F.Assign line ((expr e).from n) op ((expr v).from m)) _ (both _ _ n (expr e).count (expr v).count (expr_counted e n) (expr_counted v m))
layer_counted (Stmt-F.Increment line e) n = rolled (Stmt-F.Increment line ((expr e).from n)) _ (expr_counted e n)
layer_counted (Stmt-F.Decrement line e) n = rolled (Stmt-F.Decrement line ((expr e).from n)) _ (expr_counted e n)
layer_counted (Stmt-F.Call line e) n = rolled (Stmt-F.Call line ((expr e).from n)) _ (expr_counted e n)
layer_counted (Stmt-F.PutInt line e) n = rolled (Stmt-F.PutInt line ((expr e).from n)) _ (expr_counted e n)
layer_counted (Stmt-F.Free line e) n = rolled (Stmt-F.Free line ((expr e).from n)) _ (expr_counted e n)
layer_counted (Stmt-F.Return line v) n = rolled (Stmt-F.Return line ((expr_there v).from n)) _ (value_counted v n)
layer_counted (Stmt-F.Break line) n = rolled (Stmt-F.Break line) _ refl
layer_counted (Stmt-F.Continue line) n = rolled (Stmt-F.Continue line) _ refl
layer_counted (Stmt-F.If line d s None) n =
    let c = condition d in
    let k = n + c.count in
    let p = stmt s.0 in
    rolled (Stmt-F.If line (c.from n) (p.from k) None) _ (both _ [] n (c.count + p.count) 0 (both _ _ n c.count p.count (condition_counted d n) (s.1 k)) refl)
layer_counted (Stmt-F.If line d s (Some t)) n =
    let c = condition d in
    let p = stmt s.0 in
    let q = stmt t.0 in
    let k = n + c.count in
    let m = n + (c.count + p.count) in
    rolled (Stmt-F.If line (c.from n) (p.from k) (Some (q.from m))) _
    (both _ _ n (c.count + p.count) q.count (both _ _ n c.count p.count (condition_counted d n) (s.1 k)) (t.1 m))
layer_counted (Stmt-F.While line d s) n =
    let c = condition d in
    let k = n + c.count in
    rolled (Stmt-F.While line (c.from n) ((stmt s.0).from k)) _ (both _ _ n c.count (stmt s.0).count (condition_counted d n) (s.1 k))
layer_counted (Stmt-F.For line start d step body) n =
    let a = stmt start.0 in
    let c = condition_there d in
    let b = stmt body.0 in
    let s = stmt step.0 in
    let i = n + a.count in
    let j = n + (a.count + c.count) in
    let k = n + (a.count + c.count + b.count) in
    rolled (Stmt-F.For line (a.from n) (c.from i) (s.from k) (b.from j)) _
    (both _ _ n (a.count + c.count + b.count) s.count
    (both _ _ n (a.count + c.count) b.count (both _ _ n a.count c.count (start.1 n) (guard_counted d i)) (body.1 j)) (step.1 k))
layer_counted (Stmt-F.Par line bs) n =
    let same = branches_mapped stmt line (branches_of (first (Stmt-F.Par line bs))) ∙ ap (map (with_body stmt)) (firsts line bs) in
    subst (λ ys. stmt_sites (roll-Stmt (Stmt-F.Par line ((in_turn (map branch ys)).from n))) ≡ range_with_len n (in_turn (map branch ys)).count) (sym same)
    (par_sites line ((in_turn (map branch (map (with_body stmt) (map block_first bs)))).from n) ∙ branches_counted bs n)

pub stmt_counted : (s : Stmt) → StmtCounted s
stmt_counted = ind-Stmt StmtCounted (λ x y is. subst (λ x. StmtCounted (roll-Stmt x)) is (subst (λ p. Counted stmt_sites p) (sym (stmt_roll (first y))) (layer_counted y)))

-- Functions.
all_counted : (ss : List Stmt) → AllCounted stmt_sites (map stmt ss)
all_counted [] = tt
all_counted (s ∷ ss) = (stmt_counted s, all_counted ss)

function_counted : (f : Function) → Counted function_sites (function f)
function_counted f n = turn_counted stmt_sites (map stmt f.body) (all_counted f.body) n

functions_counted : (fs : List Function) → AllCounted function_sites (map function fs)
functions_counted [] = tt
functions_counted (f ∷ fs) = (function_counted f, functions_counted fs)

pub numbered_sites : (fs : List Function) → joined_lists (map function_sites ((in_turn (map function fs)).from 0)) ≡ range_with_len 0 (length (joined_lists (map function_sites ((in_turn (map function fs)).from 0))))
numbered_sites fs =
    let all = turn_counted function_sites (map function fs) (functions_counted fs) 0 in
    all ∙ ap (range_with_len 0) (sym (ap length all ∙ length-range_with_len 0 (in_turn (map function fs)).count))
