-- The heap sites in the code of a statement, a function and a program are theirs, in order.
use Rattle.std.proofs.Common.{◌≡◌, ℕ, zero, suc, ◌+◌, Bool, true, false, pos, List, [], ◌∷◌, ◌++◌, map, take, Option, Some, None, refl, sym, ◌∙◌, subst, append_assoc, append-nil}
use Rattle.dfi_base.specs.declared.numbers.Line.{Line}
use Rattle.c_ast.specs.declared.stmt.AssignOp.{AssignOp}
use Rattle.c_typed.specs.declared.types.ObjectType.{ObjectType}
use Rattle.c_typed.specs.declared.program.Function.{Function}
use Rattle.c_typed.specs.declared.program.Variable.{Variable}
use Rattle.c_typed.specs.declared.expr.Expr.{Expr}
use Rattle.c_typed.specs.declared.stmt.Branch.{Branch}
use Rattle.c_typed.specs.declared.stmt.Condition.{Condition}
use Rattle.c_typed.specs.declared.stmt.Stmt.{fold-roll-Stmt, ind-Stmt, map-Stmt, roll-Stmt, Stmt}
use Rattle.c_typed.specs.declared.stmt.Stmt.TheOpen.{Stmt-F}
use Rattle.c_typed.specs.Decls.{joined_lists}
use Rattle.c_typed.specs.Sites.{if_there, expr_sites, condition_sites, branch_sites, layer_sites, stmt_sites, function_sites}
use Rattle.c_typed.specs.Elaboration.{Operation, update}
use Rattle.tac_ir.specs.declared.code.Instr.{Instr}
use Rattle.tac_lower.specs.declared.draft.Numbers.{Numbers}
use Rattle.tac_lower.specs.Parts.{Part, from_here, within, in_turn, ◌▷◌, ◌⨟◌}
use Rattle.tac_lower.specs.Instrs.{quiet, constant, get, load, set, store, test, skip, jump}
use Rattle.tac_lower.specs.Values.{Yield, Lowered, expr, value, truth, carried}
use Rattle.tac_lower.specs.Stmts.{Around, assigned, scalar_at, compound, assignment_by, is_plain, returned, return, condition, guard, choice, turn, while, for, stop, ended, fork, stmt_step, stmt}
use Rattle.tac_lower.specs.Functions.{parameters_from, default, function, no_loop, first_of, around, drafts_from}
use Rattle.tac_lower.specs.CodeOf.{all_of}
use Rattle.tac_lower.proofs.pieces.Levels.{stmt_roll, items_of, branches_of, first_body}
use Rattle.tac_lower.proofs.emitted.Loops.{while_ends, while_body, while_rest, for_ends, for_body, for_rest}
use Rattle.tac_lower.proofs.pieces.Sited.{AreSited, are_append, Sited, sited_chained, sited_as, sited_last, sited_next, AllSited, YieldSited, sited_onward, LoweredSited, value_sited, truth_sited, carried_sited, expr_sited}

pub sited_in_turn : (xss : List (List ℕ)) (ps : List (Part ℕ)) → AllSited xss ps → Sited (joined_lists xss) (in_turn ps)
sited_in_turn [] [] all = λ ends n. (refl, tt)
sited_in_turn (xs ∷ xss) (p ∷ ps) all = sited_next xs (joined_lists xss) p (in_turn ps) all.0 (sited_in_turn xss ps all.1)
sited_in_turn [] (p ∷ ps) all = absurd all
sited_in_turn (xs ∷ xss) [] all = absurd all

assigned_sited : (line : ℕ) (xs ys : List ℕ) (y : Yield) (v : Part ℕ) → YieldSited xs y → Sited ys v → Sited (xs ++ ys) (assigned line y v)
assigned_sited line xs ys y v is that =
    sited_onward xs ys y (λ p. v ▷ λ b. set line p b) (λ a. v ▷ λ b. store line a b) is
    (λ p. sited_last ys 0 v (λ b. set line p b) that (λ b ends n. (refl, (tt, tt)))) (λ a. sited_last ys 0 v (λ b. store line a b) that (λ b ends n. (refl, (tt, tt))))

-- an operand, an operator and a write
changed_sited : (line : ℕ) (ys : List ℕ) (v : Part ℕ) (p : Operation) (w : ℕ → Part ℕ) (a : ℕ) → Sited ys v → ((c : ℕ) → Sited [] (w c)) → Sited ys (v ▷ λ b. carried line p a b ▷ w)
changed_sited line ys v p w a is that =
    sited_last ys 0 v (λ b. carried line p a b ▷ w) is (λ b. sited_last [] 0 (carried line p a b) w (carried_sited line p a b) that)

compound_sited : (line : ℕ) (sizes : List ℕ) (op : AssignOp) (xs ys : List ℕ) (e : Lowered) (v : Part ℕ) → LoweredSited xs e → Sited ys v → Sited (xs ++ ys) (compound line sizes op e v)
compound_sited line sizes op xs ys e v is that =
    let p = update sizes op (scalar_at e.typing) in
    sited_onward xs ys (e.yield line) (λ q. get line q ▷ λ old. v ▷ λ b. carried line p old b ▷ λ c. set line q c)
    (λ a. load line a ▷ λ old. v ▷ λ b. carried line p old b ▷ λ c. store line a c) (is line)
    (λ q. sited_chained [] ys 0 (get line q) (λ old. v ▷ λ b. carried line p old b ▷ λ c. set line q c) (λ ends n. (refl, (tt, tt)))
    (λ old. changed_sited line ys v p (λ c. set line q c) old that (λ c ends n. (refl, (tt, tt)))))
    (λ a. sited_chained [] ys 0 (load line a) (λ old. v ▷ λ b. carried line p old b ▷ λ c. store line a c) (λ ends n. (refl, (tt, tt)))
    (λ old. changed_sited line ys v p (λ c. store line a c) old that (λ c ends n. (refl, (tt, tt)))))

-- `++` and `--`
step_sited : (line : ℕ) (sizes : List ℕ) (op : AssignOp) (e : Expr) → Sited (expr_sites e) (compound line sizes op (expr sizes e) (constant line (pos 1)))
step_sited line sizes op e =
    let p = compound line sizes op (expr sizes e) (constant line (pos 1)) in
    sited_as (expr_sites e ++ []) (expr_sites e) p (append-nil (expr_sites e))
    (compound_sited line sizes op (expr_sites e) [] (expr sizes e) (constant line (pos 1)) (expr_sited sizes e) (λ ends n. (refl, (tt, tt))))

assignment_sited : (plain : Bool) (line : ℕ) (sizes : List ℕ) (op : AssignOp) (xs ys : List ℕ) (e : Lowered) (v : Part ℕ) → LoweredSited xs e → Sited ys v
    → Sited (xs ++ ys) (assignment_by plain line sizes op e v)
assignment_sited true line sizes op xs ys e v is that = assigned_sited line xs ys (e.yield line) v (is line) that
assignment_sited false line sizes op xs ys e v is that = compound_sited line sizes op xs ys e v is that

returned_sited : (in_main : Bool) (line a : ℕ) → Sited [] (returned in_main line a)
returned_sited true line a = λ ends n. (refl, (tt, tt))
returned_sited false line a = λ ends n. (refl, (tt, tt))

given_sited : (xs : List ℕ) (p : Part ℕ) (in_main : Bool) (line : ℕ) → Sited xs p → Sited xs (p ▷ λ a. returned in_main line a)
given_sited xs p in_main line is = sited_last xs 0 p (λ a. returned in_main line a) is (λ a. returned_sited in_main line a)

value_of : (c : Around) (line : ℕ) (e : Expr) → Sited (expr_sites e) (value line (expr c.sizes e))
value_of c line e = value_sited (expr_sites e) line (expr c.sizes e) (expr_sited c.sizes e)

return_sited : (c : Around) (line : ℕ) (v : Option Expr) → Sited (if_there expr_sites v) (return c line v)
return_sited c line None = given_sited [] (constant line (pos 0)) c.in_main line (λ ends n. (refl, (tt, tt)))
return_sited c line (Some e) = given_sited (expr_sites e) (value line (expr c.sizes e)) c.in_main line (value_of c line e)

condition_sited : (c : Around) (d : Condition) (past : ℕ) → Sited (condition_sites d) (condition c d past)
condition_sited c d past =
    sited_last (condition_sites d) 0 (truth d.line.0 (expr c.sizes d.value)) (λ a. test d.line.0 a past) (truth_sited (expr_sites d.value) d.line.0 (expr c.sizes d.value) (expr_sited c.sizes d.value))
    (λ a ends n. (refl, (tt, tt)))

guard_sited : (c : Around) (d : Option Condition) (past : ℕ) → Sited (if_there condition_sites d) (guard c d past)
guard_sited c None past = λ ends n. (refl, tt)
guard_sited c (Some d) past = condition_sited c d past

when_sited : (c : Around) (line : ℕ) (d : Condition) (xs : List ℕ) (first : Part ℕ) → Sited xs first → Sited (condition_sites d ++ xs ++ []) (choice line (condition c d) first None)
when_sited c line d xs first is =
    let p = condition c d first.points ⨟ first in
    sited_as (condition_sites d ++ xs) (condition_sites d ++ xs ++ []) p (sym (append-nil (condition_sites d ++ xs)))
    (sited_next (condition_sites d) xs (condition c d first.points) first (condition_sited c d first.points) is)

either_sited : (c : Around) (line : ℕ) (d : Condition) (xs ys : List ℕ) (first second : Part ℕ) → Sited xs first → Sited ys second
    → Sited (condition_sites d ++ xs ++ ys) (choice line (condition c d) first (Some second))
either_sited c line d xs ys first second is that =
    let rest = first ⨟ skip line second.points ⨟ second in
    sited_as (condition_sites d ++ (xs ++ ys)) (condition_sites d ++ xs ++ ys) (condition c d (first.points + 1) ⨟ rest) (sym (append_assoc (condition_sites d) xs ys))
    (sited_next (condition_sites d) (xs ++ ys) (condition c d (first.points + 1)) rest (condition_sited c d (first.points + 1))
    (sited_next xs ys first (skip line second.points ⨟ second) is (sited_next [] ys (skip line second.points) second (λ ends n. (refl, (tt, tt))) that)))

while_sited : (c : Around) (line : ℕ) (d : Condition) (xs : List ℕ) (body : Part ℕ) → Sited xs body → Sited (condition_sites d ++ xs) (while line (condition c d) body)
while_sited c line d xs body is = λ ends n.
    sited_next [] (condition_sites d ++ xs) (turn line) (while_rest line (condition c d) body n.at) (λ ends n. (refl, (tt, tt)))
    (sited_next (condition_sites d) xs (condition c d (body.points + 1)) (while_body line body n.at) (condition_sited c d (body.points + 1))
    (sited_last xs 0 (from_here (λ at. within (while_ends body n.at at) body)) (λ a. jump line n.at) (λ ends m. is (while_ends body n.at m.at) m) (λ a ends n. (refl, (tt, tt))))) ends n

for_sited : (c : Around) (line : ℕ) (d : Option Condition) (xs ys : List ℕ) (step body : Part ℕ) → Sited xs step → Sited ys body
    → Sited (if_there condition_sites d ++ (ys ++ xs)) (for line (guard c d) step body)
for_sited c line d xs ys step body is that = λ ends n.
    let cs = if_there condition_sites d in
    sited_next [] (cs ++ (ys ++ xs)) (turn line) (for_rest line (guard c d) step body n.at) (λ ends n. (refl, (tt, tt)))
    (sited_next cs (ys ++ xs) (guard c d (body.points + step.points + 1)) (for_body line step body n.at) (guard_sited c d (body.points + step.points + 1))
    (sited_next ys xs (from_here (λ at. within (for_ends step body at) body)) (step ⨟ jump line n.at) (λ ends m. that (for_ends step body m.at) m)
    (sited_last xs 0 step (λ a. jump line n.at) is (λ a ends n. (refl, (tt, tt)))))) ends n

-- One level, with what is known of each part beside it.
abbrev StmtSited : Around → Stmt → Type 0
StmtSited c s = Sited (stmt_sites s) (stmt c s)

abbrev Known : Around → Type 0
Known c = (s : Stmt) × StmtSited c s

abbrev forgotten : (c : Around) → Stmt-F (Known c) → Stmt-F Stmt
forgotten c y = map-Stmt (Known c) Stmt (λ s. s.0) y

abbrev mapped : (c : Around) → Stmt-F (Known c) → Stmt-F (Part ℕ)
mapped c y = map-Stmt Stmt (Part ℕ) (stmt c) (forgotten c y)

abbrev listed : (c : Around) → Stmt-F (Known c) → Stmt-F (List ℕ)
listed c y = map-Stmt Stmt (List ℕ) stmt_sites (forgotten c y)

items_sited : (c : Around) (ss : List (Known c)) → AllSited (items_of (listed c (Stmt-F.Block ss))) (items_of (mapped c (Stmt-F.Block ss)))
items_sited c [] = tt
items_sited c (s ∷ ss) = (s.1, items_sited c ss)

body_sited : (c : Around) (line close : Line) (bs : List (Branch (Known c))) (ss : List (Known c))
    → AllSited (first_body (branches_of (listed c (Stmt-F.Par line (record { body = ss; close = close } ∷ bs)))))
    (first_body (branches_of (mapped c (Stmt-F.Par line (record { body = ss; close = close } ∷ bs)))))
body_sited c line close bs [] = tt
body_sited c line close bs (s ∷ ss) = (s.1, body_sited c line close bs ss)

branches_sited : (c : Around) (line : Line) (bs : List (Branch (Known c)))
    → AllSited (map branch_sites (branches_of (listed c (Stmt-F.Par line bs)))) (map ended (branches_of (mapped c (Stmt-F.Par line bs))))
branches_sited c line [] = tt
branches_sited c line (b ∷ bs) =
    let xss = first_body (branches_of (listed c (Stmt-F.Par line (b ∷ bs)))) in
    let body = first_body (branches_of (mapped c (Stmt-F.Par line (b ∷ bs)))) in
    (sited_last (joined_lists xss) 0 (in_turn body) (λ a. stop b.close.0) (sited_in_turn xss body (body_sited c line b.close bs b.body)) (λ a ends n. (refl, (tt, tt))), branches_sited c line bs)

level_sited : (c : Around) (y : Stmt-F (Known c)) → Sited (layer_sites (listed c y)) (stmt_step c (mapped c y))
level_sited c (Stmt-F.Block ss) = sited_in_turn (items_of (listed c (Stmt-F.Block ss))) (items_of (mapped c (Stmt-F.Block ss))) (items_sited c ss)
level_sited c (Stmt-F.Assign line t op v) =
    assignment_sited (is_plain op) line.0 c.sizes op (expr_sites t) (expr_sites v) (expr c.sizes t) (value line.0 (expr c.sizes v)) (expr_sited c.sizes t) (value_of c line.0 v)
level_sited c (Stmt-F.Increment line t) = step_sited line.0 c.sizes AssignOp.Add t
level_sited c (Stmt-F.Decrement line t) = step_sited line.0 c.sizes AssignOp.Sub t
level_sited c (Stmt-F.Call line e) = value_of c line.0 e
level_sited c (Stmt-F.PutInt line e) = sited_last (expr_sites e) 0 (value line.0 (expr c.sizes e)) (λ a. quiet line.0 (λ at. Instr.Out a)) (value_of c line.0 e) (λ a ends n. (refl, (tt, tt)))
level_sited c (Stmt-F.Free line e) = sited_last (expr_sites e) 0 (value line.0 (expr c.sizes e)) (λ a. quiet line.0 (λ at. Instr.Free a)) (value_of c line.0 e) (λ a ends n. (refl, (tt, tt)))
level_sited c (Stmt-F.Return line v) = return_sited c line.0 v
level_sited c (Stmt-F.Break line) = λ ends n. (refl, (tt, tt))
level_sited c (Stmt-F.Continue line) = λ ends n. (refl, (tt, tt))
level_sited c (Stmt-F.If line d first None) = when_sited c line.0 d (stmt_sites first.0) (stmt c first.0) first.1
level_sited c (Stmt-F.If line d first (Some second)) = either_sited c line.0 d (stmt_sites first.0) (stmt_sites second.0) (stmt c first.0) (stmt c second.0) first.1 second.1
level_sited c (Stmt-F.While line d body) = while_sited c line.0 d (stmt_sites body.0) (stmt c body.0) body.1
level_sited c (Stmt-F.For line start d step body) =
    let ss = stmt_sites start.0 in
    let ds = if_there condition_sites d in
    let bs = stmt_sites body.0 in
    let ts = stmt_sites step.0 in
    let loop = for line.0 (guard c d) (stmt c step.0) (stmt c body.0) in
    sited_as (ss ++ (ds ++ (bs ++ ts))) (ss ++ ds ++ bs ++ ts) (stmt c start.0 ⨟ loop)
    (sym (append_assoc ss ds (bs ++ ts)) ∙ sym (append_assoc (ss ++ ds) bs ts))
    (sited_next ss (ds ++ (bs ++ ts)) (stmt c start.0) loop start.1 (for_sited c line.0 d ts bs (stmt c step.0) (stmt c body.0) step.1 body.1))
level_sited c (Stmt-F.Par line bs) =
    let xss = map branch_sites (branches_of (listed c (Stmt-F.Par line bs))) in
    let ps = map ended (branches_of (mapped c (Stmt-F.Par line bs))) in
    sited_next [] (joined_lists xss) (fork line.0 ps) (in_turn ps) (λ ends n. (refl, (tt, tt))) (sited_in_turn xss ps (branches_sited c line bs))

sites_roll : (x : Stmt-F Stmt) → stmt_sites (roll-Stmt x) ≡ layer_sites (map-Stmt Stmt (List ℕ) stmt_sites x)
unfolding stmt_sites
sites_roll x = fold-roll-Stmt (List ℕ) layer_sites x

pub stmt_sited : (c : Around) (s : Stmt) → Sited (stmt_sites s) (stmt c s)
stmt_sited c = ind-Stmt (StmtSited c)
    (λ x y is. subst (λ x. StmtSited c (roll-Stmt x)) is
    (subst (λ xs. Sited xs (stmt c (roll-Stmt (forgotten c y)))) (sym (sites_roll (forgotten c y))) (subst (λ p. Sited (layer_sites (listed c y)) p) (sym (stmt_roll c (forgotten c y))) (level_sited c y))))

-- Functions.
all_sited : (c : Around) (ss : List Stmt) → AllSited (map stmt_sites ss) (map (stmt c) ss)
all_sited c [] = tt
all_sited c (s ∷ ss) = (stmt_sited c s, all_sited c ss)

parameters_sited : (k : ℕ) (vs : List Variable) → Sited [] (in_turn (parameters_from k vs))
parameters_sited k [] = λ ends n. (refl, tt)
parameters_sited k (v ∷ vs) = λ ends n. (let rest = parameters_sited (suc k) vs ends _ in (rest.0, (tt, rest.1)))

default_by_sited : (line stars : ℕ) (t : ObjectType) → t.stars ≡ stars → Sited [] (default line (Some t))
default_by_sited line zero t is = rw (is) (λ ends n. (refl, (tt, tt)))
default_by_sited line (suc stars) t is = rw (is) (λ ends n. (refl, (tt, tt)))

default_sited : (line : ℕ) (t : Option ObjectType) → Sited [] (default line t)
default_sited line None = λ ends n. (refl, (tt, tt))
default_sited line (Some t) = default_by_sited line t.stars t refl

pub function_sited : (c : Around) (f : Function) → Sited (function_sites f) (function c f)
function_sited c f =
    let ps = parameters_from 0 (take f.parameters f.variables) in
    let body = in_turn (map (stmt c) f.body) in
    let last = default f.close.0 f.result ▷ λ a. returned c.in_main f.close.0 a in
    sited_next [] (function_sites f) (in_turn ps) (body ⨟ last) (parameters_sited 0 (take f.parameters f.variables))
    (sited_last (function_sites f) 0 body (λ a. last) (sited_in_turn (map stmt_sites f.body) (map (stmt c) f.body) (all_sited c f.body))
    (λ a. given_sited [] (default f.close.0 f.result) c.in_main f.close.0 (default_sited f.close.0 f.result)))

-- the sites of all functions
pub program_sited : (sizes : List ℕ) (main k : ℕ) (n : Numbers) (fs : List Function) → AreSited (joined_lists (map function_sites fs)) (all_of (drafts_from sizes main k n fs))
program_sited sizes main k n [] = (refl, tt)
program_sited sizes main k n (f ∷ fs) =
    let made = (function (around sizes main k) f).make no_loop (first_of f n) in
    are_append (function_sites f) (joined_lists (map function_sites fs)) made.drafts (all_of (drafts_from sizes main (suc k) made.next fs))
    (function_sited (around sizes main k) f no_loop (first_of f n)) (program_sited sizes main (suc k) made.next fs)
