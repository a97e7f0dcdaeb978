-- The code of a statement and of a function has as many drafts as it says.
use Rattle.std.proofs.Common.{◌≡◌, ℕ, zero, suc, ◌+◌, Bool, true, false, pos, List, [], ◌∷◌, map, take, Option, Some, None, refl, ap, sym, subst}
use Rattle.dfi_base.specs.declared.numbers.Line.{Line}
use Rattle.c_ast.specs.declared.stmt.AssignOp.{AssignOp}
use Rattle.c_typed.specs.declared.types.ObjectType.{ObjectType}
use Rattle.c_typed.specs.declared.program.Function.{Function}
use Rattle.c_typed.specs.declared.program.Variable.{Variable}
use Rattle.c_typed.specs.declared.expr.Expr.{Expr}
use Rattle.c_typed.specs.declared.stmt.Branch.{Branch}
use Rattle.c_typed.specs.declared.stmt.Condition.{Condition}
use Rattle.c_typed.specs.declared.stmt.Stmt.{ind-Stmt, map-Stmt, roll-Stmt, Stmt}
use Rattle.c_typed.specs.declared.stmt.Stmt.TheOpen.{Stmt-F}
use Rattle.c_typed.specs.Elaboration.{Operation, update}
use Rattle.tac_lower.specs.Parts.{Part, from_here, within, in_turn, ◌▷◌, ◌⨟◌}
use Rattle.tac_ir.specs.declared.code.Instr.{Instr}
use Rattle.tac_lower.specs.Instrs.{quiet, constant, get, load, set, store, test, skip, jump}
use Rattle.tac_lower.specs.Values.{Yield, Lowered, expr, value, truth, carried}
use Rattle.tac_lower.specs.Stmts.{Around, assigned, scalar_at, compound, assignment_by, is_plain, returned, return, condition, guard, choice, turn, while, for, stop, ended, fork, stmt_step, stmt}
use Rattle.tac_lower.specs.Functions.{parameters_from, default, function}
use Rattle.tac_lower.proofs.pieces.Levels.{stmt_roll, items_of, branches_of, first_body}
use Rattle.tac_lower.proofs.emitted.Chains.{carried_counts, returned_counts}
use Rattle.tac_lower.proofs.emitted.Loops.{while_ends, while_body, while_rest, for_ends, for_body, for_rest}
use Rattle.tac_lower.proofs.pieces.Sized.{SizedAs, Sized, sized_chained, sized_next, sized_as, AllSized, sized_in_turn, YieldSized, sized_onward, LoweredSized, value_sized, truth_sized, carried_sized, expr_sized}

assigned_sized : (line : ℕ) (y : Yield) (v : Part ℕ) → YieldSized y → Sized v → Sized (assigned line y v)
assigned_sized line y v is that =
    sized_onward y (λ p. v ▷ λ b. set line p b) (λ a. v ▷ λ b. store line a b) is
    (λ p. sized_chained 0 v (λ b. set line p b) that (λ b ends n. refl)) (λ a. sized_chained 0 v (λ b. store line a b) that (λ b ends n. refl))

-- an operand, an operator and a write
changed_sized : (line : ℕ) (v : Part ℕ) (p : Operation) (w : ℕ → Part ℕ) (a : ℕ) → Sized v → ((c : ℕ) → SizedAs (w 0).points (w c))
    → SizedAs (v ▷ λ b. carried line p 0 b ▷ w).points (v ▷ λ b. carried line p a b ▷ w)
changed_sized line v p w a is that =
    sized_as _ (v ▷ λ b. carried line p a b ▷ w) (ap (λ n. v.points + (n + (w 0).points)) (carried_counts line p a 0 0 0))
    (sized_chained 0 v (λ b. carried line p a b ▷ w) is
    (λ b. sized_as _ (carried line p a b ▷ w) (ap (λ n. n + (w 0).points) (carried_counts line p a b a 0))
    (sized_chained 0 (carried line p a b) w (carried_sized line p a b) that)))

compound_sized : (line : ℕ) (sizes : List ℕ) (op : AssignOp) (e : Lowered) (v : Part ℕ) → LoweredSized e → Sized v → Sized (compound line sizes op e v)
compound_sized line sizes op e v is that =
    let p = update sizes op (scalar_at e.typing) in
    sized_onward (e.yield line) (λ q. get line q ▷ λ old. v ▷ λ b. carried line p old b ▷ λ c. set line q c)
    (λ a. load line a ▷ λ old. v ▷ λ b. carried line p old b ▷ λ c. store line a c) (is line)
    (λ q. sized_chained 0 (get line q) (λ old. v ▷ λ b. carried line p old b ▷ λ c. set line q c) (λ ends n. refl)
    (λ old. changed_sized line v p (λ c. set line q c) old that (λ c ends n. refl)))
    (λ a. sized_chained 0 (load line a) (λ old. v ▷ λ b. carried line p old b ▷ λ c. store line a c) (λ ends n. refl)
    (λ old. changed_sized line v p (λ c. store line a c) old that (λ c ends n. refl)))

assignment_sized : (plain : Bool) (line : ℕ) (sizes : List ℕ) (op : AssignOp) (e : Lowered) (v : Part ℕ) → LoweredSized e → Sized v → Sized (assignment_by plain line sizes op e v)
assignment_sized true line sizes op e v is that = assigned_sized line (e.yield line) v (is line) that
assignment_sized false line sizes op e v is that = compound_sized line sizes op e v is that

returned_sized : (in_main : Bool) (line a : ℕ) → Sized (returned in_main line a)
returned_sized true line a = λ ends n. refl
returned_sized false line a = λ ends n. refl

given_sized : (p : Part ℕ) (in_main : Bool) (line : ℕ) → Sized p → Sized (p ▷ λ a. returned in_main line a)
given_sized p in_main line is =
    sized_chained 0 p (λ a. returned in_main line a) is (λ a. sized_as _ (returned in_main line a) (returned_counts in_main line a) (returned_sized in_main line a))

return_sized : (c : Around) (line : ℕ) (v : Option Expr) → Sized (return c line v)
return_sized c line None = given_sized (constant line (pos 0)) c.in_main line (λ ends n. refl)
return_sized c line (Some e) = given_sized (value line (expr c.sizes e)) c.in_main line (value_sized line (expr c.sizes e) (expr_sized c.sizes e))

condition_sized : (c : Around) (e : Condition) (past : ℕ) → Sized (condition c e past)
condition_sized c e past =
    sized_chained 0 (truth e.line.0 (expr c.sizes e.value)) (λ a. test e.line.0 a past) (truth_sized e.line.0 (expr c.sizes e.value) (expr_sized c.sizes e.value)) (λ a ends n. refl)

guard_sized : (c : Around) (e : Option Condition) (past : ℕ) → Sized (guard c e past)
guard_sized c None past = λ ends n. refl
guard_sized c (Some e) past = condition_sized c e past

when_sized : (c : Around) (line : ℕ) (e : Condition) (first : Part ℕ) → Sized first → Sized (choice line (condition c e) first None)
when_sized c line e first is = sized_next (condition c e first.points) first (condition_sized c e first.points) is

either_sized : (c : Around) (line : ℕ) (e : Condition) (first second : Part ℕ) → Sized first → Sized second → Sized (choice line (condition c e) first (Some second))
either_sized c line e first second is that =
    sized_next (condition c e (first.points + 1)) (first ⨟ skip line second.points ⨟ second) (condition_sized c e (first.points + 1))
    (sized_next first (skip line second.points ⨟ second) is (sized_next (skip line second.points) second (λ ends n. refl) that))

while_sized : (c : Around) (line : ℕ) (e : Condition) (body : Part ℕ) → Sized body → Sized (while line (condition c e) body)
while_sized c line e body is = λ ends n.
    sized_next (turn line) (while_rest line (condition c e) body n.at) (λ ends n. refl)
    (sized_next (condition c e (body.points + 1)) (while_body line body n.at) (condition_sized c e (body.points + 1))
    (sized_next (from_here (λ at. within (while_ends body n.at at) body)) (jump line n.at) (λ ends m. is (while_ends body n.at m.at) m) (λ ends n. refl))) ends n

for_sized : (c : Around) (line : ℕ) (e : Option Condition) (step body : Part ℕ) → Sized step → Sized body → Sized (for line (guard c e) step body)
for_sized c line e step body is that = λ ends n.
    sized_next (turn line) (for_rest line (guard c e) step body n.at) (λ ends n. refl)
    (sized_next (guard c e (body.points + step.points + 1)) (for_body line step body n.at) (guard_sized c e (body.points + step.points + 1))
    (sized_next (from_here (λ at. within (for_ends step body at) body)) (step ⨟ jump line n.at) (λ ends m. that (for_ends step body m.at) m)
    (sized_next step (jump line n.at) is (λ ends n. refl)))) ends n

-- One level, with what is known of each part beside it.
abbrev StmtSized : Around → Stmt → Type 0
StmtSized c s = Sized (stmt c s)

abbrev Known : Around → Type 0
Known c = (s : Stmt) × StmtSized c s

abbrev mapped : (c : Around) → Stmt-F (Known c) → Stmt-F (Part ℕ)
mapped c y = map-Stmt Stmt (Part ℕ) (stmt c) (map-Stmt (Known c) Stmt (λ s. s.0) y)

items_sized : (c : Around) (ss : List (Known c)) → AllSized (items_of (mapped c (Stmt-F.Block ss)))
items_sized c [] = tt
items_sized c (s ∷ ss) = (s.1, items_sized c ss)

body_sized : (c : Around) (line close : Line) (bs : List (Branch (Known c))) (ss : List (Known c))
    → AllSized (first_body (branches_of (mapped c (Stmt-F.Par line (record { body = ss; close = close } ∷ bs)))))
body_sized c line close bs [] = tt
body_sized c line close bs (s ∷ ss) = (s.1, body_sized c line close bs ss)

branches_sized : (c : Around) (line : Line) (bs : List (Branch (Known c))) → AllSized (map ended (branches_of (mapped c (Stmt-F.Par line bs))))
branches_sized c line [] = tt
branches_sized c line (b ∷ bs) =
    let body = first_body (branches_of (mapped c (Stmt-F.Par line (b ∷ bs)))) in
    (sized_next (in_turn body) (stop b.close.0) (sized_in_turn body (body_sized c line b.close bs b.body)) (λ ends n. refl), branches_sized c line bs)

level_sized : (c : Around) (y : Stmt-F (Known c)) → Sized (stmt_step c (mapped c y))
level_sized c (Stmt-F.Block ss) = sized_in_turn (items_of (mapped c (Stmt-F.Block ss))) (items_sized c ss)
level_sized c (Stmt-F.Assign line t op v) =
    assignment_sized (is_plain op) line.0 c.sizes op (expr c.sizes t) (value line.0 (expr c.sizes v)) (expr_sized c.sizes t) (value_sized line.0 (expr c.sizes v) (expr_sized c.sizes v))
level_sized c (Stmt-F.Increment line t) = compound_sized line.0 c.sizes AssignOp.Add (expr c.sizes t) (constant line.0 (pos 1)) (expr_sized c.sizes t) (λ ends n. refl)
level_sized c (Stmt-F.Decrement line t) = compound_sized line.0 c.sizes AssignOp.Sub (expr c.sizes t) (constant line.0 (pos 1)) (expr_sized c.sizes t) (λ ends n. refl)
level_sized c (Stmt-F.Call line e) = value_sized line.0 (expr c.sizes e) (expr_sized c.sizes e)
level_sized c (Stmt-F.PutInt line e) =
    sized_chained 0 (value line.0 (expr c.sizes e)) (λ a. quiet line.0 (λ at. Instr.Out a)) (value_sized line.0 (expr c.sizes e) (expr_sized c.sizes e)) (λ a ends n. refl)
level_sized c (Stmt-F.Free line e) =
    sized_chained 0 (value line.0 (expr c.sizes e)) (λ a. quiet line.0 (λ at. Instr.Free a)) (value_sized line.0 (expr c.sizes e) (expr_sized c.sizes e)) (λ a ends n. refl)
level_sized c (Stmt-F.Return line v) = return_sized c line.0 v
level_sized c (Stmt-F.Break line) = λ ends n. refl
level_sized c (Stmt-F.Continue line) = λ ends n. refl
level_sized c (Stmt-F.If line e first None) = when_sized c line.0 e (stmt c first.0) first.1
level_sized c (Stmt-F.If line e first (Some second)) = either_sized c line.0 e (stmt c first.0) (stmt c second.0) first.1 second.1
level_sized c (Stmt-F.While line e body) = while_sized c line.0 e (stmt c body.0) body.1
level_sized c (Stmt-F.For line start e step body) =
    sized_next (stmt c start.0) (for line.0 (guard c e) (stmt c step.0) (stmt c body.0)) start.1 (for_sized c line.0 e (stmt c step.0) (stmt c body.0) step.1 body.1)
level_sized c (Stmt-F.Par line bs) =
    let ps = map ended (branches_of (mapped c (Stmt-F.Par line bs))) in
    sized_next (fork line.0 ps) (in_turn ps) (λ ends n. refl) (sized_in_turn ps (branches_sized c line bs))

pub stmt_sized : (c : Around) (s : Stmt) → Sized (stmt c s)
stmt_sized c = ind-Stmt (StmtSized c)
    (λ x y is. subst (λ x. StmtSized c (roll-Stmt x)) is (subst (λ p. Sized p) (sym (stmt_roll c (map-Stmt (Known c) Stmt (λ s. s.0) y))) (level_sized c y)))

-- Functions.
pub all_sized : (c : Around) (ss : List Stmt) → AllSized (map (stmt c) ss)
all_sized c [] = tt
all_sized c (s ∷ ss) = (stmt_sized c s, all_sized c ss)

parameters_sized : (k : ℕ) (vs : List Variable) → AllSized (parameters_from k vs)
parameters_sized k [] = tt
parameters_sized k (v ∷ vs) = (λ ends n. refl, parameters_sized (suc k) vs)

default_by_sized : (line stars : ℕ) (t : ObjectType) → t.stars ≡ stars → Sized (default line (Some t))
default_by_sized line zero t is = rw (is) (λ ends n. refl)
default_by_sized line (suc stars) t is = rw (is) (λ ends n. refl)

default_sized : (line : ℕ) (t : Option ObjectType) → Sized (default line t)
default_sized line None = λ ends n. refl
default_sized line (Some t) = default_by_sized line t.stars t refl

pub function_sized : (c : Around) (f : Function) → Sized (function c f)
function_sized c f =
    let ps = parameters_from 0 (take f.parameters f.variables) in
    sized_next (in_turn ps) (in_turn (map (stmt c) f.body) ⨟ default f.close.0 f.result ▷ λ a. returned c.in_main f.close.0 a) (sized_in_turn ps (parameters_sized 0 (take f.parameters f.variables)))
    (sized_next (in_turn (map (stmt c) f.body)) (default f.close.0 f.result ▷ λ a. returned c.in_main f.close.0 a) (sized_in_turn (map (stmt c) f.body) (all_sized c f.body))
    (given_sized (default f.close.0 f.result) c.in_main f.close.0 (default_sized f.close.0 f.result)))
