-- The code of a statement is steady.
use Rattle.std.proofs.Common.{◌≡◌, ℕ, ◌+◌, ◌≤◌, Bool, true, false, pos, List, [], ◌∷◌, ◌++◌, map, Option, Some, None, refl, ap, sym, ◌∙◌, subst, arith}
use Rattle.dfi_base.specs.declared.numbers.Line.{Line}
use Rattle.c_ast.specs.declared.stmt.AssignOp.{AssignOp}
use Rattle.c_typed.specs.declared.types.ObjectType.{ObjectType}
use Rattle.c_typed.specs.declared.expr.Expr.{Expr}
use Rattle.c_typed.specs.declared.stmt.Branch.{Branch}
use Rattle.c_typed.specs.declared.stmt.Condition.{Condition}
use Rattle.c_typed.specs.declared.stmt.Stmt.{Stmt, out-Stmt, roll-out-Stmt, map-Stmt}
use Rattle.c_typed.specs.declared.stmt.Stmt.TheOpen.{Stmt-F}
use Rattle.c_typed.specs.IsWell.{Context, Round, IsCondition, IsConditionThere, IsReturned, IsStmtLayer, Placed, placed, in_branches, in_branch_of, stmts_of, IsStmt, AreStmts, known, none, each}
use Rattle.c_typed.specs.Elaboration.{update}
use Rattle.tac_lower.specs.Parts.{Part, from_here, within, in_turn, ◌▷◌, ◌⨟◌}
use Rattle.tac_ir.specs.declared.code.Instr.{Instr}
use Rattle.tac_lower.specs.Instrs.{quiet, constant, get, load, set, store, test, skip, jump}
use Rattle.tac_lower.specs.Values.{Yield, Lowered, expr, value, truth, carried}
use Rattle.tac_lower.specs.Stmts.{Around, assigned, updated, compound, is_plain, assignment_by, scalar_at, returned, return, condition, guard, choice, turn, while, for, stop, ended, fork, branches, stmt_step, stmt}
use Rattle.tac_lower.proofs.pieces.Levels.{stmt_roll, branches_of}
use Rattle.tac_lower.proofs.form.Runs.{Steps, steady_more, steps_then, steps_next, steady_given, steady_from_here, steady_within, AllSteps, steps_in_turn}
use Rattle.tac_lower.proofs.form.RunInstrs.{out_steps, free_steps, constant_steps, get_steps, load_steps, set_steps, store_steps, test_steps, skip_steps, jump_steps, last_return_steps, linked_return_steps, turn_steps, end_steps, fork_steps, leaving_steps}
use Rattle.tac_lower.proofs.form.RunExprs.{YieldSteps, onward_steps, ExprSteps, value_steps, truth_steps, carried_steps, expr_steps}

assigned_steps : (line : ℕ) (y : Yield) (v : Part ℕ) → YieldSteps y → Steps 0 v → Steps 0 (assigned line y v)
assigned_steps line y v is that =
    onward_steps 0 y (λ p. v ▷ λ b. set line p b) (λ a. v ▷ λ b. store line a b) is
    (λ p. steps_then 0 v (λ b. set line p b) that (λ k b h up. set_steps k line p b up))
    (λ k a h up. steps_then k v (λ b. store line a b) (steady_more 0 k v h that) (λ j b more left. store_steps j line a b (omega arith) left))

updated_steps : (line : ℕ) (y : Yield) (v : Part ℕ) (op : ℕ → ℕ → Part ℕ) → YieldSteps y → Steps 0 v
    → ((m a b : ℕ) → a ≤ m → b ≤ m → Steps m (op a b)) → Steps 0 (updated line y v op)
updated_steps line y v op is that all =
    onward_steps 0 y (λ p. get line p ▷ λ old. v ▷ λ b. op old b ▷ λ c. set line p c) (λ a. load line a ▷ λ old. v ▷ λ b. op old b ▷ λ c. store line a c) is
    (λ p. steps_then 0 (get line p) (λ old. v ▷ λ b. op old b ▷ λ c. set line p c) (get_steps 0 line p)
    (λ k old h up. steps_then k v (λ b. op old b ▷ λ c. set line p c) (steady_more 0 k v h that)
    (λ j b more left. steps_then j (op old b) (λ c. set line p c) (all j old b (omega arith) left) (λ i c on under. set_steps i line p c under))))
    (λ m a h up. steps_then m (load line a) (λ old. v ▷ λ b. op old b ▷ λ c. store line a c) (load_steps m line a up)
    (λ k old more left. steps_then k v (λ b. op old b ▷ λ c. store line a c) (steady_more 0 k v (omega arith) that)
    (λ j b over below. steps_then j (op old b) (λ c. store line a c) (all j old b (omega arith) below) (λ i c on under. store_steps i line a c (omega arith) under))))

compound_steps : (line : ℕ) (sizes : List ℕ) (op : AssignOp) (e : Lowered) (v : Part ℕ) → ExprSteps e → Steps 0 v → Steps 0 (compound line sizes op e v)
compound_steps line sizes op e v is that =
    updated_steps line (e.yield line) v (carried line (update sizes op (scalar_at e.typing))) (is line) that (λ m a b h up. carried_steps m line (update sizes op (scalar_at e.typing)) a b h up)

assignment_steps : (plain : Bool) (line : ℕ) (sizes : List ℕ) (op : AssignOp) (e : Lowered) (v : Part ℕ) → ExprSteps e → Steps 0 v → Steps 0 (assignment_by plain line sizes op e v)
assignment_steps true line sizes op e v is that = assigned_steps line (e.yield line) v (is line) that
assignment_steps false line sizes op e v is that = compound_steps line sizes op e v is that

pub returned_steps : (m : ℕ) (main : Bool) (line a : ℕ) → a ≤ m → Steps m (returned main line a)
returned_steps m true line a is = last_return_steps m line a is
returned_steps m false line a is = linked_return_steps m line a is

return_none : (a : Around) (line : ℕ) → Steps 0 (return a line None)
return_none a line = steps_then 0 (constant line (pos 0)) (λ t. returned a.in_main line t) (constant_steps 0 line (pos 0)) (λ k t h up. returned_steps k a.in_main line t up)

return_steps : (a : Around) (c : Context) (line : ℕ) (o : Option ObjectType) (v : Option Expr) → IsReturned c o v → Steps 0 (return a line v)
return_steps a c line o None is = return_none a line
return_steps a c line None (Some e) is = absurd is
return_steps a c line (Some t) (Some e) is =
    steps_then 0 (value line (expr a.sizes e)) (λ t. returned a.in_main line t) (value_steps 0 line (expr a.sizes e) (expr_steps c a.sizes is.0)) (λ k t h up. returned_steps k a.in_main line t up)

condition_steps : (a : Around) (c : Context) (d : Condition) (past : ℕ) → IsCondition c d → Steps 0 (condition a d past)
condition_steps a c d past is =
    steps_then 0 (truth d.line.0 (expr a.sizes d.value)) (λ t. test d.line.0 t past) (truth_steps 0 d.line.0 (expr a.sizes d.value) (expr_steps c a.sizes is.value))
    (λ k t h up. test_steps k d.line.0 t past up)

guard_steps : (a : Around) (c : Context) (o : Option Condition) (past : ℕ) → IsConditionThere c o → Steps 0 (guard a o past)
guard_steps a c None past is = steady_given 0 0 (λ k h. omega arith)
guard_steps a c (Some d) past is = condition_steps a c d past is

choice_steps : (line : ℕ) (g : ℕ → Part ℕ) (first : Part ℕ) (second : Part ℕ) → ((past : ℕ) → Steps 0 (g past)) → Steps 0 first → Steps 0 second → Steps 0 (choice line g first (Some second))
choice_steps line g first second is one two =
    steps_next 0 (g (first.points + 1)) (first ⨟ skip line second.points ⨟ second) (is (first.points + 1))
    (steps_next 0 first (skip line second.points ⨟ second) one (steps_next 0 (skip line second.points) second (skip_steps 0 line second.points) two))

while_steps : (line : ℕ) (g : ℕ → Part ℕ) (body : Part ℕ) → ((past : ℕ) → Steps 0 (g past)) → Steps 0 body → Steps 0 (while line g body)
while_steps line g body is that =
    let loop = λ (head at : ℕ). within (record { leave = at + body.points + 1; again = head }) body in
    steady_from_here 0 (λ head. turn line ⨟ g (body.points + 1) ⨟ from_here (loop head) ⨟ jump line head)
    (λ head. steps_next 0 (turn line) (g (body.points + 1) ⨟ from_here (loop head) ⨟ jump line head) (turn_steps 0 line)
    (steps_next 0 (g (body.points + 1)) (from_here (loop head) ⨟ jump line head) (is (body.points + 1))
    (steps_next 0 (from_here (loop head)) (jump line head)
    (steady_from_here 0 (loop head) (λ at. steady_within 0 (record { leave = at + body.points + 1; again = head }) body that)) (jump_steps 0 line head))))

for_steps : (line : ℕ) (g : ℕ → Part ℕ) (step body : Part ℕ) → ((past : ℕ) → Steps 0 (g past)) → Steps 0 step → Steps 0 body → Steps 0 (for line g step body)
for_steps line g step body is last that =
    let loop = λ (at : ℕ). within (record { leave = at + body.points + step.points + 1; again = at + body.points }) body in
    steady_from_here 0 (λ head. turn line ⨟ g (body.points + step.points + 1) ⨟ from_here loop ⨟ step ⨟ jump line head)
    (λ head. steps_next 0 (turn line) (g (body.points + step.points + 1) ⨟ from_here loop ⨟ step ⨟ jump line head) (turn_steps 0 line)
    (steps_next 0 (g (body.points + step.points + 1)) (from_here loop ⨟ step ⨟ jump line head) (is (body.points + step.points + 1))
    (steps_next 0 (from_here loop) (step ⨟ jump line head)
    (steady_from_here 0 loop (λ at. steady_within 0 (record { leave = at + body.points + step.points + 1; again = at + body.points }) body that))
    (steps_next 0 step (jump line head) last (jump_steps 0 line head)))))

branches_steps : (line : ℕ) (ps : List (Part ℕ)) → AllSteps 0 ps → Steps 0 (branches line ps)
branches_steps line ps all = steps_next 0 (fork line ps) (in_turn ps) (fork_steps 0 line _ _) (steps_in_turn 0 ps all)

-- Statements by their parts.
abbrev pub with_body : (Stmt → Part ℕ) → Branch Stmt → Branch (Part ℕ)
with_body f b = record { body = map f b.body; close = b.close }

pub branches_mapped : (f : Stmt → Part ℕ) (line : Line) (bs : List (Branch Stmt)) → branches_of (map-Stmt Stmt (Part ℕ) f (Stmt-F.Par line bs)) ≡ map (with_body f) bs
branches_mapped f line [] = refl
branches_mapped f line (b ∷ bs) = ap (λ ys. with_body f b ∷ ys) (branches_mapped f line bs)

abbrev AreSteps : Around → List Placed → Type 0
AreSteps a [] = Unit {0}
AreSteps a (p ∷ ps) = Steps 0 (stmt a p.1) × AreSteps a ps

block_steps : (a : Around) (r : Round) (ss : List Stmt) → AreSteps a (placed r ss) → AllSteps 0 (map (stmt a) ss)
block_steps a r [] all = tt
block_steps a r (s ∷ ss) all = (all.0, block_steps a r ss all.1)

steps_first : (a : Around) (ps qs : List Placed) → AreSteps a (ps ++ qs) → AreSteps a ps × AreSteps a qs
steps_first a [] qs all = (tt, all)
steps_first a (p ∷ ps) qs all = (let rest = steps_first a ps qs all.1 in ((all.0, rest.0), rest.1))

ended_steps : (a : Around) (bs : List (Branch Stmt)) → AreSteps a (in_branches bs) → AllSteps 0 (map ended (map (with_body (stmt a)) bs))
ended_steps a [] all = tt
ended_steps a (b ∷ bs) all =
    let split = steps_first a (placed in_branch_of b.body) (in_branches bs) all in (
      steps_next 0 (in_turn (map (stmt a) b.body)) (stop b.close.0) (steps_in_turn 0 (map (stmt a) b.body) (block_steps a in_branch_of b.body split.0)) (end_steps 0 b.close.0),
      ended_steps a bs split.1,
    )

level_steps : (a : Around) (c : Context) (r : Round) (x : Stmt-F Stmt) → IsStmtLayer c r x → AreSteps a (stmts_of r x) → Steps 0 (stmt_step a (map-Stmt Stmt (Part ℕ) (stmt a) x))
level_steps a c r (Stmt-F.Block ss) l all = steps_in_turn 0 (map (stmt a) ss) (block_steps a r ss all)
level_steps a c r (Stmt-F.Assign line e op v) l all =
    assignment_steps (is_plain op) line.0 a.sizes op (expr a.sizes e) (value line.0 (expr a.sizes v)) (expr_steps c a.sizes l.0.known) (value_steps 0 line.0 (expr a.sizes v) (expr_steps c a.sizes l.1))
level_steps a c r (Stmt-F.Increment line e) l all = compound_steps line.0 a.sizes AssignOp.Add (expr a.sizes e) (constant line.0 (pos 1)) (expr_steps c a.sizes l.known) (constant_steps 0 line.0 (pos 1))
level_steps a c r (Stmt-F.Decrement line e) l all = compound_steps line.0 a.sizes AssignOp.Sub (expr a.sizes e) (constant line.0 (pos 1)) (expr_steps c a.sizes l.known) (constant_steps 0 line.0 (pos 1))
level_steps a c r (Stmt-F.Call line e) l all = value_steps 0 line.0 (expr a.sizes e) (expr_steps c a.sizes l.0)
level_steps a c r (Stmt-F.PutInt line e) l all =
    steps_then 0 (value line.0 (expr a.sizes e)) (λ a. quiet line.0 (λ at. Instr.Out a)) (value_steps 0 line.0 (expr a.sizes e) (expr_steps c a.sizes l.0)) (λ m a h up. out_steps m line.0 a up)
level_steps a c r (Stmt-F.Free line e) l all =
    steps_then 0 (value line.0 (expr a.sizes e)) (λ a. quiet line.0 (λ at. Instr.Free a)) (value_steps 0 line.0 (expr a.sizes e) (expr_steps c a.sizes l.0)) (λ m a h up. free_steps m line.0 a up)
level_steps a c r (Stmt-F.Return line v) l all = return_steps a c line.0 c.result v l.1
level_steps a c r (Stmt-F.Break line) l all = leaving_steps 0 line.0 (λ ends. ends.leave)
level_steps a c r (Stmt-F.Continue line) l all = leaving_steps 0 line.0 (λ ends. ends.again)
level_steps a c r (Stmt-F.If line d first None) l all =
    steps_next 0 (condition a d (stmt a first).points) (stmt a first) (condition_steps a c d (stmt a first).points l) all.0
level_steps a c r (Stmt-F.If line d first (Some second)) l all =
    choice_steps line.0 (condition a d) (stmt a first) (stmt a second) (λ past. condition_steps a c d past l) all.0 all.1.0
level_steps a c r (Stmt-F.While line d body) l all = while_steps line.0 (condition a d) (stmt a body) (λ past. condition_steps a c d past l) all.0
level_steps a c r (Stmt-F.For line start d step body) l all =
    steps_next 0 (stmt a start) (for line.0 (guard a d) (stmt a step) (stmt a body)) all.0
    (for_steps line.0 (guard a d) (stmt a step) (stmt a body) (λ past. guard_steps a c d past l.0) all.1.0 all.1.1.0)
level_steps a c r (Stmt-F.Par line bs) l all =
    branches_steps line.0 _ (subst (λ ys. AllSteps 0 (map ended ys)) (sym (branches_mapped (stmt a) line bs)) (ended_steps a bs all))

pub stmt_of : (a : Around) (s : Stmt) → stmt a s ≡ stmt_step a (map-Stmt Stmt (Part ℕ) (stmt a) (out-Stmt s))
stmt_of a s = ap (stmt a) (sym (roll-out-Stmt s)) ∙ stmt_roll a (out-Stmt s)

mutual
  pub stmt_steps : (a : Around) (c : Context) {r : Round} {s : Stmt} → IsStmt c r s → Steps 0 (stmt a s)
  stmt_steps a c (known r s l all) = subst (λ p. Steps 0 p) (sym (stmt_of a s)) (level_steps a c r (out-Stmt s) l (are_steps a c all))

  are_steps : (a : Around) (c : Context) {ps : List Placed} → AreStmts c ps → AreSteps a ps
  are_steps a c none = tt
  are_steps a c (each p ps is rest) = (stmt_steps a c is, are_steps a c rest)

pub body_steps : (a : Around) (c : Context) (r : Round) (ss : List Stmt) → AreStmts c (placed r ss) → AllSteps 0 (map (stmt a) ss)
body_steps a c r ss all = block_steps a r ss (are_steps a c all)
