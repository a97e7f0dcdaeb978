-- Statements (C99 6.8, and `par`), one case for each form.
use Rattle.std.specs.Prelude.{ℕ, ◌+◌, pos, Bool, true, false, List, [], ◌∷◌, map, sum, Option, Some, None}
use Rattle.c_ast.specs.declared.stmt.AssignOp.{AssignOp}
use Rattle.c_typed.specs.declared.types.ExprType.{ExprType}
use Rattle.c_typed.specs.declared.program.Struct.{Struct}
use Rattle.c_typed.specs.declared.expr.Expr.{Expr}
use Rattle.c_typed.specs.declared.stmt.Branch.{Branch}
use Rattle.c_typed.specs.declared.stmt.Condition.{Condition}
use Rattle.c_typed.specs.declared.stmt.Stmt.{fold-Stmt, Stmt}
use Rattle.c_typed.specs.declared.stmt.Stmt.TheOpen.{Stmt-F}
use Rattle.c_typed.specs.Elaboration.{object_of, scalar_of, update}
use Rattle.tac_ir.specs.declared.code.Instr.{Instr}
use Rattle.tac_lower.specs.declared.draft.Ends.{Ends}
use Rattle.tac_lower.specs.Parts.{Part, given, from_here, within, in_turn, ◌▷◌, ◌⨟◌}
use Rattle.tac_lower.specs.Instrs.{quiet, constant, get, load, set, store, test, skip, jump, last_return, linked_return}
use Rattle.tac_lower.specs.Values.{Yield, Lowered, onward, expr, value, truth, carried, sizes_in}

-- What a statement's code depends on: the words of each struct, and whether it stands in `main`.
pub record Around : Type 0 where
  pub sizes : List ℕ
  pub in_main : Bool

abbrev pub around_by : List Struct → Bool → Around
around_by structs in_main = record { sizes = sizes_in structs; in_main = in_main }

-- The target's address is found before the value.
abbrev pub assigned : ℕ → Yield → Part ℕ → Part ℕ
assigned line y v = onward (λ p. v ▷ λ b. set line p b) (λ a. v ▷ λ b. store line a b) y

-- A place is found once, and its old value is read before the other operand.
abbrev pub updated : ℕ → Yield → Part ℕ → (ℕ → ℕ → Part ℕ) → Part ℕ
updated line y v op =
    onward (λ p. get line p ▷ λ old. v ▷ λ b. op old b ▷ λ c. set line p c)
    (λ a. load line a ▷ λ old. v ▷ λ b. op old b ▷ λ c. store line a c) y

-- the type of the value at a place
abbrev pub scalar_at : ExprType → ExprType
scalar_at t = scalar_of (object_of t)

abbrev pub compound : ℕ → List ℕ → AssignOp → Lowered → Part ℕ → Part ℕ
compound line sizes op target v = updated line (target.yield line) v (carried line (update sizes op (scalar_at target.typing)))

abbrev pub is_plain : AssignOp → Bool
is_plain AssignOp.Plain = true
is_plain _ = false

abbrev pub assignment_by : Bool → ℕ → List ℕ → AssignOp → Lowered → Part ℕ → Part ℕ
assignment_by true line sizes op target v = assigned line (target.yield line) v
assignment_by false line sizes op target v = compound line sizes op target v

abbrev pub assignment : ℕ → List ℕ → AssignOp → Lowered → Part ℕ → Part ℕ
assignment line sizes op target v = assignment_by (is_plain op) line sizes op target v

-- `putint` and `free`
abbrev pub put : ℕ → Lowered → Part ℕ
put line e = value line e ▷ λ a. quiet line (λ at. Instr.Out a)

abbrev pub freed : ℕ → Lowered → Part ℕ
freed line e = value line e ▷ λ a. quiet line (λ at. Instr.Free a)

-- Returns.
abbrev pub returned : Bool → ℕ → ℕ → Part ℕ
returned true line a = last_return line a
returned false line a = linked_return line a

abbrev pub return : Around → ℕ → Option Expr → Part ℕ
return c line None = constant line (pos 0) ▷ λ a. returned c.in_main line a
return c line (Some e) = value line (expr c.sizes e) ▷ λ a. returned c.in_main line a

-- `break` and `continue` go to the ends of the loop round them.
abbrev pub leaving : ℕ → (Ends → ℕ) → Part ℕ
leaving line end = record { points = 1; make = λ ends n. (jump line (end ends)).make ends n }

-- A condition, and a test that goes on behind it or past so many instructions.
abbrev pub tested : ℕ → Lowered → ℕ → Part ℕ
tested line e past = truth line e ▷ λ a. test line a past

abbrev pub condition : Around → Condition → ℕ → Part ℕ
condition c e past = tested e.line.0 (expr c.sizes e.value) past

-- without a condition there is no test
abbrev pub guard : Around → Option Condition → ℕ → Part ℕ
guard c None past = given 0
guard c (Some e) past = condition c e past

-- Without a second part the test goes past the first; with one the first ends by a jump past the second.
abbrev pub choice : ℕ → (ℕ → Part ℕ) → Part ℕ → Option (Part ℕ) → Part ℕ
choice line guarded first None = guarded first.points ⨟ first
choice line guarded first (Some second) = guarded (first.points + 1) ⨟ first ⨟ skip line second.points ⨟ second

-- Loops. They begin with `turn`; a body knows where the loop ends, and that `continue` goes to the step behind it (a `for`) or to
-- the head (a `while`).
abbrev pub turn : ℕ → Part ℕ
turn line = quiet line (λ at. Instr.Turn)

abbrev pub while : ℕ → (ℕ → Part ℕ) → Part ℕ → Part ℕ
while line guarded body =
    from_here (λ head.
    turn line ⨟ guarded (body.points + 1)
    ⨟ from_here (λ at. within (record { leave = at + body.points + 1; again = head }) body)
    ⨟ jump line head)

abbrev pub for : ℕ → (ℕ → Part ℕ) → Part ℕ → Part ℕ → Part ℕ
for line guarded step body =
    from_here (λ head.
    turn line ⨟ guarded (body.points + step.points + 1)
    ⨟ from_here (λ at. within (record { leave = at + body.points + step.points + 1; again = at + body.points }) body)
    ⨟ step ⨟ jump line head)

-- `par`: the branches, each with its end, stand behind the fork.
abbrev pub stop : ℕ → Part ℕ
stop line = quiet line (λ at. Instr.End)

abbrev pub ended : Branch (Part ℕ) → Part ℕ
ended b = in_turn b.body ⨟ stop b.close.0

abbrev pub entries : ℕ → List (Part ℕ) → List ℕ
entries at [] = []
entries at (p ∷ ps) = at ∷ entries (at + p.points) ps

abbrev pub fork : ℕ → List (Part ℕ) → Part ℕ
fork line ps = quiet line (λ at. Instr.Fork (at + 1 + sum (map (λ p. p.points) ps)) (entries (at + 1) ps))

abbrev pub branches : ℕ → List (Part ℕ) → Part ℕ
branches line ps = fork line ps ⨟ in_turn ps

abbrev pub stmt_step : Around → Stmt-F (Part ℕ) → Part ℕ
stmt_step c (Stmt-F.Block ss) = in_turn ss
stmt_step c (Stmt-F.Assign line target op v) = assignment line.0 c.sizes op (expr c.sizes target) (value line.0 (expr c.sizes v))
stmt_step c (Stmt-F.Increment line target) = compound line.0 c.sizes AssignOp.Add (expr c.sizes target) (constant line.0 (pos 1))
stmt_step c (Stmt-F.Decrement line target) = compound line.0 c.sizes AssignOp.Sub (expr c.sizes target) (constant line.0 (pos 1))
stmt_step c (Stmt-F.Call line e) = value line.0 (expr c.sizes e)
stmt_step c (Stmt-F.PutInt line e) = put line.0 (expr c.sizes e)
stmt_step c (Stmt-F.Free line e) = freed line.0 (expr c.sizes e)
stmt_step c (Stmt-F.Return line v) = return c line.0 v
stmt_step c (Stmt-F.Break line) = leaving line.0 (λ ends. ends.leave)
stmt_step c (Stmt-F.Continue line) = leaving line.0 (λ ends. ends.again)
stmt_step c (Stmt-F.If line e first second) = choice line.0 (condition c e) first second
stmt_step c (Stmt-F.While line e body) = while line.0 (condition c e) body
stmt_step c (Stmt-F.For line start e step body) = start ⨟ for line.0 (guard c e) step body
stmt_step c (Stmt-F.Par line bs) = branches line.0 (map ended bs)

unfoldable pub stmt : Around → Stmt → Part ℕ
stmt c = fold-Stmt (Part ℕ) (stmt_step c)
