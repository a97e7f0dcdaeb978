-- Statements within statements. (A tool of proof: no public clause names it.)
use Rattle.std.specs.Prelude.{◌≡◌, ℕ, ◌+◌, ◌<◌, false, List, map, sum, Result, Ok, Err}
use Rattle.c_typed.specs.declared.stmt.Branch.{Branch}
use Rattle.c_typed.specs.declared.stmt.Condition.{Condition}
use Rattle.c_typed.specs.declared.stmt.Stmt.{Stmt}
use Rattle.tac_ir.specs.declared.code.Instr.{Instr}
use Rattle.tac_lower.specs.declared.writer.Writer.{Writer}
use Rattle.tac_lower.specs.declared.writer.Stop.{Stop}
use Rattle.tac_lower.specs.Parts.{Part, in_turn, ◌⨟◌}
use Rattle.tac_lower.specs.Instrs.{skip}
use Rattle.tac_lower.specs.Stmts.{Around, condition, stmt, stop, entries}

-- a condition and what it guards, where the test goes past so many more
abbrev pub guarded : Around → Condition → Stmt → ℕ → Part ℕ
guarded c e first more = condition c e ((stmt c first).points + more) ⨟ stmt c first

-- what stands behind `else`, with the jump past it
abbrev pub skipped : Around → ℕ → Stmt → Part ℕ
skipped c line second = skip line (stmt c second).points ⨟ stmt c second

-- a branch of a `par`, and by its parts
abbrev pub closed : Around → List Stmt → ℕ → Part ℕ
closed c body close = in_turn (map (stmt c) body) ⨟ stop close

abbrev pub branch : Around → Branch Stmt → Part ℕ
branch c b = closed c b.body b.close.0

-- the fork in front of these pieces, where there is room for them (a dry run keeps none)
abbrev pub Forks : List (Part ℕ) → Writer → Result Instr Stop → Type 0
Forks ps w (Ok fork) = w.dry ≡ false → fork ≡ Instr.Fork (w.next.at + 1 + sum (map (λ p. p.points) ps)) (entries (w.next.at + 1) ps)
Forks ps w (Err Stop.Full) = w.room < w.next.at + 1 + sum (map (λ p. p.points) ps)
Forks ps w (Err Stop.Memory) = Unit {0}
