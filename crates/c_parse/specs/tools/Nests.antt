-- What a form asks of the parser of the operands in it.
use Rattle.std.specs.Prelude.{ℕ, Result}
use Rattle.std.specs.declared.alloc.Global.{Global}
use denote.Ref.{MutBor}
use Rattle.c_ast.specs.declared.stmt.Stmt.{Stmt}
use Rattle.c_parse.specs.declared.cursor.Failure.{Failure}
use Rattle.c_parse.specs.declared.subject.Subject.{Subject}
use Rattle.c_parse.specs.Symbol.{Symbols}
use Rattle.c_parse.specs.tools.ExprParser.{subject}
use Rattle.c_parse.specs.tools.StmtParser.{stmt}
use Rattle.c_parse.specs.tools.Reads.{Reads}
use Rattle.dfi_base.specs.Limits.{nesting_limit}

pub record Nests (fuel : ℕ) (pre : Global → MutBor Symbols → ℕ → ℕ → Type 0)
    (post : Global → MutBor Symbols → ℕ → ℕ → Result Subject Failure → MutBor Symbols → Type 0) : Type 0 where
  pub callable : (alloc : Global) (old : MutBor Symbols) (c : ℕ) → pre alloc old fuel c
  pub reads : (alloc : Global) (old new : MutBor Symbols) (c : ℕ) (r : Result Subject Failure) → post alloc old fuel c r new
      → Reads (subject nesting_limit fuel c old.now) r new.now

-- and of statements
pub record NestsStmts (fuel : ℕ) (pre : Global → MutBor Symbols → ℕ → ℕ → Type 0)
    (post : Global → MutBor Symbols → ℕ → ℕ → Result Stmt Failure → MutBor Symbols → Type 0) : Type 0 where
  pub callable : (alloc : Global) (old : MutBor Symbols) (c : ℕ) → pre alloc old fuel c
  pub reads : (alloc : Global) (old new : MutBor Symbols) (c : ℕ) (r : Result Stmt Failure) → post alloc old fuel c r new
      → Reads (stmt nesting_limit fuel c old.now) r new.now
