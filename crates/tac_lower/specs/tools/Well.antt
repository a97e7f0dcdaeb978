-- Parts of a well-formed program with these structs, wherever they stand. (A tool of proof: no public clause names it.)
use Rattle.std.specs.Prelude.{◌≡◌, ℕ, ◌<◌, ◌≤◌, List, [], ◌∷◌, Option, Some, None, All}
use Rattle.c_typed.specs.declared.types.ObjectType.{ObjectType}
use Rattle.c_typed.specs.declared.types.ExprType.{ExprType}
use Rattle.c_typed.specs.declared.expr.Expr.{Expr}
use Rattle.c_typed.specs.declared.stmt.Branch.{Branch}
use Rattle.c_typed.specs.declared.stmt.Condition.{Condition}
use Rattle.c_typed.specs.declared.stmt.Stmt.{Stmt}
use Rattle.c_typed.specs.declared.program.Struct.{Struct}
use Rattle.c_typed.specs.Types.{words_of}
use Rattle.c_typed.specs.Decls.{type_limit}
use Rattle.c_typed.specs.IsWell.{Context, Round, IsExpr, IsStmt}

-- Types: an array has items, and its words are within the limit.
abbrev pub small_by : List ℕ → ObjectType → List ℕ → Type 0
small_by sizes t [] = Unit {0}
small_by sizes t (n ∷ ns) = All (λ n. 0 < n) (n ∷ ns) × (words_of sizes t ≤ type_limit)

abbrev pub IsSmall : List ℕ → ObjectType → Type 0
IsSmall sizes t = small_by sizes t t.lengths

-- of what stands at a place, and of what a pointer points to
abbrev pub IsSmallTyping : List ℕ → ExprType → Type 0
IsSmallTyping sizes (ExprType.Place t) = IsSmall sizes t
IsSmallTyping sizes (ExprType.Pointer t) = IsSmall sizes t
IsSmallTyping sizes _ = Unit {0}

-- Expressions.
pub record WellExpr (structs : List Struct) (e : Expr) : Type 0 where
  pub context : Context
  pub same : context.structs ≡ structs
  pub known : IsExpr context e

abbrev pub WellExprs : List Struct → List Expr → Type 0
WellExprs structs [] = Unit {0}
WellExprs structs (e ∷ es) = WellExpr structs e × WellExprs structs es

abbrev pub WellExprThere : List Struct → Option Expr → Type 0
WellExprThere structs None = Unit {0}
WellExprThere structs (Some e) = WellExpr structs e

abbrev pub WellConditionThere : List Struct → Option Condition → Type 0
WellConditionThere structs None = Unit {0}
WellConditionThere structs (Some d) = WellExpr structs d.value

-- Statements.
pub record WellStmt (structs : List Struct) (s : Stmt) : Type 0 where
  pub context : Context
  pub round : Round
  pub same : context.structs ≡ structs
  pub known : IsStmt context round s

abbrev pub WellStmts : List Struct → List Stmt → Type 0
WellStmts structs [] = Unit {0}
WellStmts structs (s ∷ ss) = WellStmt structs s × WellStmts structs ss

abbrev pub WellBranches : List Struct → List (Branch Stmt) → Type 0
WellBranches structs [] = Unit {0}
WellBranches structs (b ∷ bs) = WellStmts structs b.body × WellBranches structs bs
