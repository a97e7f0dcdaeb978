-- A step into a nested operand or statement.
use Rattle.std.proofs.Common.{◌≡◌, ℕ, zero, suc, ◌+◌, ◌-◌, ◌<◌, ◌≤◌, Bool, true, false, if◌then◌else◌, nat_lt, Option, length, refl, ap, ◌∙◌, arith}
use Rattle.std.proofs.Common.{ltb-false}
use Rattle.c_lex.specs.declared.token.Kind.{Kind}
use Rattle.parse_law.specs.tools.Parsing.{fault, unexpected, deep, refuse, rising}
use Rattle.c_parse.specs.Symbol.{Symbols}
use Rattle.c_parse.specs.tools.Tokens.{P, next, kind_of}
use Rattle.c_parse.specs.tools.Sorts.{is_operand, is_stmt}
use Rattle.c_parse.specs.tools.ExprParser.{entering, unary_of, operand, subject}
use Rattle.c_parse.specs.tools.StmtParser.{statement, stmt}
use Rattle.dfi_base.specs.Limits.{nesting_limit}

below : (m n : ℕ) → m < n → nat_lt m n ≡ true
below m n l = by_test (nat_lt m n) refl
  where
    by_test : (b : Bool) → nat_lt m n ≡ b → nat_lt m n ≡ true
    by_test true e = e
    by_test false e = let h : n ≤ m = ltb-false m n e in absurd (omega arith)

entering_step : {A : Type 0} (begins : Option Kind → Bool) (c : ℕ) (q : ℕ → P A) (ts : Symbols) → begins (kind_of (next ts)) ≡ true
    → c < nesting_limit → entering begins nesting_limit c q ts ≡ q (suc c) ts
entering_step begins c q ts e l =
    ap (λ b. if b then rising nesting_limit c q ts else refuse unexpected ts) e ∙ ap (λ b. if b then q (suc c) ts else fault deep (length ts)) (below c nesting_limit l)

pub subject_step : (fuel c : ℕ) (ts : Symbols) → 0 < fuel → is_operand (kind_of (next ts)) ≡ true → c < nesting_limit
    → subject nesting_limit fuel c ts ≡ operand nesting_limit (unary_of (subject nesting_limit (fuel - 1))) (c + 1) ts
unfolding subject
subject_step zero c ts h e l = absurd (omega arith)
subject_step (suc fuel) c ts h e l =
    entering_step is_operand c (operand nesting_limit (unary_of (subject nesting_limit fuel))) ts e l
    ∙ ap (λ n. operand nesting_limit (unary_of (subject nesting_limit fuel)) n ts) (let i : suc c ≡ c + 1 = omega arith in i)
    ∙ ap (λ n. operand nesting_limit (unary_of (subject nesting_limit n)) (c + 1) ts) (let i : fuel ≡ suc fuel - 1 = omega arith in i)

pub stmt_step : (fuel c : ℕ) (ts : Symbols) → 0 < fuel → is_stmt (kind_of (next ts)) ≡ true → c < nesting_limit
    → stmt nesting_limit fuel c ts ≡ statement nesting_limit (stmt nesting_limit (fuel - 1)) (c + 1) ts
unfolding stmt
stmt_step zero c ts h e l = absurd (omega arith)
stmt_step (suc fuel) c ts h e l =
    entering_step is_stmt c (statement nesting_limit (stmt nesting_limit fuel)) ts e l
    ∙ ap (λ n. statement nesting_limit (stmt nesting_limit fuel) n ts) (let i : suc c ≡ c + 1 = omega arith in i)
    ∙ ap (λ n. statement nesting_limit (stmt nesting_limit n) (c + 1) ts) (let i : fuel ≡ suc fuel - 1 = omega arith in i)
