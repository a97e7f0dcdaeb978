-- The knot: a statement within a statement.
use Rattle.std.proofs.Common.{◌≡◌, ℕ, zero, suc, ◌+◌, ◌<◌, ◌≤◌, true, Some, None, [], ◌∷◌, ◌++◌, refl, sym, subst, append_assoc, arith}
use Rattle.dfi_base.specs.declared.numbers.Line.{Line}
use Rattle.c_lex.specs.declared.token.Word.{Word}
use Rattle.c_lex.specs.declared.token.Mark.{Mark}
use Rattle.c_lex.specs.declared.token.Kind.{Kind}
use Rattle.c_ast.specs.declared.stmt.AssignOp.{AssignOp}
use Rattle.c_ast.specs.declared.stmt.Simple.{Simple}
use Rattle.c_ast.specs.declared.stmt.ForStart.{ForStart}
use Rattle.c_ast.specs.declared.stmt.Stmt.{Stmt}
use Rattle.c_ast.specs.declared.stmt.Stmt.TheVariants as s
use Rattle.parse_law.specs.tools.Parsing.{unexpected, fault, deep, refuse}
use Rattle.parse_law.specs.Nesting.{May}
use Rattle.parse_law.proofs.Forms.{Free, Completes, Law}
use Rattle.parse_law.proofs.Bind.{free_last}
use Rattle.parse_law.proofs.Steps.{false_true}
use Rattle.parse_law.proofs.FirstTokens.{level_law}
use Rattle.parse_law.proofs.Repeat.{Takes}
use Rattle.c_parse.specs.Symbol.{Symbol, Symbols, mark}
use Rattle.c_parse.specs.tools.Sorts.{is_stmt, is_operand}
use Rattle.c_parse.specs.tools.Tokens.{P, goes}
use Rattle.c_parse.specs.Stmts.{StmtAt, stmt, StatementAt, braced, empty, simple, return, break, continue, if_alone, while, for, par, block, no_item, no_branch, assign, pre_increment, pre_decrement, OptionalExprAt, OptionalSimpleAt, ForStartAt}
use Rattle.c_parse.specs.tools.ExprParser.{expr_of, entering}
use Rattle.c_parse.specs.tools.StmtParser as spec
use Rattle.c_parse.proofs.TokenParts.{line_one}
use Rattle.c_parse.proofs.LevelLaws.{zero_unary, zero_expr, zero_symbol, zero_tree}
use Rattle.c_parse.proofs.OperandForms.{Subjects, takes_entering, takes_refuse}
use Rattle.c_parse.proofs.SubjectLaws.{Then, entering_law, subject_one}
use Rattle.c_parse.proofs.SimpleLaws.{entered_unary}
use Rattle.c_parse.proofs.StmtForms.{AfterStmt, Stmts, Statements, statement_begins, first_token, after_alone, no_else_there}
use Rattle.c_parse.proofs.StmtLaws.{statement_part, takes_statement}

module _ (limit : ℕ) where
  -- a statement that begins with an operand: `= 0 ;` completes it
  assign_one : (c : ℕ) (k : Kind) (p : Line) → is_operand (Some k) ≡ true → Completes limit (Statements c) AfterStmt [] (record { kind = k; line = p } ∷ [])
  assign_one c k p e =
      let w : Completes limit (Subjects (suc c)) Then [] (record { kind = k; line = p } ∷ []) = subject_one limit (suc c) k p e in
      let end : Symbols = mark Mark.Assign line_one ∷ zero_symbol ∷ mark Mark.Semicolon line_one ∷ [] in
      record {
        tokens = w.tokens ++ end;
        value = s.Simple (Simple.Assign p (expr_of w.value) AssignOp.Plain zero_tree);
        holds = λ M l r free h.
            let t : Symbol = record { kind = k; line = p } in
            let same : (w.tokens ++ end) ++ r ≡ w.tokens ++ (end ++ r) = append_assoc w.tokens end r in
            let free' : Free ((t ∷ []) ++ (w.tokens ++ (end ++ r))) M = subst (λ z. Free ((t ∷ []) ++ z) M) same free in
            let free'' : Free (end ++ r) M = free_last (t ∷ []) w.tokens (end ++ r) M free' in
            subst (λ z. StatementAt M c (t ∷ z) (s.Simple (Simple.Assign p (expr_of w.value) AssignOp.Plain zero_tree)) r) (sym same)
            (simple (assign (entered_unary (free' c _ (omega arith), w.holds M l (end ++ r) free' (refl, refl))) refl (zero_expr (free'' c _ (omega arith)))));
      }

  -- one completion for each first token
  statement_one : (c : ℕ) (k : Kind) (p : Line) → is_stmt (Some k) ≡ true → Completes limit (Statements c) AfterStmt [] (record { kind = k; line = p } ∷ [])
  statement_one c (Kind.Id n) p e = assign_one c (Kind.Id n) p refl
  statement_one c (Kind.Num n) p e = assign_one c (Kind.Num n) p refl
  statement_one c (Kind.Word Word.Null) p e = assign_one c (Kind.Word Word.Null) p refl
  statement_one c (Kind.Word Word.Sizeof) p e = assign_one c (Kind.Word Word.Sizeof) p refl
  statement_one c (Kind.Mark Mark.Minus) p e = assign_one c (Kind.Mark Mark.Minus) p refl
  statement_one c (Kind.Mark Mark.Plus) p e = assign_one c (Kind.Mark Mark.Plus) p refl
  statement_one c (Kind.Mark Mark.Not) p e = assign_one c (Kind.Mark Mark.Not) p refl
  statement_one c (Kind.Mark Mark.Tilde) p e = assign_one c (Kind.Mark Mark.Tilde) p refl
  statement_one c (Kind.Mark Mark.Star) p e = assign_one c (Kind.Mark Mark.Star) p refl
  statement_one c (Kind.Mark Mark.And) p e = assign_one c (Kind.Mark Mark.And) p refl
  statement_one c (Kind.Mark Mark.OpenParen) p e = assign_one c (Kind.Mark Mark.OpenParen) p refl
  statement_one c (Kind.Mark Mark.PlusPlus) p e = record {
    tokens = zero_symbol ∷ mark Mark.Semicolon line_one ∷ [];
    value = s.Simple (Simple.PreIncrement p zero_tree);
    holds = λ M l r free h. simple (pre_increment (zero_unary (free c _ (omega arith))));
  }
  statement_one c (Kind.Mark Mark.MinusMinus) p e = record {
    tokens = zero_symbol ∷ mark Mark.Semicolon line_one ∷ [];
    value = s.Simple (Simple.PreDecrement p zero_tree);
    holds = λ M l r free h. simple (pre_decrement (zero_unary (free c _ (omega arith))));
  }
  statement_one c (Kind.Mark Mark.Semicolon) p e = record { tokens = []; value = s.Empty p; holds = λ M l r free h. empty }
  statement_one c (Kind.Mark Mark.OpenBrace) p e = record {
    tokens = mark Mark.CloseBrace line_one ∷ [];
    value = s.Block (record { line = p; items = []; close = line_one });
    holds = λ M l r free h. braced (block (free c _ (omega arith)) no_item);
  }
  statement_one c (Kind.Word Word.Return) p e = record { tokens = mark Mark.Semicolon line_one ∷ []; value = s.Return p None; holds = λ M l r free h. return OptionalExprAt.none }
  statement_one c (Kind.Word Word.Break) p e = record { tokens = mark Mark.Semicolon line_one ∷ []; value = s.Break p; holds = λ M l r free h. break }
  statement_one c (Kind.Word Word.Continue) p e = record { tokens = mark Mark.Semicolon line_one ∷ []; value = s.Continue p; holds = λ M l r free h. continue }
  statement_one c (Kind.Word Word.If) p e = record {
    tokens = mark Mark.OpenParen line_one ∷ zero_symbol ∷ mark Mark.CloseParen line_one ∷ mark Mark.Semicolon line_one ∷ [];
    value = s.If p zero_tree (s.Empty line_one) None;
    holds = λ M l r free h. if_alone (zero_expr (free c _ (omega arith))) (stmt (free c _ (omega arith)) empty) (no_else_there r (after_alone p zero_tree (s.Empty line_one) r h));
  }
  statement_one c (Kind.Word Word.While) p e = record {
    tokens = mark Mark.OpenParen line_one ∷ zero_symbol ∷ mark Mark.CloseParen line_one ∷ mark Mark.Semicolon line_one ∷ [];
    value = s.While p zero_tree (s.Empty line_one);
    holds = λ M l r free h. while (zero_expr (free c _ (omega arith))) (stmt (free c _ (omega arith)) empty);
  }
  statement_one c (Kind.Word Word.For) p e = record {
    tokens = mark Mark.OpenParen line_one ∷ mark Mark.Semicolon line_one ∷ mark Mark.Semicolon line_one ∷ mark Mark.CloseParen line_one ∷ mark Mark.Semicolon line_one ∷ [];
    value = s.For p (ForStart.Simple None) None None (s.Empty line_one);
    holds = λ M l r free h. for (ForStartAt.simple OptionalSimpleAt.none) OptionalExprAt.none OptionalSimpleAt.none (stmt (free c _ (omega arith)) empty);
  }
  statement_one c (Kind.Word Word.Par) p e = record {
    tokens = mark Mark.OpenBrace line_one ∷ mark Mark.CloseBrace line_one ∷ [];
    value = s.Par p [];
    holds = λ M l r free h. par no_branch;
  }
  statement_one c _ p e = absurd (false_true e)

  stmt_back : (c : ℕ) (M : May Symbol) (ts : Symbols) (a : Stmt) (r : Symbols) → StmtAt M c ts a r → M c ts × StatementAt M (suc c) ts a r
  stmt_back c M ts a r (stmt may d) = (may, d)

  enter : (c : ℕ) (q : ℕ → P Stmt) → (c < limit → Law limit (q (suc c)) (Statements (suc c)) AfterStmt)
      → Law limit (entering is_stmt limit c q) (Stmts c) AfterStmt
  enter c q law =
      entering_law is_stmt refl limit c q (Stmts c) AfterStmt
      (level_law limit c (goes is_stmt) q (Stmts c) (Statements (suc c)) AfterStmt (λ M ts a r may d. stmt may d) (stmt_back c)
      (λ M ts a r d. first_token is_stmt refl ts (statement_begins d)) (λ t e. statement_one (suc c) t.kind t.line e) (mark Mark.Semicolon line_one) refl law)

  pub stmt_none : (fuel c : ℕ) → fault unexpected 0 ≡ spec.stmt limit fuel c []
  unfolding spec.stmt
  stmt_none zero c = refl
  stmt_none (suc fuel) c = refl

  -- the law, and that a statement takes a token
  pub record IsKnown (p : P Stmt) (c : ℕ) : Type 1 where
    pub law : Law limit p (Stmts c) AfterStmt
    pub takes : Takes p

  pub stmt_known : (fuel c : ℕ) → limit ≤ c + fuel → IsKnown (spec.stmt limit fuel c) c
  unfolding spec.stmt
  stmt_known zero c top = record {
    law = enter c (λ d. refuse deep) (λ less. absurd (omega arith));
    takes = takes_entering is_stmt limit c (λ d. refuse deep) (takes_refuse deep);
  }
  stmt_known (suc fuel) c top =
      let Good : ℕ → Type 0 = λ d. limit ≤ d + fuel in
      let up : (d e : ℕ) → d ≤ e → Good d → Good e = λ d e l g. omega arith in
      let law : (d : ℕ) → Good d → Law limit (spec.stmt limit fuel d) (Stmts d) AfterStmt = λ d g. (stmt_known fuel d g).law in
      let takes : (d : ℕ) → Good d → Takes (spec.stmt limit fuel d) = λ d g. (stmt_known fuel d g).takes in
      record {
        law = enter c (spec.statement limit (spec.stmt limit fuel)) (λ less. (statement_part limit (spec.stmt limit fuel) (stmt_none fuel) Good up law takes (suc c) (omega arith)).law);
        takes = takes_entering is_stmt limit c (spec.statement limit (spec.stmt limit fuel)) (takes_statement limit (spec.stmt limit fuel) (stmt_none fuel) Good up law takes (suc c) (omega arith));
      }
