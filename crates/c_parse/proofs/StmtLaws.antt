-- Statements are read by their grammar.
use Rattle.std.proofs.Common.{◌≡◌, ℕ, suc, ◌≤◌, Bool, true, false, Some, None, [], ◌∷◌, refl, sym, ap, subst, ◌∙◌, arith}
use Rattle.dfi_base.specs.declared.numbers.Line.{Line}
use Rattle.c_lex.specs.declared.token.Word.{Word}
use Rattle.c_lex.specs.declared.token.Mark.{Mark}
use Rattle.c_ast.specs.declared.expr.Expr.{Expr}
use Rattle.c_ast.specs.declared.stmt.ForStart.{ForStart}
use Rattle.c_ast.specs.declared.stmt.Block.{Block}
use Rattle.c_ast.specs.declared.stmt.BlockItem.{BlockItem}
use Rattle.c_ast.specs.declared.stmt.Stmt.{Stmt}
use Rattle.c_ast.specs.declared.stmt.Stmt.TheVariants as s
use Rattle.parse_law.specs.tools.Parsing.{fault, done, unexpected, and_then, ◌>>=◌, pure}
use Rattle.parse_law.specs.Nesting.{May}
use Rattle.parse_law.proofs.Forms.{Form, Alike, Completes, Done, Judge, Law}
use Rattle.parse_law.proofs.Bind.{Seq, bind_where}
use Rattle.parse_law.proofs.Steps.{Any, fits_any, false_true}
use Rattle.parse_law.proofs.FirstTokens.{level_law}
use Rattle.parse_law.proofs.Repeat.{Takes}
use Rattle.c_parse.specs.declared.sorts.StmtStart.{StmtStart}
use Rattle.c_parse.specs.Symbol.{Symbol, Symbols, word, mark}
use Rattle.c_parse.specs.tools.Sorts.{is_base, stmt_start}
use Rattle.c_parse.specs.tools.Tokens.{P, next, kind_of, want, is_mark, mark_at, word_at, goes}
use Rattle.c_parse.specs.Exprs.{ExprAt}
use Rattle.c_parse.specs.Stmts.{StmtAt, stmt, StatementAt, braced, empty, simple, return, break, continue, if_alone, if_else, while, for, par, block, no_item, no_branch, branch as one_branch}
use Rattle.c_parse.specs.tools.StmtParser as spec
use Rattle.c_parse.proofs.Parts.{Part, Gives, gives, given, gives_part, seq, seq_whole, takes_seq, takes_want, narrow, widen, restate, Branch, branch, refuses, Void, dispatch, dispatch_empty}
use Rattle.c_parse.proofs.TokenParts.{MarkAt, marked, WordAt, worded, mark_any, mark_part, word_any, AnyToken, line_one, Only, only_mark}
use Rattle.c_parse.proofs.Lists.{many_part}
use Rattle.c_parse.proofs.Begins.{Begins}
use Rattle.c_parse.proofs.SubjectLaws.{entering_law}
use Rattle.c_parse.proofs.DeclLaws.{decl_part}
use Rattle.c_parse.proofs.OperandForms.{takes_choose, takes_refuse, takes_entering}
use Rattle.c_parse.proofs.SimpleLaws.{AfterSimple, Simples, simple_part, takes_simple}
use Rattle.c_parse.proofs.OpenIf.{ends_open, open_else, open_while, open_for, closed_before_else}
use Rattle.c_parse.proofs.StmtParts.{simple_then_close, simple_then_semicolon, simple_begins, OptionalExprs, optional_expr_part, OptionalSimples, optional_simple_part, ForStarts, for_start_part, Conditions, condition_part}
use Rattle.c_parse.proofs.StmtForms.{is_else, AfterStmt, Stmts, Statements, Blocks, no_test, simple_stmt, statement_begins, takes_decl, of_stmt, Items, AfterItem, ItemBy, item_to, item_back, item_begins, after_any, items_start, items_more, items_split, ItemLists, branches_start, branches_split, BranchLists, BodyAt, body, Bodies, body_to, body_back, block_to, block_back, body_starts, OtherwiseAt, alone, other, Otherwise, OtherwiseBy, after_alone, no_else_there, otherwise_leads, otherwise_back, otherwise_to, otherwise_only, otherwise_alone}

module _ (limit : ℕ) (inner : ℕ → P Stmt) (none : (c : ℕ) → fault unexpected 0 ≡ inner c []) (Good : ℕ → Type 0) (up : (c d : ℕ) → c ≤ d → Good c → Good d)
    (law : (c : ℕ) → Good c → Law limit (inner c) (Stmts c) AfterStmt)
    (takes : (c : ℕ) → Good c → Takes (inner c)) where
  pub stmt_part : (c : ℕ) → Good c → Part limit (inner c) (Stmts c) AfterStmt AnyToken
  stmt_part c good = record {
    law = law c good;
    leads = λ M ts a r d h. fits_any a ts;
    whole = record { tokens = mark Mark.Semicolon line_one ∷ []; value = s.Empty line_one; holds = λ M l r free h. stmt (free c _ (omega arith)) empty };
  }

  -- ---- items and blocks

  item_branches : (c : ℕ) → Good c → (b : Bool) → Branch limit (spec.item_by limit inner c b) (ItemBy c b) AfterItem AnyToken
  item_branches c good true = branch limit (narrow limit (seq limit (decl_part limit c) (λ d. gives_part limit {F = Any} (BlockItem.Decl d))) (λ i t h. tt))
  item_branches c good false = branch limit (seq limit (stmt_part c good) (λ a. gives_part limit {F = AfterItem} (BlockItem.Stmt a)))

  item_part : (c : ℕ) → Good c → Part limit (spec.item limit inner c) (Items c) AfterItem AnyToken
  unfolding spec.item
  item_part c good =
      dispatch limit (λ t. is_base (kind_of t)) (spec.item_by limit inner c) (ItemBy c) (Items c) AfterItem AnyToken
      (λ M t us. item_to c (is_base (Some t.kind)) M (t ∷ us)) (λ M ts i r d h. item_back c M ts i r d) (item_branches c good)
      (record { tokens = mark Mark.Semicolon line_one ∷ []; value = BlockItem.Stmt (s.Empty line_one); holds = λ M l r free h. of_stmt (stmt (free c _ (omega arith)) empty) })
      (ap (λ o. and_then o (λ a. pure (BlockItem.Stmt a))) (none c)) (λ M i r d h. false_true (item_begins d))

  takes_item : (c : ℕ) → Good c → Takes (spec.item limit inner c)
  unfolding spec.item
  takes_item c good = takes_choose is_base (spec.item_by limit inner c) by
    where
      by : (b : Bool) → Takes (spec.item_by limit inner c b)
      by true = takes_seq limit {G = Any} (takes_decl limit c) (λ d. gives_part limit {F = Any} (BlockItem.Decl d))
      by false = takes_seq limit {G = AfterStmt} (takes c good) (λ a. gives_part limit {F = AfterItem} (BlockItem.Stmt a))

  -- behind the opening brace
  behind_brace : (c : ℕ) → Good c → (l : Line)
      → Part limit (spec.more_block_items limit inner c [] >>= (λ items. want (mark_at Mark.CloseBrace) >>= (λ q. pure {A = Block Stmt} (record { line = l; items = items; close = q }))))
      (Seq (ItemLists c) (λ items. Seq (MarkAt Mark.CloseBrace) (λ p. Gives (record { line = l; items = items; close = p })))) Any AnyToken
  behind_brace c good l =
      widen limit (
      seq limit (many_part limit (goes spec.is_open) (spec.item limit inner c) (Items c) (ItemLists c) AfterItem (Only Mark.CloseBrace) (λ M ts. no_item) (items_more c) (items_split c) (items_start c)
      (only_mark Mark.CloseBrace (λ t. goes spec.is_open t ≡ false) (λ q. refl)) (only_mark Mark.CloseBrace (λ t. (b : BlockItem Stmt) → AfterItem b t) (λ q b. after_any b (mark Mark.CloseBrace q) refl))
      (item_part c good).law (takes_item c good))
      (λ items. seq limit (mark_part limit Mark.CloseBrace (λ q. refl)) (λ q. gives_part limit (record { line = l; items = items; close = q })))) (λ t h. tt)

  body_part : (c : ℕ) → Good c → Part limit (spec.block_body limit inner c) (Bodies c) Any AnyToken
  unfolding spec.block_body
  body_part c good =
      restate limit (Bodies c) Any AnyToken (seq limit (mark_any limit Mark.OpenBrace) (behind_brace c good))
      (body_to c) (λ M ts b r d h. body_back c M ts b r d) (λ b t h. h) (λ t h. h)

  body_one : (c : ℕ) (t : Symbol) → goes (is_mark Mark.OpenBrace) t ≡ true → Completes limit (Bodies c) Any [] (t ∷ [])
  body_one c t e = record {
    tokens = mark Mark.CloseBrace line_one ∷ [];
    value = record { line = t.line; items = []; close = line_one };
    holds = λ M l r free h. only_mark Mark.OpenBrace (λ z. BodyAt M c (z ∷ mark Mark.CloseBrace line_one ∷ r) (record { line = z.line; items = []; close = line_one }) r) (λ p. body no_item) t e;
  }

  pub block_part : (c : ℕ) → Good c → Part limit (spec.block limit inner c) (Blocks c) Any AnyToken
  unfolding spec.block
  block_part c good = record {
    law = entering_law (is_mark Mark.OpenBrace) refl limit c (spec.block_body limit inner) (Blocks c) Any
        (level_law limit c (goes (is_mark Mark.OpenBrace)) (spec.block_body limit inner) (Blocks c) (Bodies (suc c)) Any (block_to c) (block_back c) (body_starts (suc c)) (body_one (suc c))
        (mark Mark.OpenBrace line_one) refl (λ less. (body_part (suc c) (up c (suc c) (omega arith) good)).law));
    leads = λ M ts b r d h. fits_any b ts;
    whole = record {
      tokens = mark Mark.OpenBrace line_one ∷ mark Mark.CloseBrace line_one ∷ [];
      value = record { line = line_one; items = []; close = line_one };
      holds = λ M l r free h. block (free c _ (omega arith)) no_item;
    };
  }

  takes_block : (c : ℕ) → Good c → Takes (spec.block limit inner c)
  unfolding spec.block spec.block_body
  takes_block c good =
      takes_entering (is_mark Mark.OpenBrace) limit c (spec.block_body limit inner) (takes_seq limit (takes_want (mark_at Mark.OpenBrace)) (behind_brace (suc c) (up c (suc c) (omega arith) good)))

  branches_part : (c : ℕ) → Good c → Part limit (spec.more_branches limit inner c []) (BranchLists c) (λ all. Only Mark.CloseBrace) AnyToken
  branches_part c good =
      widen limit (many_part limit (goes spec.is_open) (spec.block limit inner c) (Blocks c) (BranchLists c) Any (Only Mark.CloseBrace) (λ M ts. no_branch) (λ M ts m r b others d ds. one_branch d ds) (branches_split c) (branches_start c)
      (only_mark Mark.CloseBrace (λ t. goes spec.is_open t ≡ false) (λ q. refl)) (λ t h b. tt) (block_part c good).law (takes_block c good)) (λ t h. tt)

  -- ---- an `if`

  otherwise_branches : (l : Line) (c : ℕ) (a : Expr) (x : Stmt) → Good c → (b : Bool)
      → Branch limit (spec.otherwise_by limit inner c l a x b) (OtherwiseBy l c a x b) AfterStmt AnyToken
  otherwise_branches l c a x good true =
      branch limit (seq limit (word_any limit Word.Else) (λ q. widen limit (seq limit (stmt_part c good) (λ y. widen limit (gives_part limit {F = AfterStmt} (s.If l a x (Some y))) (λ t h e. sym (open_else l a x y) ∙ h e))) (λ t h. tt)))
  otherwise_branches l c a x good false = branch limit (widen limit (gives_part limit (s.If l a x None)) (λ t h. tt))

  otherwise_completes : (l : Line) (c : ℕ) (a : Expr) (x : Stmt) → Completes limit (Otherwise l c a x) AfterStmt [] []
  otherwise_completes l c a x = record { tokens = []; value = s.If l a x None; holds = λ M k r free h. alone (no_else_there r (after_alone l a x r h)) }

  otherwise_closed : (l : Line) (c : ℕ) (a : Expr) (x : Stmt) → Good c → ends_open x ≡ false
      → Law limit (spec.otherwise limit inner c l a x) (Otherwise l c a x) AfterStmt
  unfolding spec.otherwise
  otherwise_closed l c a x good closed =
      (dispatch_empty limit (λ t. is_else (kind_of t)) (spec.otherwise_by limit inner c l a x) (OtherwiseBy l c a x) (Otherwise l c a x) AfterStmt AnyToken
      (λ M t us y r. otherwise_to l c a x closed (is_else (Some t.kind)) M t us y r refl) (otherwise_back l c a x) (otherwise_branches l c a x good)
      (s.If l a x None) refl (λ M ts h. alone (no_else_there ts (after_alone l a x ts h))) (λ M y r d h. otherwise_only l c a x M y r d)).law

  -- behind an open statement, where no `else` comes
  otherwise_stops : (l : Line) (c : ℕ) (a : Expr) (x : Stmt) (ts : Symbols) → is_else (kind_of (next ts)) ≡ false
      → spec.otherwise limit inner c l a x ts ≡ done (s.If l a x None) ts
  unfolding spec.otherwise
  otherwise_stops l c a x ts e = ap (λ b. spec.otherwise_by limit inner c l a x b ts) e

  otherwise_open : (l : Line) (c : ℕ) (a : Expr) (x : Stmt) → ends_open x ≡ true → (r : Symbols) → is_else (kind_of (next r)) ≡ false
      → Judge limit (spec.otherwise limit inner c l a x) (Otherwise l c a x) AfterStmt r (spec.otherwise limit inner c l a x r)
  otherwise_open l c a x opens r e =
      let quiet : (us : Symbols) → Alike (AfterStmt (s.If l a x None)) r us → is_else (kind_of (next us)) ≡ false = λ us al. alike_quiet r us e al in
      let j : Done limit (spec.otherwise limit inner c l a x) (Otherwise l c a x) AfterStmt r (s.If l a x None) r = record {
        front = [];
        whole = refl;
        stays = λ us al. otherwise_stops l c a x us (quiet us al);
        derived = λ us al M k. alone (no_else_there us (quiet us al));
        only = λ us al M y m d h. otherwise_alone opens d;
      } in
      subst (Judge limit (spec.otherwise limit inner c l a x) (Otherwise l c a x) AfterStmt r) (sym (otherwise_stops l c a x r e)) j
    where
      alike_quiet : (r us : Symbols) → is_else (kind_of (next r)) ≡ false → Alike (AfterStmt (s.If l a x None)) r us → is_else (kind_of (next us)) ≡ false
      alike_quiet [] us e al = after_alone l a x us al
      alike_quiet (t ∷ r) [] e al = refl
      alike_quiet (t ∷ r) (u ∷ us) e al = subst (λ z. is_else (Some z.kind) ≡ false) al e

  abbrev Closed : Stmt → Symbols → Type 0
  Closed x r = Begins is_else r → ends_open x ≡ false

  otherwise_judge : (l : Line) (c : ℕ) (a : Expr) → Good c → (x : Stmt) (r : Symbols) → Closed x r
      → Judge limit (spec.otherwise limit inner c l a x) (Otherwise l c a x) AfterStmt r (spec.otherwise limit inner c l a x r)
  otherwise_judge l c a good x r h = by_open (ends_open x) refl
    where
      by_open : (b : Bool) → ends_open x ≡ b
          → Judge limit (spec.otherwise limit inner c l a x) (Otherwise l c a x) AfterStmt r (spec.otherwise limit inner c l a x r)
      by_open false e = (otherwise_closed l c a x good e).at r
      by_open true e = otherwise_open l c a x e r (no_test (is_else (kind_of (next r))) (λ f. false_true (sym (h f) ∙ e)))

  then_part : (l : Line) (c : ℕ) (a : Expr) → Good c
      → Part limit (inner c >>= spec.otherwise limit inner c l a) (Seq (Stmts c) (Otherwise l c a)) AfterStmt AnyToken
  then_part l c a good = record {
    law = bind_where limit (inner c) (Stmts c) AfterStmt (spec.otherwise limit inner c l a) (Otherwise l c a) AfterStmt (otherwise_leads l c a) (otherwise_completes l c a)
        Closed (λ ts x r d. closed_before_else d) (law c good) (otherwise_judge l c a good);
    leads = λ M ts y r d h. fits_any y ts;
    whole = seq_whole limit (Stmts c) AfterStmt (Otherwise l c a) AfterStmt (stmt_part c good).whole (otherwise_completes l c a) (otherwise_leads l c a);
  }

  abbrev Ifs : ℕ → Form Symbol Stmt
  Ifs c = Seq (WordAt Word.If) (λ l. Seq (Conditions limit c) (λ a. Seq (Stmts c) (Otherwise l c a)))

  if_part : (c : ℕ) → Good c → Part limit (spec.if_from limit inner c) (Ifs c) AfterStmt AnyToken
  unfolding spec.if_from
  if_part c good = seq limit (word_any limit Word.If) (λ l. seq limit (condition_part limit c) (λ a. then_part l c a good))

  -- ---- loops

  -- a statement that is the end of another
  last_part : (c : ℕ) → Good c → (make : Stmt → Stmt) → ((x : Stmt) → ends_open (make x) ≡ ends_open x)
      → Part limit (inner c >>= (λ x. pure (make x))) (Seq (Stmts c) (λ x. Gives (make x))) AfterStmt AnyToken
  last_part c good make same = seq limit (stmt_part c good) (λ x. widen limit (gives_part limit {F = AfterStmt} (make x)) (λ t h e. sym (same x) ∙ h e))

  abbrev Whiles : ℕ → Form Symbol Stmt
  Whiles c = Seq (WordAt Word.While) (λ l. Seq (Conditions limit c) (λ a. Seq (Stmts c) (λ x. Gives (s.While l a x))))

  while_part : (c : ℕ) → Good c → Part limit (spec.while_from limit inner c) (Whiles c) AfterStmt AnyToken
  unfolding spec.while_from
  while_part c good = seq limit (word_any limit Word.While) (λ l. seq limit (condition_part limit c) (λ a. last_part c good (s.While l a) (open_while l a)))

  abbrev ForRests : ℕ → Line → ForStart → Form Symbol Stmt
  ForRests c l start = Seq (OptionalExprs c) (λ a. Seq (MarkAt Mark.Semicolon) (λ p. Seq (OptionalSimples c) (λ step. Seq (MarkAt Mark.CloseParen) (λ q. Seq (Stmts c) (λ x. Gives (s.For l start a step x))))))

  for_rest_part : (c : ℕ) → Good c → (l : Line) (start : ForStart) → Part limit (spec.for_rest limit inner c l start) (ForRests c l start) AfterStmt AnyToken
  unfolding spec.for_rest
  for_rest_part c good l start =
      seq limit (optional_expr_part limit c) (λ a. seq limit (mark_part limit Mark.Semicolon (λ p. refl)) (λ p.
      widen limit (seq limit (optional_simple_part Mark.CloseParen refl simple_then_close limit c) (λ step. seq limit (mark_part limit Mark.CloseParen (λ q. refl)) (λ q.
      last_part c good (s.For l start a step) (open_for l start a step)))) (λ t h. tt)))

  abbrev Fors : ℕ → Form Symbol Stmt
  Fors c = Seq (WordAt Word.For) (λ l. Seq (MarkAt Mark.OpenParen) (λ p. Seq (ForStarts c) (λ start. ForRests c l start)))

  for_part : (c : ℕ) → Good c → Part limit (spec.for_from limit inner c) (Fors c) AfterStmt AnyToken
  unfolding spec.for_from
  for_part c good = seq limit (word_any limit Word.For) (λ l. seq limit (mark_any limit Mark.OpenParen) (λ p. seq limit (for_start_part limit c) (λ start. for_rest_part c good l start)))

  -- ---- the other statements

  abbrev Pars : ℕ → Form Symbol Stmt
  Pars c = Seq (WordAt Word.Par) (λ l. Seq (MarkAt Mark.OpenBrace) (λ p. Seq (BranchLists c) (λ branches. Seq (MarkAt Mark.CloseBrace) (λ q. Gives (s.Par l branches)))))

  par_part : (c : ℕ) → Good c → Part limit (spec.par_from limit inner c) (Pars c) Any AnyToken
  unfolding spec.par_from
  par_part c good =
      seq limit (word_any limit Word.Par) (λ l. seq limit (mark_any limit Mark.OpenBrace) (λ p. seq limit (branches_part c good) (λ branches. seq limit (mark_part limit Mark.CloseBrace (λ q. refl)) (λ q. gives_part limit (s.Par l branches)))))

  abbrev Returns : ℕ → Form Symbol Stmt
  Returns c = Seq (WordAt Word.Return) (λ l. Seq (OptionalExprs c) (λ a. Seq (MarkAt Mark.Semicolon) (λ q. Gives (s.Return l a))))

  return_part : (c : ℕ) → Part limit (spec.return_from limit inner c) (Returns c) Any AnyToken
  unfolding spec.return_from
  return_part c = seq limit (word_any limit Word.Return) (λ l. seq limit (optional_expr_part limit c) (λ a. seq limit (mark_part limit Mark.Semicolon (λ q. refl)) (λ q. gives_part limit (s.Return l a))))

  abbrev StatementBy : ℕ → StmtStart → Form Symbol Stmt
  StatementBy c StmtStart.Block = Seq (Blocks c) (λ b. Gives (s.Block b))
  StatementBy c StmtStart.Empty = Seq (MarkAt Mark.Semicolon) (λ l. Gives (s.Empty l))
  StatementBy c StmtStart.Return = Returns c
  StatementBy c StmtStart.Break = Seq (WordAt Word.Break) (λ l. Seq (MarkAt Mark.Semicolon) (λ q. Gives (s.Break l)))
  StatementBy c StmtStart.Continue = Seq (WordAt Word.Continue) (λ l. Seq (MarkAt Mark.Semicolon) (λ q. Gives (s.Continue l)))
  StatementBy c StmtStart.If = Ifs c
  StatementBy c StmtStart.While = Whiles c
  StatementBy c StmtStart.For = Fors c
  StatementBy c StmtStart.Par = Pars c
  StatementBy c StmtStart.Simple = Seq (Simples c) (λ a. Seq (MarkAt Mark.Semicolon) (λ q. Gives (s.Simple a)))
  StatementBy c StmtStart.Other = Void

  if_join : {M : May Symbol} {c : ℕ} {l p q : Line} {a : Expr} {ts n : Symbols} {y : Stmt} {w : Symbols} {x : Stmt} {r : Symbols}
      → ExprAt M c ts a (mark Mark.CloseParen q ∷ n) → StmtAt M c n y w
      → OtherwiseAt M l c a y w x r → StatementAt M c (word Word.If l ∷ mark Mark.OpenParen p ∷ ts) x r
  if_join d e (alone h) = if_alone d e h
  if_join d e (other h f) = if_else d e f

  statement_to : (c : ℕ) (k : StmtStart) (M : May Symbol) (ts : Symbols) (x : Stmt) (r : Symbols) → StatementBy c k M ts x r → StatementAt M c ts x r
  statement_to c StmtStart.Block M ts x r (b, m, d, g) = given g (StatementAt M c ts) (braced d)
  statement_to c StmtStart.Empty M ts x r (l, m, marked, g) = given g (StatementAt M c _) empty
  statement_to c StmtStart.Return M ts x r (l, m, worded, (a, n, d, (q, o, marked, g))) = given g (StatementAt M c _) (return d)
  statement_to c StmtStart.Break M ts x r (l, m, worded, (q, n, marked, g)) = given g (StatementAt M c _) break
  statement_to c StmtStart.Continue M ts x r (l, m, worded, (q, n, marked, g)) = given g (StatementAt M c _) continue
  statement_to c StmtStart.If M ts x r (l, m, worded, (a, n, (p, o, marked, (b, u, d, (q, v, marked, gives))), (y, w, e, f))) = if_join d e f
  statement_to c StmtStart.While M ts x r (l, m, worded, (a, n, (p, o, marked, (b, u, d, (q, v, marked, gives))), (y, w, e, g))) = given g (StatementAt M c _) (while d e)
  statement_to c StmtStart.For M ts x r (l, m, worded, (p, n, marked, (start, o, d, (a, u, e, (q, v, marked, (step, w, f, (i, j, marked, (y, k, g, h)))))))) = given h (StatementAt M c _) (for d e f g)
  statement_to c StmtStart.Par M ts x r (l, m, worded, (p, n, marked, (branches, o, d, (q, u, marked, g)))) = given g (StatementAt M c _) (par d)
  statement_to c StmtStart.Simple M ts x r (a, m, d, (q, n, marked, g)) = given g (StatementAt M c ts) (simple d)
  statement_to c StmtStart.Other M ts x r d = absurd d

  statement_back : (c : ℕ) (M : May Symbol) (ts : Symbols) (x : Stmt) (r : Symbols) → StatementAt M c ts x r
      → StatementBy c (stmt_start (kind_of (next ts))) M ts x r
  statement_back c M ts x r (braced (block may d)) = (_, r, block may d, gives)
  statement_back c M ts x r empty = (_, _, marked, gives)
  statement_back c M ts x r (simple {a = a} d) = subst (λ z. StatementBy c z M ts (s.Simple a) r) (sym (simple_stmt (kind_of (next ts)) (simple_begins d))) (a, _, d, (_, r, marked, gives))
  statement_back c M ts x r (return d) = (_, _, worded, (_, _, d, (_, _, marked, gives)))
  statement_back c M ts x r break = (_, _, worded, (_, _, marked, gives))
  statement_back c M ts x r continue = (_, _, worded, (_, _, marked, gives))
  statement_back c M ts x r (if_alone d e h) = (_, _, worded, (_, _, (_, _, marked, (_, _, d, (_, _, marked, gives))), (_, _, e, alone h)))
  statement_back c M ts x r (if_else d e f) = (_, _, worded, (_, _, (_, _, marked, (_, _, d, (_, _, marked, gives))), (_, _, e, other (closed_before_else e refl) f)))
  statement_back c M ts x r (while d e) = (_, _, worded, (_, _, (_, _, marked, (_, _, d, (_, _, marked, gives))), (_, _, e, gives)))
  statement_back c M ts x r (for d e f g) = (_, _, worded, (_, _, marked, (_, _, d, (_, _, e, (_, _, marked, (_, _, f, (_, _, marked, (_, _, g, gives))))))))
  statement_back c M ts x r (par d) = (_, _, worded, (_, _, marked, (_, _, d, (_, _, marked, gives))))

  statement_branches : (c : ℕ) → Good c → (k : StmtStart) → Branch limit (spec.statement_by limit inner c k) (StatementBy c k) AfterStmt AnyToken
  statement_branches c good StmtStart.Block = branch limit (narrow limit (seq limit (block_part c good) (λ b. gives_part limit {F = Any} (s.Block b))) (λ x t h. tt))
  statement_branches c good StmtStart.Empty = branch limit (narrow limit (seq limit (mark_any limit Mark.Semicolon) (λ l. gives_part limit (s.Empty l))) (λ x t h. tt))
  statement_branches c good StmtStart.Return = branch limit (narrow limit (return_part c) (λ x t h. tt))
  statement_branches c good StmtStart.Break = branch limit (narrow limit (seq limit (word_any limit Word.Break) (λ l. seq limit (mark_any limit Mark.Semicolon) (λ q. gives_part limit (s.Break l)))) (λ x t h. tt))
  statement_branches c good StmtStart.Continue = branch limit (narrow limit (seq limit (word_any limit Word.Continue) (λ l. seq limit (mark_any limit Mark.Semicolon) (λ q. gives_part limit (s.Continue l)))) (λ x t h. tt))
  statement_branches c good StmtStart.If = branch limit (if_part c good)
  statement_branches c good StmtStart.While = branch limit (while_part c good)
  statement_branches c good StmtStart.For = branch limit (for_part c good)
  statement_branches c good StmtStart.Par = branch limit (narrow limit (par_part c good) (λ x t h. tt))
  statement_branches c good StmtStart.Simple =
      branch limit (narrow limit (seq limit (simple_part limit c) (λ a. seq limit (mark_part limit Mark.Semicolon simple_then_semicolon) (λ q. gives_part limit (s.Simple a)))) (λ x t h. tt))
  statement_branches c good StmtStart.Other = refuses limit

  pub statement_part : (c : ℕ) → Good c → Part limit (spec.statement limit inner c) (Statements c) AfterStmt AnyToken
  unfolding spec.statement
  statement_part c good =
      dispatch limit (λ t. stmt_start (kind_of t)) (spec.statement_by limit inner c) (StatementBy c) (Statements c) AfterStmt AnyToken
      (λ M t us. statement_to c (stmt_start (Some t.kind)) M (t ∷ us)) (λ M ts x r d h. statement_back c M ts x r d) (statement_branches c good)
      (record { tokens = mark Mark.Semicolon line_one ∷ []; value = s.Empty line_one; holds = λ M l r free h. empty }) refl (λ M x r d h. false_true (statement_begins d))

  pub takes_statement : (c : ℕ) → Good c → Takes (spec.statement limit inner c)
  unfolding spec.statement spec.return_from spec.if_from spec.while_from spec.for_from spec.par_from
  takes_statement c good = takes_choose stmt_start (spec.statement_by limit inner c) by
    where
      by : (k : StmtStart) → Takes (spec.statement_by limit inner c k)
      by StmtStart.Block = takes_seq limit {G = Any} (takes_block c good) (λ b. gives_part limit {F = Any} (s.Block b))
      by StmtStart.Empty = takes_seq limit {G = Any} (takes_want (mark_at Mark.Semicolon)) (λ l. gives_part limit {F = Any} (s.Empty l))
      by StmtStart.Return = takes_seq limit {G = Any} (takes_want (word_at Word.Return)) (λ l. seq limit (optional_expr_part limit c) (λ a. seq limit (mark_part limit Mark.Semicolon (λ q. refl)) (λ q. gives_part limit {F = Any} (s.Return l a))))
      by StmtStart.Break = takes_seq limit {G = Any} (takes_want (word_at Word.Break)) (λ l. seq limit (mark_any limit Mark.Semicolon) (λ q. gives_part limit {F = Any} (s.Break l)))
      by StmtStart.Continue = takes_seq limit {G = Any} (takes_want (word_at Word.Continue)) (λ l. seq limit (mark_any limit Mark.Semicolon) (λ q. gives_part limit {F = Any} (s.Continue l)))
      by StmtStart.If = takes_seq limit {G = Any} (takes_want (word_at Word.If)) (λ l. seq limit (condition_part limit c) (λ a. then_part l c a good))
      by StmtStart.While = takes_seq limit {G = Any} (takes_want (word_at Word.While)) (λ l. seq limit (condition_part limit c) (λ a. last_part c good (s.While l a) (open_while l a)))
      by StmtStart.For = takes_seq limit {G = Any} (takes_want (word_at Word.For)) (λ l. seq limit (mark_any limit Mark.OpenParen) (λ p. seq limit (for_start_part limit c) (λ start. for_rest_part c good l start)))
      by StmtStart.Par =
          takes_seq limit {G = Any} (takes_want (word_at Word.Par)) (λ l. seq limit (mark_any limit Mark.OpenBrace) (λ p. seq limit (branches_part c good) (λ branches. seq limit (mark_part limit Mark.CloseBrace (λ q. refl)) (λ q. gives_part limit {F = Any} (s.Par l branches)))))
      by StmtStart.Simple = takes_seq limit {G = λ a. AfterSimple} (takes_simple limit c) (λ a. seq limit (mark_part limit Mark.Semicolon simple_then_semicolon) (λ q. gives_part limit {F = Any} (s.Simple a)))
      by StmtStart.Other = takes_refuse unexpected
