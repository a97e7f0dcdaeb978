-- Declarations and statements, read from the left.
use Rattle.std.specs.Prelude.{ℕ, zero, suc, Bool, true, false, not, List, [], ◌∷◌, Option, Some, None}
use Rattle.dfi_base.specs.declared.numbers.Line.{Line}
use Rattle.c_lex.specs.declared.token.Word.{Word}
use Rattle.c_lex.specs.declared.token.Mark.{Mark}
use Rattle.c_lex.specs.declared.token.Kind.{Kind}
use Rattle.c_ast.specs.declared.decl.Base.{Base}
use Rattle.c_ast.specs.declared.decl.Declarator.{Declarator}
use Rattle.c_ast.specs.declared.decl.Decl.{Decl}
use Rattle.c_ast.specs.declared.decl.DeclItem.{DeclItem}
use Rattle.c_ast.specs.declared.expr.Expr.{Expr}
use Rattle.c_parse.specs.Nodes as e
use Rattle.c_ast.specs.declared.stmt.AssignOp.{AssignOp}
use Rattle.c_ast.specs.declared.stmt.Simple.{Simple}
use Rattle.c_ast.specs.declared.stmt.ForStart.{ForStart}
use Rattle.c_ast.specs.declared.stmt.Block.{Block}
use Rattle.c_ast.specs.declared.stmt.BlockItem.{BlockItem}
use Rattle.c_ast.specs.declared.stmt.Stmt.{Stmt}
use Rattle.c_ast.specs.declared.stmt.Stmt.TheVariants as s
use Rattle.parse_law.specs.tools.Parsing.{◌>>=◌, ◌>>◌, pure, refuse, unexpected, deep, many}
use Rattle.c_parse.specs.declared.subject.Subject.{Subject}
use Rattle.c_parse.specs.declared.sorts.SubjectEnd.{SubjectEnd}
use Rattle.c_parse.specs.declared.sorts.StmtStart.{StmtStart}
use Rattle.c_parse.specs.Symbol.{Symbol}
use Rattle.c_parse.specs.Operators.{assign_op}
use Rattle.c_parse.specs.tools.Sorts.{is_base, is_stmt, subject_end, stmt_start}
use Rattle.c_parse.specs.tools.Tokens.{P, choose, located, want, is_mark, is_word, mark_at, word_at, goes}
use Rattle.c_parse.specs.tools.TypeParser.{base, declarator, has, after_comma}
use Rattle.c_parse.specs.tools.ExprParser.{expr_of, entering, expr, subject, unary_of}

abbrev pub assign_in : Kind → Option AssignOp
assign_in (Kind.Mark m) = assign_op m
assign_in _ = None

abbrev pub assign_at : Symbol → Option AssignOp
assign_at t = assign_in t.kind

-- the mark comes next, or the source ends
abbrev pub is_end : Mark → Option Kind → Bool
is_end m None = true
is_end m k = is_mark m k

abbrev pub is_open : Option Kind → Bool
is_open None = false
is_open k = not (is_mark Mark.CloseBrace k)

module _ (limit : ℕ) where
  -- expressions, with fuel for each counter
  unfoldable pub operand_at : ℕ → P Subject
  operand_at c = subject limit limit c

  unfoldable pub unary_at : ℕ → P Expr
  unary_at c = unary_of (subject limit limit) c

  unfoldable pub expr_at : ℕ → P Expr
  expr_at c = expr limit (unary_of (subject limit limit)) c

  -- ---- declarations

  abbrev pub value_by : ℕ → Declarator → Bool → P DeclItem
  value_by c d true = do want (mark_at Mark.Assign); a ← expr_at c; pure (record { declarator = d; value = Some a })
  value_by c d false = pure (record { declarator = d; value = None })

  -- behind the declarator
  unfoldable pub valued : ℕ → Declarator → P DeclItem
  valued c d = choose (is_mark Mark.Assign) (value_by c d)

  unfoldable pub decl_item : ℕ → P DeclItem
  decl_item c = do d ← declarator; valued c d

  -- behind those that were found
  abbrev pub more_items : ℕ → List DeclItem → P (List DeclItem)
  more_items c found = many (has Mark.Comma) (after_comma (decl_item c)) found

  -- behind the first item
  unfoldable pub decl_rest : ℕ → Base → DeclItem → P Decl
  decl_rest c b i = do items ← more_items c (i ∷ []); want (mark_at Mark.Semicolon); pure (record { base = b; items = items })

  unfoldable pub decl : ℕ → P Decl
  decl c = do b ← base; i ← decl_item c; decl_rest c b i

  -- ---- simple statements

  abbrev pub increment_by : Line → Subject → P Simple
  increment_by l (Subject.Prefixed a) = refuse unexpected
  increment_by l (Subject.Postfix a) = want (mark_at Mark.PlusPlus) >> pure (Simple.Increment l a)
  increment_by l (Subject.Call f args) = want (mark_at Mark.PlusPlus) >> pure (Simple.Increment l (e.Call f args))

  abbrev pub decrement_by : Line → Subject → P Simple
  decrement_by l (Subject.Prefixed a) = refuse unexpected
  decrement_by l (Subject.Postfix a) = want (mark_at Mark.MinusMinus) >> pure (Simple.Decrement l a)
  decrement_by l (Subject.Call f args) = want (mark_at Mark.MinusMinus) >> pure (Simple.Decrement l (e.Call f args))

  abbrev pub call_by : Subject → P Simple
  call_by (Subject.Prefixed a) = refuse unexpected
  call_by (Subject.Postfix a) = refuse unexpected
  call_by (Subject.Call f args) = pure (Simple.Call f args)

  abbrev pub simple_by : Line → ℕ → Subject → SubjectEnd → P Simple
  simple_by l c v SubjectEnd.Assign = do op ← want assign_at; b ← expr_at c; pure (Simple.Assign l (expr_of v) op b)
  simple_by l c v SubjectEnd.Increment = increment_by l v
  simple_by l c v SubjectEnd.Decrement = decrement_by l v
  simple_by l c v SubjectEnd.Other = call_by v

  -- behind the operand
  unfoldable pub simple_end : Line → ℕ → Subject → P Simple
  simple_end l c v = choose subject_end (simple_by l c v)

  abbrev pub simple_start : Line → ℕ → SubjectEnd → P Simple
  simple_start l c SubjectEnd.Increment = do want (mark_at Mark.PlusPlus); a ← unary_at c; pure (Simple.PreIncrement l a)
  simple_start l c SubjectEnd.Decrement = do want (mark_at Mark.MinusMinus); a ← unary_at c; pure (Simple.PreDecrement l a)
  simple_start l c SubjectEnd.Assign = refuse unexpected
  simple_start l c SubjectEnd.Other = do v ← operand_at c; simple_end l c v

  unfoldable pub simple_from : ℕ → Line → P Simple
  simple_from c l = choose subject_end (simple_start l c)

  unfoldable pub simple : ℕ → P Simple
  simple c = located (simple_from c)

  -- ---- parts of statements

  abbrev pub optional_expr_by : ℕ → Bool → P (Option Expr)
  optional_expr_by c true = pure None
  optional_expr_by c false = do a ← expr_at c; pure (Some a)

  -- before a semicolon
  unfoldable pub optional_expr : ℕ → P (Option Expr)
  optional_expr c = choose (is_end Mark.Semicolon) (optional_expr_by c)

  abbrev pub optional_simple_by : ℕ → Bool → P (Option Simple)
  optional_simple_by c true = pure None
  optional_simple_by c false = do a ← simple c; pure (Some a)

  -- before the mark
  unfoldable pub optional_simple : Mark → ℕ → P (Option Simple)
  optional_simple m c = choose (is_end m) (optional_simple_by c)

  abbrev pub for_start_by : ℕ → Bool → P ForStart
  for_start_by c true = do d ← decl c; pure (ForStart.Decl d)
  for_start_by c false = do a ← optional_simple Mark.Semicolon c; want (mark_at Mark.Semicolon); pure (ForStart.Simple a)

  unfoldable pub for_start : ℕ → P ForStart
  for_start c = choose is_base (for_start_by c)

  -- "(" expr ")"
  unfoldable pub condition : ℕ → P Expr
  condition c = do want (mark_at Mark.OpenParen); a ← expr_at c; want (mark_at Mark.CloseParen); pure a

  module _ (inner : ℕ → P Stmt) where
    abbrev pub item_by : ℕ → Bool → P (BlockItem Stmt)
    item_by c true = do d ← decl c; pure (BlockItem.Decl d)
    item_by c false = do a ← inner c; pure (BlockItem.Stmt a)

    unfoldable pub item : ℕ → P (BlockItem Stmt)
    item c = choose is_base (item_by c)

    abbrev pub more_block_items : ℕ → List (BlockItem Stmt) → P (List (BlockItem Stmt))
    more_block_items c found = many (goes is_open) (item c) found

    unfoldable pub block_body : ℕ → P (Block Stmt)
    block_body c = do
      l ← want (mark_at Mark.OpenBrace)
      items ← more_block_items c []
      q ← want (mark_at Mark.CloseBrace)
      pure (record { line = l; items = items; close = q })

    unfoldable pub block : ℕ → P (Block Stmt)
    block c = entering (is_mark Mark.OpenBrace) limit c block_body

    abbrev pub more_branches : ℕ → List (Block Stmt) → P (List (Block Stmt))
    more_branches c found = many (goes is_open) (block c) found

    abbrev pub otherwise_by : ℕ → Line → Expr → Stmt → Bool → P Stmt
    otherwise_by c l a x true = do want (word_at Word.Else); y ← inner c; pure (s.If l a x (Some y))
    otherwise_by c l a x false = pure (s.If l a x None)

    -- behind the first part of an `if`
    unfoldable pub otherwise : ℕ → Line → Expr → Stmt → P Stmt
    otherwise c l a x = choose (is_word Word.Else) (otherwise_by c l a x)

    unfoldable pub if_from : ℕ → P Stmt
    if_from c = do l ← want (word_at Word.If); a ← condition c; x ← inner c; otherwise c l a x

    unfoldable pub while_from : ℕ → P Stmt
    while_from c = do l ← want (word_at Word.While); a ← condition c; x ← inner c; pure (s.While l a x)

    -- behind the first part of a `for`
    unfoldable pub for_rest : ℕ → Line → ForStart → P Stmt
    for_rest c l start = do
      a ← optional_expr c
      want (mark_at Mark.Semicolon)
      step ← optional_simple Mark.CloseParen c
      want (mark_at Mark.CloseParen)
      x ← inner c
      pure (s.For l start a step x)

    unfoldable pub for_from : ℕ → P Stmt
    for_from c = do l ← want (word_at Word.For); want (mark_at Mark.OpenParen); start ← for_start c; for_rest c l start

    unfoldable pub par_from : ℕ → P Stmt
    par_from c = do
      l ← want (word_at Word.Par)
      want (mark_at Mark.OpenBrace)
      branches ← more_branches c []
      want (mark_at Mark.CloseBrace)
      pure (s.Par l branches)

    unfoldable pub return_from : ℕ → P Stmt
    return_from c = do l ← want (word_at Word.Return); a ← optional_expr c; want (mark_at Mark.Semicolon); pure (s.Return l a)

    abbrev pub statement_by : ℕ → StmtStart → P Stmt
    statement_by c StmtStart.Block = do b ← block c; pure (s.Block b)
    statement_by c StmtStart.Empty = do l ← want (mark_at Mark.Semicolon); pure (s.Empty l)
    statement_by c StmtStart.Return = return_from c
    statement_by c StmtStart.Break = do l ← want (word_at Word.Break); want (mark_at Mark.Semicolon); pure (s.Break l)
    statement_by c StmtStart.Continue = do l ← want (word_at Word.Continue); want (mark_at Mark.Semicolon); pure (s.Continue l)
    statement_by c StmtStart.If = if_from c
    statement_by c StmtStart.While = while_from c
    statement_by c StmtStart.For = for_from c
    statement_by c StmtStart.Par = par_from c
    statement_by c StmtStart.Simple = do a ← simple c; want (mark_at Mark.Semicolon); pure (s.Simple a)
    statement_by c StmtStart.Other = refuse unexpected

    unfoldable pub statement : ℕ → P Stmt
    statement c = choose stmt_start (statement_by c)

  -- `fuel` is how often statements may still nest
  unfoldable pub stmt : ℕ → ℕ → P Stmt
  stmt zero c = entering is_stmt limit c (λ d. refuse deep)
  stmt (suc fuel) c = entering is_stmt limit c (statement (stmt fuel))
