-- Declarations and statements. `StmtAt c ts s rest`: at ts, with the counter at c, stands the statement s, and behind it comes rest.
use Rattle.std.specs.Prelude.{◌≡◌, ℕ, suc, List, [], ◌∷◌, Option, Some, None}
use Rattle.dfi_base.specs.declared.numbers.Line.{Line}
use Rattle.c_lex.specs.declared.token.Word.{Word}
use Rattle.c_lex.specs.declared.token.Mark.{Mark}
use Rattle.c_lex.specs.declared.token.Kind.{Kind}
use Rattle.c_ast.specs.declared.decl.Base.{Base}
use Rattle.c_ast.specs.declared.decl.Declarator.{Declarator}
use Rattle.c_ast.specs.declared.decl.Decl.{Decl}
use Rattle.c_ast.specs.declared.decl.DeclItem.{DeclItem}
use Rattle.c_ast.specs.declared.ident.Ident.{Ident}
use Rattle.c_ast.specs.declared.expr.Expr.{Expr}
use Rattle.c_ast.specs.declared.stmt.AssignOp.{AssignOp}
use Rattle.c_ast.specs.declared.stmt.Simple.{Simple}
use Rattle.c_ast.specs.declared.stmt.ForStart.{ForStart}
use Rattle.c_ast.specs.declared.stmt.Block.{Block}
use Rattle.c_ast.specs.declared.stmt.BlockItem.{BlockItem}
use Rattle.c_ast.specs.declared.stmt.Stmt.{Stmt}
use Rattle.c_ast.specs.declared.stmt.Stmt.TheVariants as s
use Rattle.c_parse.specs.Symbol.{Symbol, Symbols, word, mark}
use Rattle.c_parse.specs.Operators.{assign_op}
use Rattle.parse_law.specs.Nesting.{May}
use Rattle.c_parse.specs.Types.{BaseAt, DeclaratorAt}
use Rattle.c_parse.specs.Exprs.{ExprAt, UnaryAt, PostfixAt, CallAt}

abbrev pub IsNotElse : Kind → Type 0
IsNotElse (Kind.Word Word.Else) = ⊥
IsNotElse _ = Unit {0}

-- no `else` comes next
abbrev pub NoElse : Symbols → Type 0
NoElse [] = Unit {0}
NoElse (t ∷ ts) = IsNotElse t.kind

module _ (may : May Symbol) where
  -- item = declarator [ "=" expr ]
  pub data DeclItemAt : ℕ → Symbols → DeclItem → Symbols → Type 0 where
    plain : {c : ℕ} {d : Declarator} {ts rest : Symbols} → DeclaratorAt ts d rest → DeclItemAt c ts (record { declarator = d; value = None }) rest
    valued : {c : ℕ} {l : Line} {d : Declarator} {a : Expr} {ts m rest : Symbols}
        → DeclaratorAt ts d (mark Mark.Assign l ∷ m) → ExprAt may c m a rest → DeclItemAt c ts (record { declarator = d; value = Some a }) rest

  pub data DeclItemsAt : ℕ → Symbols → List DeclItem → Symbols → Type 0 where
    last : {c : ℕ} {i : DeclItem} {ts rest : Symbols} → DeclItemAt c ts i rest → DeclItemsAt c ts (i ∷ []) rest
    more : {c : ℕ} {l : Line} {i : DeclItem} {others : List DeclItem} {ts m rest : Symbols}
        → DeclItemAt c ts i (mark Mark.Comma l ∷ m) → DeclItemsAt c m others rest → DeclItemsAt c ts (i ∷ others) rest

  -- declaration = base item { "," item } ";"
  pub data DeclAt : ℕ → Symbols → Decl → Symbols → Type 0 where
    decl : {c : ℕ} {l : Line} {b : Base} {items : List DeclItem} {ts m rest : Symbols}
        → BaseAt ts b m → DeclItemsAt c m items (mark Mark.Semicolon l ∷ rest) → DeclAt c ts (record { base = b; items = items }) rest

  -- simple = unary (an assignment operator) expr | postfix "++" | postfix "--" | "++" unary | "--" unary | call. A postfix or a call here counts
  -- like an operand.
  pub data SimpleAt : ℕ → Symbols → Simple → Symbols → Type 0 where
    assign : {c : ℕ} {t : Symbol} {p : Line} {k : Mark} {op : AssignOp} {a b : Expr} {ts m rest : Symbols}
        → UnaryAt may c (t ∷ ts) a (mark k p ∷ m) → assign_op k ≡ Some op → ExprAt may c m b rest
        → SimpleAt c (t ∷ ts) (Simple.Assign t.line a op b) rest
    increment : {c : ℕ} {t : Symbol} {p : Line} {a : Expr} {ts rest : Symbols}
        → may c (t ∷ ts) → PostfixAt may (suc c) (t ∷ ts) a (mark Mark.PlusPlus p ∷ rest)
        → SimpleAt c (t ∷ ts) (Simple.Increment t.line a) rest
    decrement : {c : ℕ} {t : Symbol} {p : Line} {a : Expr} {ts rest : Symbols}
        → may c (t ∷ ts) → PostfixAt may (suc c) (t ∷ ts) a (mark Mark.MinusMinus p ∷ rest)
        → SimpleAt c (t ∷ ts) (Simple.Decrement t.line a) rest
    pre_increment : {c : ℕ} {l : Line} {a : Expr} {ts rest : Symbols}
        → UnaryAt may c ts a rest → SimpleAt c (mark Mark.PlusPlus l ∷ ts) (Simple.PreIncrement l a) rest
    pre_decrement : {c : ℕ} {l : Line} {a : Expr} {ts rest : Symbols}
        → UnaryAt may c ts a rest → SimpleAt c (mark Mark.MinusMinus l ∷ ts) (Simple.PreDecrement l a) rest
    call : {c : ℕ} {f : Ident} {args : List Expr} {ts rest : Symbols}
        → may c ts → CallAt may (suc c) ts f args rest → SimpleAt c ts (Simple.Call f args) rest

  -- [ expr ]
  pub data OptionalExprAt : ℕ → Symbols → Option Expr → Symbols → Type 0 where
    none : {c : ℕ} {rest : Symbols} → OptionalExprAt c rest None rest
    some : {c : ℕ} {a : Expr} {ts rest : Symbols} → ExprAt may c ts a rest → OptionalExprAt c ts (Some a) rest

  -- [ simple ]
  pub data OptionalSimpleAt : ℕ → Symbols → Option Simple → Symbols → Type 0 where
    none : {c : ℕ} {rest : Symbols} → OptionalSimpleAt c rest None rest
    some : {c : ℕ} {a : Simple} {ts rest : Symbols} → SimpleAt c ts a rest → OptionalSimpleAt c ts (Some a) rest

  -- decl | [ simple ] ";"
  pub data ForStartAt : ℕ → Symbols → ForStart → Symbols → Type 0 where
    decl : {c : ℕ} {d : Decl} {ts rest : Symbols} → DeclAt c ts d rest → ForStartAt c ts (ForStart.Decl d) rest
    simple : {c : ℕ} {l : Line} {a : Option Simple} {ts rest : Symbols}
        → OptionalSimpleAt c ts a (mark Mark.Semicolon l ∷ rest) → ForStartAt c ts (ForStart.Simple a) rest

  mutual
    pub data StmtAt : ℕ → Symbols → Stmt → Symbols → Type 0 where
      stmt : {c : ℕ} {ts rest : Symbols} {a : Stmt} → may c ts → StatementAt (suc c) ts a rest → StmtAt c ts a rest

    -- stmt = block | ";" | simple ";" | "return" [ expr ] ";" | "break" ";" | "continue" ";"
    --      | "if" "(" expr ")" stmt [ "else" stmt ] | "while" "(" expr ")" stmt
    --      | "for" "(" ( decl | [ simple ] ";" ) [ expr ] ";" [ simple ] ")" stmt | "par" "{" { block } "}"
    pub data StatementAt : ℕ → Symbols → Stmt → Symbols → Type 0 where
      braced : {c : ℕ} {b : Block Stmt} {ts rest : Symbols} → BlockAt c ts b rest → StatementAt c ts (s.Block b) rest
      empty : {c : ℕ} {l : Line} {rest : Symbols} → StatementAt c (mark Mark.Semicolon l ∷ rest) (s.Empty l) rest
      simple : {c : ℕ} {p : Line} {a : Simple} {ts rest : Symbols} → SimpleAt c ts a (mark Mark.Semicolon p ∷ rest) → StatementAt c ts (s.Simple a) rest
      return : {c : ℕ} {l p : Line} {a : Option Expr} {ts rest : Symbols}
          → OptionalExprAt c ts a (mark Mark.Semicolon p ∷ rest) → StatementAt c (word Word.Return l ∷ ts) (s.Return l a) rest
      break : {c : ℕ} {l p : Line} {rest : Symbols} → StatementAt c (word Word.Break l ∷ mark Mark.Semicolon p ∷ rest) (s.Break l) rest
      continue : {c : ℕ} {l p : Line} {rest : Symbols} → StatementAt c (word Word.Continue l ∷ mark Mark.Semicolon p ∷ rest) (s.Continue l) rest
      -- An `if` without `else` stands only where none follows: an inner one has taken it.
      if_alone : {c : ℕ} {l p q : Line} {a : Expr} {x : Stmt} {ts m rest : Symbols}
          → ExprAt may c ts a (mark Mark.CloseParen q ∷ m) → StmtAt c m x rest → NoElse rest
          → StatementAt c (word Word.If l ∷ mark Mark.OpenParen p ∷ ts) (s.If l a x None) rest
      if_else : {c : ℕ} {l p q r : Line} {a : Expr} {x y : Stmt} {ts m o rest : Symbols}
          → ExprAt may c ts a (mark Mark.CloseParen q ∷ m) → StmtAt c m x (word Word.Else r ∷ o) → StmtAt c o y rest
          → StatementAt c (word Word.If l ∷ mark Mark.OpenParen p ∷ ts) (s.If l a x (Some y)) rest
      while : {c : ℕ} {l p q : Line} {a : Expr} {x : Stmt} {ts m rest : Symbols}
          → ExprAt may c ts a (mark Mark.CloseParen q ∷ m) → StmtAt c m x rest
          → StatementAt c (word Word.While l ∷ mark Mark.OpenParen p ∷ ts) (s.While l a x) rest
      for : {c : ℕ} {l p q r : Line} {start : ForStart} {a : Option Expr} {step : Option Simple} {x : Stmt} {ts m o u rest : Symbols}
          → ForStartAt c ts start m → OptionalExprAt c m a (mark Mark.Semicolon q ∷ o) → OptionalSimpleAt c o step (mark Mark.CloseParen r ∷ u)
          → StmtAt c u x rest → StatementAt c (word Word.For l ∷ mark Mark.OpenParen p ∷ ts) (s.For l start a step x) rest
      par : {c : ℕ} {l p q : Line} {branches : List (Block Stmt)} {ts rest : Symbols}
          → BranchesAt c ts branches (mark Mark.CloseBrace q ∷ rest) → StatementAt c (word Word.Par l ∷ mark Mark.OpenBrace p ∷ ts) (s.Par l branches) rest

    -- block = "{" { decl | stmt } "}"
    pub data BlockAt : ℕ → Symbols → Block Stmt → Symbols → Type 0 where
      block : {c : ℕ} {l p : Line} {items : List (BlockItem Stmt)} {ts rest : Symbols}
          → may c (mark Mark.OpenBrace l ∷ ts) → BlockItemsAt (suc c) ts items (mark Mark.CloseBrace p ∷ rest)
          → BlockAt c (mark Mark.OpenBrace l ∷ ts) (record { line = l; items = items; close = p }) rest

    -- { decl | stmt }
    pub data BlockItemsAt : ℕ → Symbols → List (BlockItem Stmt) → Symbols → Type 0 where
      no_item : {c : ℕ} {rest : Symbols} → BlockItemsAt c rest [] rest
      declaration : {c : ℕ} {d : Decl} {others : List (BlockItem Stmt)} {ts m rest : Symbols}
          → DeclAt c ts d m → BlockItemsAt c m others rest → BlockItemsAt c ts (BlockItem.Decl d ∷ others) rest
      statement : {c : ℕ} {x : Stmt} {others : List (BlockItem Stmt)} {ts m rest : Symbols}
          → StmtAt c ts x m → BlockItemsAt c m others rest → BlockItemsAt c ts (BlockItem.Stmt x ∷ others) rest

    -- { block }
    pub data BranchesAt : ℕ → Symbols → List (Block Stmt) → Symbols → Type 0 where
      no_branch : {c : ℕ} {rest : Symbols} → BranchesAt c rest [] rest
      branch : {c : ℕ} {b : Block Stmt} {others : List (Block Stmt)} {ts m rest : Symbols}
          → BlockAt c ts b m → BranchesAt c m others rest → BranchesAt c ts (b ∷ others) rest
