-- Expressions. `ExprAt c ts e rest`: at ts, with the counter at c, stands the expression e, and behind it comes rest.
use Rattle.std.specs.Prelude.{◌≡◌, ℕ, suc, ℤ, List, [], ◌∷◌, Some}
use Rattle.dfi_base.specs.declared.numbers.Line.{Line}
use Rattle.c_lex.specs.declared.token.Word.{Word}
use Rattle.c_lex.specs.declared.token.Mark.{Mark}
use Rattle.c_ast.specs.declared.decl.TypeName.{TypeName}
use Rattle.c_ast.specs.declared.ident.Ident.{Ident}
use Rattle.c_ast.specs.declared.expr.UnaryOp.{UnaryOp}
use Rattle.c_ast.specs.declared.expr.BinaryOp.{BinaryOp}
use Rattle.c_ast.specs.declared.expr.Expr.{Expr}
use Rattle.c_parse.specs.Nodes as e
use Rattle.c_parse.specs.Symbol.{Symbol, Symbols, word, mark, name, number}
use Rattle.c_parse.specs.declared.operators.Tier.{Tier}
use Rattle.c_parse.specs.Operators.{unary_op, binary_op, tiers}
use Rattle.parse_law.specs.Nesting.{May}
use Rattle.c_parse.specs.Types.{TypeNameAt}

module _ (may : May Symbol) where
  mutual
    pub data ExprAt : ℕ → Symbols → Expr → Symbols → Type 0 where
      expr : {c d : ℕ} {ts rest : Symbols} {a : Expr} → LevelAt tiers c ts a rest d → ExprAt c ts a rest

    -- The operators of these tiers, lowest first. An operator raises the counter up to the end of the expression, so its value at the end stands last.
    pub data LevelAt : List Tier → ℕ → Symbols → Expr → Symbols → ℕ → Type 0 where
      single : {c : ℕ} {ts rest : Symbols} {a : Expr} → UnaryAt c ts a rest → LevelAt [] c ts a rest c
      level : {tier : Tier} {lower : List Tier} {c d d' : ℕ} {s : Symbol} {ts m rest : Symbols} {a b : Expr}
          → LevelAt lower c (s ∷ ts) a m d → OperatorsAt tier lower s.line d a m b rest d' → LevelAt (tier ∷ lower) c (s ∷ ts) b rest d'

    -- from the left
    pub data OperatorsAt : Tier → List Tier → Line → ℕ → Expr → Symbols → Expr → Symbols → ℕ → Type 0 where
      no_operator : {tier : Tier} {lower : List Tier} {l : Line} {c : ℕ} {a : Expr} {rest : Symbols} → OperatorsAt tier lower l c a rest a rest c
      binary : {tier : Tier} {lower : List Tier} {l p : Line} {c d d' : ℕ} {k : Mark} {op : BinaryOp} {ts m rest : Symbols} {a b x : Expr}
          → binary_op k ≡ Some (tier, op) → may c (mark k p ∷ ts) → LevelAt lower (suc c) ts b m d
          → OperatorsAt tier lower l d (e.Binary l a op b) m x rest d' → OperatorsAt tier lower l c a (mark k p ∷ ts) x rest d'

    pub data UnaryAt : ℕ → Symbols → Expr → Symbols → Type 0 where
      unary : {c : ℕ} {ts rest : Symbols} {a : Expr} → may c ts → OperandAt (suc c) ts a rest → UnaryAt c ts a rest

    -- unary = ( "-" | "+" | "!" | "~" | "*" | "&" ) unary | cast unary | postfix, and cast = "(" type name ")"
    pub data OperandAt : ℕ → Symbols → Expr → Symbols → Type 0 where
      prefixed : {c : ℕ} {l : Line} {k : Mark} {op : UnaryOp} {ts rest : Symbols} {a : Expr}
          → unary_op k ≡ Some op → UnaryAt c ts a rest → OperandAt c (mark k l ∷ ts) (e.Unary l op a) rest
      cast : {c : ℕ} {l p : Line} {t : TypeName} {ts m rest : Symbols} {a : Expr}
          → TypeNameAt ts t (mark Mark.CloseParen p ∷ m) → UnaryAt c m a rest → OperandAt c (mark Mark.OpenParen l ∷ ts) (e.Cast l t a) rest
      suffixed : {c : ℕ} {ts rest : Symbols} {a : Expr} → PostfixAt c ts a rest → OperandAt c ts a rest

    pub data PostfixAt : ℕ → Symbols → Expr → Symbols → Type 0 where
      postfix : {c d : ℕ} {s : Symbol} {ts m rest : Symbols} {a b : Expr}
          → PrimaryAt c (s ∷ ts) a m → SuffixesAt s.line c a m b rest d → PostfixAt c (s ∷ ts) b rest

    -- { "[" expr "]" | "." ID | "->" ID }, each of which raises the counter up to the end of the postfix
    pub data SuffixesAt : Line → ℕ → Expr → Symbols → Expr → Symbols → ℕ → Type 0 where
      no_suffix : {l : Line} {c : ℕ} {a : Expr} {rest : Symbols} → SuffixesAt l c a rest a rest c
      index : {l p q : Line} {c d : ℕ} {ts m rest : Symbols} {a b x : Expr}
          → may c (mark Mark.OpenBracket p ∷ ts) → ExprAt (suc c) ts b (mark Mark.CloseBracket q ∷ m)
          → SuffixesAt l (suc c) (e.Index l a b) m x rest d → SuffixesAt l c a (mark Mark.OpenBracket p ∷ ts) x rest d
      field : {l p k : Line} {c d n : ℕ} {ts rest : Symbols} {a x : Expr}
          → may c (mark Mark.Dot p ∷ name n k ∷ ts)
          → SuffixesAt l (suc c) (e.Field l a (record { line = k; name = n })) ts x rest d → SuffixesAt l c a (mark Mark.Dot p ∷ name n k ∷ ts) x rest d
      arrow : {l p k : Line} {c d n : ℕ} {ts rest : Symbols} {a x : Expr}
          → may c (mark Mark.Arrow p ∷ name n k ∷ ts)
          → SuffixesAt l (suc c) (e.Arrow l a (record { line = k; name = n })) ts x rest d → SuffixesAt l c a (mark Mark.Arrow p ∷ name n k ∷ ts) x rest d

    -- primary = NUM | "NULL" | ID | call | "(" expr ")" | "sizeof" "(" type name ")". Parentheses make no node: what they hold keeps its own line.
    pub data PrimaryAt : ℕ → Symbols → Expr → Symbols → Type 0 where
      numeral : {c : ℕ} {l : Line} {k : ℤ} {rest : Symbols} → PrimaryAt c (number k l ∷ rest) (e.Number l k) rest
      null : {c : ℕ} {l : Line} {rest : Symbols} → PrimaryAt c (word Word.Null l ∷ rest) (e.Null l) rest
      variable : {c n : ℕ} {l : Line} {rest : Symbols} → PrimaryAt c (name n l ∷ rest) (e.Name (record { line = l; name = n })) rest
      called : {c : ℕ} {f : Ident} {args : List Expr} {ts rest : Symbols} → CallAt c ts f args rest → PrimaryAt c ts (e.Call f args) rest
      paren : {c : ℕ} {l p : Line} {ts rest : Symbols} {a : Expr}
          → ExprAt c ts a (mark Mark.CloseParen p ∷ rest) → PrimaryAt c (mark Mark.OpenParen l ∷ ts) a rest
      sizeof : {c : ℕ} {l p q : Line} {t : TypeName} {ts rest : Symbols}
          → TypeNameAt ts t (mark Mark.CloseParen q ∷ rest) → PrimaryAt c (word Word.Sizeof l ∷ mark Mark.OpenParen p ∷ ts) (e.Sizeof l t) rest

    -- call = ID "(" [ expr { "," expr } ] ")"
    pub data CallAt : ℕ → Symbols → Ident → List Expr → Symbols → Type 0 where
      no_argument : {c n : ℕ} {l p q : Line} {rest : Symbols}
          → CallAt c (name n l ∷ mark Mark.OpenParen p ∷ mark Mark.CloseParen q ∷ rest) (record { line = l; name = n }) [] rest
      call : {c n : ℕ} {l p q : Line} {args : List Expr} {ts rest : Symbols}
          → ArgumentsAt c ts args (mark Mark.CloseParen q ∷ rest) → CallAt c (name n l ∷ mark Mark.OpenParen p ∷ ts) (record { line = l; name = n }) args rest

    pub data ArgumentsAt : ℕ → Symbols → List Expr → Symbols → Type 0 where
      last_argument : {c : ℕ} {ts rest : Symbols} {a : Expr} → ExprAt c ts a rest → ArgumentsAt c ts (a ∷ []) rest
      more_arguments : {c : ℕ} {l : Line} {ts m rest : Symbols} {a : Expr} {others : List Expr}
          → ExprAt c ts a (mark Mark.Comma l ∷ m) → ArgumentsAt c m others rest → ArgumentsAt c ts (a ∷ others) rest
