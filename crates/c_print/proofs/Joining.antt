-- Derivations, put together from the left.
use Rattle.std.proofs.Common.{◌≡◌, ℕ, suc, List, [], ◌∷◌, ◌++◌, Some, refl, sym, subst}
use Rattle.dfi_base.specs.declared.numbers.Line.{Line}
use Rattle.c_lex.specs.declared.token.Mark.{Mark}
use Rattle.c_lex.specs.declared.token.Kind.{Kind}
use Rattle.c_ast.specs.declared.expr.BinaryOp.{BinaryOp}
use Rattle.c_ast.specs.declared.expr.Expr.{Expr}
use Rattle.parse_law.specs.Nesting.{Anywhere}
use Rattle.c_parse.specs.Nodes as n
use Rattle.c_parse.specs.Symbol.{Symbol, Symbols, mark, name}
use Rattle.c_parse.specs.declared.operators.Tier.{Tier}
use Rattle.c_parse.specs.Operators.{binary_op}
use Rattle.c_parse.specs.Exprs.{ExprAt, LevelAt, single, level, OperatorsAt, no_operator, binary, UnaryAt, unary, OperandAt, prefixed, cast, suffixed, PostfixAt, postfix, SuffixesAt, no_suffix, index, field, arrow}
use Rattle.c_print.specs.SameTree.{first}

-- ---- tokens on one line

abbrev pub on_line : List Kind → Symbols
on_line [] = []
on_line (k ∷ ks) = record { kind = k; line = first } ∷ on_line ks

abbrev pub line_of_first : Symbols → Line
line_of_first [] = first
line_of_first (s ∷ ts) = s.line

pub on_first_line : (ks : List Kind) → line_of_first (on_line ks) ≡ first
on_first_line [] = refl
on_first_line (k ∷ ks) = refl

-- ---- an operand is an expression of every level

pub record Begun (ts : Symbols) : Type 0 where
  pub head : Symbol
  pub tail : Symbols
  pub is : ts ≡ head ∷ tail

pub postfix_begun : {c : ℕ} {ts rest : Symbols} {a : Expr} → PostfixAt Anywhere c ts a rest → Begun ts
postfix_begun (postfix {s = s} {ts = ts} p q) = record { head = s; tail = ts; is = refl }

operand_begun : {c : ℕ} {ts rest : Symbols} {a : Expr} → OperandAt Anywhere c ts a rest → Begun ts
operand_begun (prefixed {l = l} {k = k} {ts = ts} o u) = record { head = mark k l; tail = ts; is = refl }
operand_begun (cast {l = l} {ts = ts} t u) = record { head = mark Mark.OpenParen l; tail = ts; is = refl }
operand_begun (suffixed p) = postfix_begun p

pub unary_begun : {c : ℕ} {ts rest : Symbols} {a : Expr} → UnaryAt Anywhere c ts a rest → Begun ts
unary_begun (unary m o) = operand_begun o

level_begun : {lower : List Tier} {c d : ℕ} {ts rest : Symbols} {a : Expr} → LevelAt Anywhere lower c ts a rest d → Begun ts
level_begun (single u) = unary_begun u
level_begun (level {s = s} {ts = ts} l o) = record { head = s; tail = ts; is = refl }

raise_at : (tier : Tier) {lower : List Tier} {c d : ℕ} {ts rest : Symbols} {a : Expr} → Begun ts
    → LevelAt Anywhere lower c ts a rest d → LevelAt Anywhere (tier ∷ lower) c ts a rest d
raise_at tier {lower} {c} {d} {ts} {rest} {a} b =
    subst (λ (k : Symbols). LevelAt Anywhere lower c k a rest d → LevelAt Anywhere (tier ∷ lower) c k a rest d) (sym b.is) (λ l. level l no_operator)

pub raise : (tiers : List Tier) {lower : List Tier} {c d : ℕ} {ts rest : Symbols} {a : Expr}
    → LevelAt Anywhere lower c ts a rest d → LevelAt Anywhere (tiers ++ lower) c ts a rest d
raise [] l = l
raise (t ∷ ts) l = let r = raise ts l in raise_at t (level_begun r) r

-- ---- one more operator

one_more : {tier : Tier} {lower : List Tier} {l p : Line} {c d d' : ℕ} {k : Mark} {op : BinaryOp} {m ts rest : Symbols} {a b x : Expr}
    → OperatorsAt Anywhere tier lower l c a m b (mark k p ∷ ts) d → binary_op k ≡ Some (tier, op) → LevelAt Anywhere lower (suc d) ts x rest d'
    → OperatorsAt Anywhere tier lower l c a m (n.Binary l b op x) rest d'
one_more no_operator o r = binary o tt r no_operator
one_more (binary q w s t) o r = binary q w s (one_more t o r)

joined : {tier : Tier} {lower : List Tier} {p : Line} {c d d' : ℕ} {k : Mark} {op : BinaryOp} {ts m rest : Symbols} {a b : Expr}
    → LevelAt Anywhere (tier ∷ lower) c ts a (mark k p ∷ m) d → binary_op k ≡ Some (tier, op) → LevelAt Anywhere lower (suc d) m b rest d'
    → LevelAt Anywhere (tier ∷ lower) c ts (n.Binary (line_of_first ts) a op b) rest d'
joined (level l o) q r = level l (one_more o q r)

pub join : {tier : Tier} {lower : List Tier} {p : Line} {c d d' : ℕ} {k : Mark} {op : BinaryOp} {ts m rest : Symbols} {a b : Expr}
    → line_of_first ts ≡ first → LevelAt Anywhere (tier ∷ lower) c ts a (mark k p ∷ m) d → binary_op k ≡ Some (tier, op)
    → LevelAt Anywhere lower (suc d) m b rest d' → LevelAt Anywhere (tier ∷ lower) c ts (n.Binary first a op b) rest d'
join {tier} {lower} {p} {c} {d} {d'} {k} {op} {ts} {m} {rest} {a} {b} e l q r =
    subst (λ (x : Line). LevelAt Anywhere (tier ∷ lower) c ts (n.Binary x a op b) rest d') e (joined l q r)

-- ---- one more suffix

one_index : {l p q : Line} {c d : ℕ} {m ts rest : Symbols} {a b x : Expr}
    → SuffixesAt Anywhere l c a m b (mark Mark.OpenBracket p ∷ ts) d → ((k : ℕ) → ExprAt Anywhere k ts x (mark Mark.CloseBracket q ∷ rest))
    → SuffixesAt Anywhere l c a m (n.Index l b x) rest (suc d)
one_index no_suffix r = index tt (r _) no_suffix
one_index (index w s t) r = index w s (one_index t r)
one_index (field w t) r = field w (one_index t r)
one_index (arrow w t) r = arrow w (one_index t r)

index_at : {p q : Line} {c : ℕ} {ts m rest : Symbols} {a b : Expr}
    → PostfixAt Anywhere c ts a (mark Mark.OpenBracket p ∷ m) → ((k : ℕ) → ExprAt Anywhere k m b (mark Mark.CloseBracket q ∷ rest))
    → PostfixAt Anywhere c ts (n.Index (line_of_first ts) a b) rest
index_at (postfix p s) r = postfix p (one_index s r)

pub with_index : {p q : Line} {c : ℕ} {ts m rest : Symbols} {a b : Expr} → line_of_first ts ≡ first
    → PostfixAt Anywhere c ts a (mark Mark.OpenBracket p ∷ m) → ((k : ℕ) → ExprAt Anywhere k m b (mark Mark.CloseBracket q ∷ rest))
    → PostfixAt Anywhere c ts (n.Index first a b) rest
with_index {p} {q} {c} {ts} {m} {rest} {a} {b} e s r = subst (λ (x : Line). PostfixAt Anywhere c ts (n.Index x a b) rest) e (index_at s r)

one_field : {l p k : Line} {c d i : ℕ} {m rest : Symbols} {a b : Expr} → SuffixesAt Anywhere l c a m b (mark Mark.Dot p ∷ name i k ∷ rest) d
    → SuffixesAt Anywhere l c a m (n.Field l b (record { line = k; name = i })) rest (suc d)
one_field no_suffix = field tt no_suffix
one_field (index w s t) = index w s (one_field t)
one_field (field w t) = field w (one_field t)
one_field (arrow w t) = arrow w (one_field t)

field_at : {p k : Line} {c i : ℕ} {ts rest : Symbols} {a : Expr} → PostfixAt Anywhere c ts a (mark Mark.Dot p ∷ name i k ∷ rest)
    → PostfixAt Anywhere c ts (n.Field (line_of_first ts) a (record { line = k; name = i })) rest
field_at (postfix p s) = postfix p (one_field s)

pub with_field : {p k : Line} {c i : ℕ} {ts rest : Symbols} {a : Expr} → line_of_first ts ≡ first
    → PostfixAt Anywhere c ts a (mark Mark.Dot p ∷ name i k ∷ rest) → PostfixAt Anywhere c ts (n.Field first a (record { line = k; name = i })) rest
with_field {p} {k} {c} {i} {ts} {rest} {a} e s = subst (λ (x : Line). PostfixAt Anywhere c ts (n.Field x a (record { line = k; name = i })) rest) e (field_at s)

one_arrow : {l p k : Line} {c d i : ℕ} {m rest : Symbols} {a b : Expr} → SuffixesAt Anywhere l c a m b (mark Mark.Arrow p ∷ name i k ∷ rest) d
    → SuffixesAt Anywhere l c a m (n.Arrow l b (record { line = k; name = i })) rest (suc d)
one_arrow no_suffix = arrow tt no_suffix
one_arrow (index w s t) = index w s (one_arrow t)
one_arrow (field w t) = field w (one_arrow t)
one_arrow (arrow w t) = arrow w (one_arrow t)

arrow_at : {p k : Line} {c i : ℕ} {ts rest : Symbols} {a : Expr} → PostfixAt Anywhere c ts a (mark Mark.Arrow p ∷ name i k ∷ rest)
    → PostfixAt Anywhere c ts (n.Arrow (line_of_first ts) a (record { line = k; name = i })) rest
arrow_at (postfix p s) = postfix p (one_arrow s)

pub with_arrow : {p k : Line} {c i : ℕ} {ts rest : Symbols} {a : Expr} → line_of_first ts ≡ first
    → PostfixAt Anywhere c ts a (mark Mark.Arrow p ∷ name i k ∷ rest) → PostfixAt Anywhere c ts (n.Arrow first a (record { line = k; name = i })) rest
with_arrow {p} {k} {c} {i} {ts} {rest} {a} e s = subst (λ (x : Line). PostfixAt Anywhere c ts (n.Arrow x a (record { line = k; name = i })) rest) e (arrow_at s)
