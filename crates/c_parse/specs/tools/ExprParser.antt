-- Expressions, read from the left.
use Rattle.std.specs.Prelude.{ℕ, zero, suc, Bool, true, false, if◌then◌else◌, is_some, List, [], ◌∷◌, Option, Some, None}
use Rattle.dfi_base.specs.declared.numbers.Line.{Line}
use Rattle.c_lex.specs.declared.token.Word.{Word}
use Rattle.c_lex.specs.declared.token.Mark.{Mark}
use Rattle.c_lex.specs.declared.token.Kind.{Kind}
use Rattle.c_ast.specs.declared.ident.Ident.{Ident}
use Rattle.c_ast.specs.declared.expr.UnaryOp.{UnaryOp}
use Rattle.c_ast.specs.declared.expr.BinaryOp.{BinaryOp}
use Rattle.c_ast.specs.declared.expr.Expr.{Expr}
use Rattle.c_parse.specs.Nodes as e
use Rattle.parse_law.specs.tools.Parsing.{◌>>=◌, ◌>>◌, pure, refuse, unexpected, deep, rising, repeat, many}
use Rattle.c_parse.specs.declared.operators.Tier.{Tier}
use Rattle.c_parse.specs.contracts.operators.Tier as tier_type
use Rattle.c_parse.specs.declared.subject.Subject.{Subject}
use Rattle.c_parse.specs.declared.sorts.OperandStart.{OperandStart}
use Rattle.c_parse.specs.declared.sorts.SuffixStart.{SuffixStart}
use Rattle.c_parse.specs.Symbol.{Symbol}
use Rattle.c_parse.specs.Operators.{unary_op, binary_op, tiers}
use Rattle.c_parse.specs.tools.Sorts.{operand_start, suffix_start, is_base, is_operand, is_suffix}
use Rattle.c_parse.specs.tools.Tokens.{P, next, kind_of, choose, located, want, is_mark, mark_at, word_at, ident_at, number_at, goes}
use Rattle.c_parse.specs.tools.TypeParser.{type_name, has, after_comma}
use denote.Enum.Bare.{sameb}
use Rattle.dfi_base.specs.Limits.{nesting_limit}

abbrev pub expr_of : Subject → Expr
expr_of (Subject.Prefixed a) = a
expr_of (Subject.Postfix a) = a
expr_of (Subject.Call f args) = e.Call f args

-- ---- operators

abbrev pub same_tier : Tier → Tier → Bool
same_tier = sameb tier_type.the_type

abbrev pub unary_in : Kind → Option UnaryOp
unary_in (Kind.Mark m) = unary_op m
unary_in _ = None

abbrev pub unary_at : Symbol → Option UnaryOp
unary_at t = unary_in t.kind

abbrev pub of_tier : Tier → Option (Tier × BinaryOp) → Option BinaryOp
of_tier tier None = None
of_tier tier (Some (found, op)) = if same_tier found tier then Some op else None

-- the operator, where it is of this tier
abbrev pub binary_in : Tier → Option Kind → Option BinaryOp
binary_in tier (Some (Kind.Mark m)) = of_tier tier (binary_op m)
binary_in tier _ = None

abbrev pub binary_at : Tier → Symbol → Option BinaryOp
binary_at tier t = binary_in tier (Some t.kind)

abbrev pub is_binary : Tier → Option Kind → Bool
is_binary tier k = is_some (binary_in tier k)

-- one of these tokens begins the form, at which the counter rises
abbrev pub entering : {A : Type 0} → (Option Kind → Bool) → ℕ → ℕ → (ℕ → P A) → P A
entering begins limit c q ts = if begins (kind_of (next ts)) then rising limit c q ts else refuse unexpected ts

-- behind an operand, with the counter behind it
module _ (tier : Tier) (lower : ℕ → P (Expr × ℕ)) (l : Line) where
  unfoldable pub right : Expr → ℕ → P (Expr × ℕ)
  right left c = do op ← want (binary_at tier); v ← lower c; pure (e.Binary l left op v.0, v.1)

  abbrev pub operators : ℕ → (Expr × ℕ) → P (Expr × ℕ)
  operators limit = repeat (goes (is_binary tier)) (λ v. rising limit v.1 (right v.0))

-- operands with the operators of one tier between them
unfoldable pub chain : ℕ → Tier → (ℕ → P (Expr × ℕ)) → ℕ → P (Expr × ℕ)
chain limit tier lower c = located (λ l. lower c >>= operators tier lower l limit)

module _ (limit : ℕ) (inner : ℕ → P Expr) where
  unfoldable pub level : List Tier → ℕ → P (Expr × ℕ)
  level [] c = do a ← inner c; pure (a, c)
  level (tier ∷ lower) c = chain limit tier (level lower) c

  unfoldable pub expr : ℕ → P Expr
  expr c = do v ← level tiers c; pure v.0

  -- behind those that were found
  abbrev pub more_arguments : ℕ → List Expr → P (List Expr)
  more_arguments c found = many (has Mark.Comma) (after_comma (expr c)) found

  -- behind the first
  abbrev pub arguments_rest : ℕ → Expr → P (List Expr)
  arguments_rest c a = do args ← more_arguments c (a ∷ []); want (mark_at Mark.CloseParen); pure args

  abbrev pub arguments_by : ℕ → Bool → P (List Expr)
  arguments_by c true = want (mark_at Mark.CloseParen) >> pure []
  arguments_by c false = do a ← expr c; arguments_rest c a

  -- behind the opening parenthesis of a call
  unfoldable pub arguments : ℕ → P (List Expr)
  arguments c = choose (is_mark Mark.CloseParen) (arguments_by c)

  abbrev pub suffix_by : Line → Expr → ℕ → SuffixStart → P (Expr × ℕ)
  suffix_by l a c SuffixStart.Index = do want (mark_at Mark.OpenBracket); i ← expr c; want (mark_at Mark.CloseBracket); pure (e.Index l a i, c)
  suffix_by l a c SuffixStart.Field = do want (mark_at Mark.Dot); i ← want ident_at; pure (e.Field l a i, c)
  suffix_by l a c SuffixStart.Arrow = do want (mark_at Mark.Arrow); i ← want ident_at; pure (e.Arrow l a i, c)
  suffix_by l a c SuffixStart.Other = refuse unexpected

  unfoldable pub suffix : Line → Expr → ℕ → P (Expr × ℕ)
  suffix l a c = choose suffix_start (suffix_by l a c)

  abbrev pub suffix_after : Line → (Expr × ℕ) → P (Expr × ℕ)
  suffix_after l v = rising limit v.1 (suffix l v.0)

  -- behind an operand
  abbrev pub suffixes : Line → (Expr × ℕ) → P (Expr × ℕ)
  suffixes l = repeat (goes is_suffix) (suffix_after l)

  unfoldable pub postfix : Line → ℕ → Expr → P Subject
  postfix l c a = do v ← suffixes l (a, c); pure (Subject.Postfix v.0)

  abbrev pub called_by : Line → ℕ → Ident → List Expr → Bool → P Subject
  called_by l c f args true = postfix l c (e.Call f args)
  called_by l c f args false = pure (Subject.Call f args)

  -- behind the opening parenthesis of a call
  unfoldable pub called : Line → ℕ → Ident → P Subject
  called l c f = do args ← arguments c; choose is_suffix (called_by l c f args)

  abbrev pub named_by : Line → ℕ → Ident → Bool → P Subject
  named_by l c i true = want (mark_at Mark.OpenParen) >> called l c i
  named_by l c i false = postfix l c (e.Name i)

  -- behind a name
  unfoldable pub named : Line → ℕ → Ident → P Subject
  named l c i = choose (is_mark Mark.OpenParen) (named_by l c i)

  abbrev pub opened_by : Line → ℕ → Bool → P Subject
  opened_by l c true = do t ← type_name; want (mark_at Mark.CloseParen); a ← inner c; pure (Subject.Prefixed (e.Cast l t a))
  opened_by l c false = do a ← expr c; want (mark_at Mark.CloseParen); postfix l c a

  -- behind an opening parenthesis: a cast where a type comes next
  unfoldable pub opened : Line → ℕ → P Subject
  opened l c = choose is_base (opened_by l c)

  abbrev pub operand_by : Line → ℕ → OperandStart → P Subject
  operand_by l c OperandStart.Prefix = do op ← want unary_at; a ← inner c; pure (Subject.Prefixed (e.Unary l op a))
  operand_by l c OperandStart.Paren = want (mark_at Mark.OpenParen) >> opened l c
  operand_by l c OperandStart.Number = do k ← want number_at; postfix l c (e.Number l k)
  operand_by l c OperandStart.Null = want (word_at Word.Null) >> postfix l c (e.Null l)
  operand_by l c OperandStart.Name = do i ← want ident_at; named l c i
  operand_by l c OperandStart.Sizeof = do
    want (word_at Word.Sizeof)
    want (mark_at Mark.OpenParen)
    t ← type_name
    want (mark_at Mark.CloseParen)
    postfix l c (e.Sizeof l t)
  operand_by l c OperandStart.Other = refuse unexpected

  unfoldable pub operand_from : ℕ → Line → P Subject
  operand_from c l = choose operand_start (operand_by l c)

  unfoldable pub operand : ℕ → P Subject
  operand c = located (operand_from c)

abbrev pub unary_of : (ℕ → P Subject) → ℕ → P Expr
unary_of subject c = do v ← subject c; pure (expr_of v)

-- a `unary`, as a statement asks; `fuel` is how often it may still nest
unfoldable pub subject : ℕ → ℕ → ℕ → P Subject
subject limit zero c = entering is_operand limit c (λ d. refuse deep)
subject limit (suc fuel) c = entering is_operand limit c (operand limit (unary_of (subject limit fuel)))

-- a `unary` of an expression that may still nest `fuel` times
abbrev pub operands : ℕ → ℕ → P Expr
operands fuel = unary_of (subject nesting_limit fuel)
