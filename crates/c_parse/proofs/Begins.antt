-- What expressions begin with.
use Rattle.std.proofs.Common.{◌≡◌, ℕ, Bool, true, false, Option, Some, None, List, refl, sym, ap, ◌∙◌}
use Rattle.c_lex.specs.declared.token.Word.{Word}
use Rattle.c_lex.specs.declared.token.Mark.{Mark}
use Rattle.c_lex.specs.declared.token.Kind.{Kind}
use Rattle.c_lex.specs.contracts.token.Mark as mark_type
use Rattle.c_ast.specs.declared.decl.Base.{Base}
use Rattle.c_ast.specs.declared.decl.TypeName.{TypeName}
use Rattle.c_ast.specs.declared.ident.Ident.{Ident}
use Rattle.c_ast.specs.declared.expr.UnaryOp.{UnaryOp}
use Rattle.c_ast.specs.declared.expr.Expr.{Expr}
use Rattle.parse_law.specs.Nesting.{May}
use Rattle.parse_law.proofs.Steps.{false_true, none_some}
use Rattle.c_parse.specs.declared.operators.Tier.{Tier}
use Rattle.c_parse.specs.declared.sorts.OperandStart.{OperandStart}
use Rattle.c_parse.specs.Symbol.{Symbol, Symbols}
use Rattle.c_parse.specs.Operators.{unary_op}
use Rattle.c_parse.specs.tools.Sorts.{operand_start, is_operand, is_operand_by, is_base}
use Rattle.c_parse.specs.tools.Tokens.{next, kind_of, is_mark}
use Rattle.c_parse.specs.Types.{BaseAt, int, struct, TypeNameAt, type_name}
use Rattle.c_parse.specs.Exprs.{ExprAt, expr, LevelAt, single, level, UnaryAt, unary, OperandAt, prefixed, cast, suffixed, PostfixAt, postfix, PrimaryAt, numeral, null, variable, called, paren, sizeof, CallAt, no_argument, call}
use denote.Enum.Bare.{same_true}

-- the token that comes next
abbrev pub Begins : (Option Kind → Bool) → Symbols → Type 0
Begins test ts = test (kind_of (next ts)) ≡ true

pub prefix_sort : (k : Mark) (op : UnaryOp) → unary_op k ≡ Some op → operand_start (Some (Kind.Mark k)) ≡ OperandStart.Prefix
prefix_sort Mark.Minus op e = refl
prefix_sort Mark.Plus op e = refl
prefix_sort Mark.Not op e = refl
prefix_sort Mark.Tilde op e = refl
prefix_sort Mark.Star op e = refl
prefix_sort Mark.And op e = refl
prefix_sort _ op e = none_some e

pub call_begins : {M : May Symbol} {c : ℕ} {ts r : Symbols} {f : Ident} {args : List Expr} → CallAt M c ts f args r → Begins is_operand ts
call_begins no_argument = refl
call_begins (call d) = refl

primary_begins : {M : May Symbol} {c : ℕ} {ts r : Symbols} {a : Expr} → PrimaryAt M c ts a r → Begins is_operand ts
primary_begins numeral = refl
primary_begins null = refl
primary_begins variable = refl
primary_begins (called d) = call_begins d
primary_begins (paren d) = refl
primary_begins (sizeof d) = refl

pub postfix_begins : {M : May Symbol} {c : ℕ} {ts r : Symbols} {a : Expr} → PostfixAt M c ts a r → Begins is_operand ts
postfix_begins (postfix d s) = primary_begins d

operand_begins : {M : May Symbol} {c : ℕ} {ts r : Symbols} {a : Expr} → OperandAt M c ts a r → Begins is_operand ts
operand_begins (prefixed {k = k} {op = op} e u) = ap is_operand_by (prefix_sort k op e)
operand_begins (cast t u) = refl
operand_begins (suffixed d) = postfix_begins d

pub unary_begins : {M : May Symbol} {c : ℕ} {ts r : Symbols} {a : Expr} → UnaryAt M c ts a r → Begins is_operand ts
unary_begins (unary may d) = operand_begins d

pub level_begins : {M : May Symbol} {tiers : List Tier} {c d : ℕ} {ts r : Symbols} {a : Expr} → LevelAt M tiers c ts a r d → Begins is_operand ts
level_begins (single u) = unary_begins u
level_begins (level v o) = level_begins v

pub expr_begins : {M : May Symbol} {c : ℕ} {ts r : Symbols} {a : Expr} → ExprAt M c ts a r → Begins is_operand ts
expr_begins (expr v) = level_begins v

-- ---- what that excludes

mark_kind : (m : Mark) (k : Option Kind) → is_mark m k ≡ true → k ≡ Some (Kind.Mark m)
mark_kind m (Some (Kind.Mark k)) e = ap (λ z. Some (Kind.Mark z)) (same_true mark_type.the_type tt k m e)
mark_kind m (Some (Kind.Word w)) e = false_true e
mark_kind m (Some (Kind.Id n)) e = false_true e
mark_kind m (Some (Kind.Num n)) e = false_true e
mark_kind m None e = false_true e

-- what passes a test that the mark does not pass is no such mark
pub no_mark : (test : Option Kind → Bool) (m : Mark) → test (Some (Kind.Mark m)) ≡ false → (k : Option Kind) → test k ≡ true → is_mark m k ≡ false
no_mark test m not_mark k e = by_test (is_mark m k) refl
  where
    by_test : (b : Bool) → is_mark m k ≡ b → is_mark m k ≡ false
    by_test false f = f
    by_test true f = false_true (sym not_mark ∙ (ap test (sym (mark_kind m k f)) ∙ e))

pub operand_no_base : (k : Option Kind) → is_operand k ≡ true → is_base k ≡ false
operand_no_base None e = refl
operand_no_base (Some (Kind.Mark m)) e = refl
operand_no_base (Some (Kind.Id n)) e = refl
operand_no_base (Some (Kind.Num n)) e = refl
operand_no_base (Some (Kind.Word Word.Int)) e = false_true e
operand_no_base (Some (Kind.Word Word.Struct)) e = false_true e
operand_no_base (Some (Kind.Word w)) e = refl

pub base_begins : {ts r : Symbols} {a : Base} → BaseAt ts a r → Begins is_base ts
base_begins int = refl
base_begins struct = refl

pub type_begins : {ts r : Symbols} {a : TypeName} → TypeNameAt ts a r → Begins is_base ts
type_begins (type_name d e) = base_begins d
