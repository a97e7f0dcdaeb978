-- Statements that end in an `if` without `else`.
use Rattle.std.proofs.Common.{◌≡◌, ℕ, Bool, true, false, Option, Some, None, List, [], ◌∷◌, sym, ap, subst, ◌∙◌}
use Rattle.dfi_base.specs.declared.numbers.Line.{Line}
use Rattle.c_lex.specs.declared.token.Word.{Word}
use Rattle.c_lex.specs.declared.token.Kind.{Kind}
use Rattle.c_lex.specs.contracts.token.Word as word_type
use Rattle.c_ast.specs.declared.expr.Expr.{Expr}
use Rattle.c_ast.specs.declared.stmt.Simple.{Simple}
use Rattle.c_ast.specs.declared.stmt.ForStart.{ForStart}
use Rattle.c_ast.specs.declared.stmt.Block.{Block}
use Rattle.c_ast.specs.declared.stmt.Stmt.{Stmt, roll-Stmt, map-Stmt, fold-Stmt, fold-roll-Stmt}
use Rattle.c_ast.specs.declared.stmt.Stmt.TheOpen.{Stmt-F}
use Rattle.c_ast.specs.declared.stmt.Stmt.TheVariants as s
use Rattle.parse_law.specs.Nesting.{May}
use Rattle.parse_law.proofs.Steps.{false_true}
use Rattle.c_parse.specs.Symbol.{Symbol, Symbols}
use Rattle.c_parse.specs.tools.Tokens.{is_word}
use Rattle.c_parse.specs.Stmts.{NoElse, IsNotElse, StmtAt, stmt, StatementAt, braced, empty, simple, return, break, continue, if_alone, if_else, while, for, par}
use Rattle.c_parse.proofs.Begins.{Begins}
use denote.Enum.Bare.{same_true}

abbrev open_step : Stmt-F Bool → Bool
open_step (Stmt-F.If line condition first second) = elim second [ None ↦ true | Some b ↦ b ]
open_step (Stmt-F.While line condition body) = body
open_step (Stmt-F.For line start condition step body) = body
open_step _ = false

-- does it end in an `if` that can take an `else`?
pub ends_open : Stmt → Bool
ends_open = fold-Stmt Bool open_step

open_roll : (d : Stmt-F Stmt) → ends_open (roll-Stmt d) ≡ open_step (map-Stmt Stmt Bool ends_open d)
unfolding ends_open
open_roll d = fold-roll-Stmt Bool open_step d

pub open_if : (l : Line) (a : Expr) (x : Stmt) → ends_open (s.If l a x None) ≡ true
open_if l a x = ap ends_open (sym (s.rolls-If l a x None)) ∙ open_roll (Stmt-F.If l a x None)

pub open_else : (l : Line) (a : Expr) (x y : Stmt) → ends_open (s.If l a x (Some y)) ≡ ends_open y
open_else l a x y = ap ends_open (sym (s.rolls-If l a x (Some y))) ∙ open_roll (Stmt-F.If l a x (Some y))

pub open_while : (l : Line) (a : Expr) (x : Stmt) → ends_open (s.While l a x) ≡ ends_open x
open_while l a x = ap ends_open (sym (s.rolls-While l a x)) ∙ open_roll (Stmt-F.While l a x)

pub open_for : (l : Line) (start : ForStart) (a : Option Expr) (step : Option Simple) (x : Stmt) → ends_open (s.For l start a step x) ≡ ends_open x
open_for l start a step x = ap ends_open (sym (s.rolls-For l start a step x)) ∙ open_roll (Stmt-F.For l start a step x)

open_block : (b : Block Stmt) → ends_open (s.Block b) ≡ false
open_block b = ap ends_open (sym (s.rolls-Block b)) ∙ open_roll (Stmt-F.Block b)

open_empty : (l : Line) → ends_open (s.Empty l) ≡ false
open_empty l = ap ends_open (sym (s.rolls-Empty l)) ∙ open_roll (Stmt-F.Empty l)

open_simple : (a : Simple) → ends_open (s.Simple a) ≡ false
open_simple a = ap ends_open (sym (s.rolls-Simple a)) ∙ open_roll (Stmt-F.Simple a)

open_return : (l : Line) (a : Option Expr) → ends_open (s.Return l a) ≡ false
open_return l a = ap ends_open (sym (s.rolls-Return l a)) ∙ open_roll (Stmt-F.Return l a)

open_break : (l : Line) → ends_open (s.Break l) ≡ false
open_break l = ap ends_open (sym (s.rolls-Break l)) ∙ open_roll (Stmt-F.Break l)

open_continue : (l : Line) → ends_open (s.Continue l) ≡ false
open_continue l = ap ends_open (sym (s.rolls-Continue l)) ∙ open_roll (Stmt-F.Continue l)

open_par : (l : Line) (branches : List (Block Stmt)) → ends_open (s.Par l branches) ≡ false
open_par l branches = ap ends_open (sym (s.rolls-Par l branches)) ∙ open_roll (Stmt-F.Par l branches)

-- ---- such a statement is not derived before `else`

else_kind : (k : Kind) → is_word Word.Else (Some k) ≡ true → IsNotElse k → ⊥
else_kind (Kind.Word w) e h = subst (λ z. IsNotElse (Kind.Word z)) (same_true word_type.the_type tt w Word.Else e) h
else_kind (Kind.Mark m) e h = false_true e
else_kind (Kind.Id n) e h = false_true e
else_kind (Kind.Num n) e h = false_true e

pub not_before_else : (r : Symbols) → NoElse r → Begins (is_word Word.Else) r → ⊥
not_before_else [] h e = false_true e
not_before_else (t ∷ r) h e = else_kind t.kind e h

mutual
  pub closed_before_else : {M : May Symbol} {c : ℕ} {ts : Symbols} {a : Stmt} {r : Symbols} → StmtAt M c ts a r → Begins (is_word Word.Else) r
      → ends_open a ≡ false
  closed_before_else (stmt may d) e = closed_statement d e

  closed_statement : {M : May Symbol} {c : ℕ} {ts : Symbols} {a : Stmt} {r : Symbols} → StatementAt M c ts a r → Begins (is_word Word.Else) r
      → ends_open a ≡ false
  closed_statement (braced {b = b} d) e = open_block b
  closed_statement (empty {l = l}) e = open_empty l
  closed_statement (simple {a = a} d) e = open_simple a
  closed_statement (return {l = l} {a = a} d) e = open_return l a
  closed_statement (break {l = l}) e = open_break l
  closed_statement (continue {l = l}) e = open_continue l
  closed_statement (if_alone {rest = rest} d f h) e = absurd (not_before_else rest h e)
  closed_statement (if_else {l = l} {a = a} {x = x} {y = y} d f g) e = open_else l a x y ∙ closed_before_else g e
  closed_statement (while {l = l} {a = a} {x = x} d f) e = open_while l a x ∙ closed_before_else f e
  closed_statement (for {l = l} {start = start} {a = a} {step = step} {x = x} d f g h) e = open_for l start a step x ∙ closed_before_else h e
  closed_statement (par {l = l} {branches = branches} d) e = open_par l branches
