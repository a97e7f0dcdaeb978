-- The tokens of an expression are derived as it, on one line, at each place.
use Rattle.std.proofs.Common.{◌≡◌, ℕ, suc, ◌+◌, ◌-◌, ◌<◌, ◌≤◌, ◌⊎◌, inl, inr, List, [], ◌∷◌, ◌++◌, take, drop, refl, ap, ◌∙◌, sym, subst, append_assoc, arith}
use Rattle.std.proofs.lemmas.Bool.{cases_lt}
use Rattle.std.proofs.lemmas.List.{append-nil, take-append-drop, drop-drop}
use Rattle.c_lex.specs.declared.token.Mark.{Mark}
use Rattle.c_ast.specs.declared.expr.Expr.{Expr}
use Rattle.c_ast.specs.declared.expr.Form.{Form, out-Form}
use Rattle.parse_law.specs.Nesting.{Anywhere}
use Rattle.c_parse.specs.declared.operators.Tier.{Tier}
use Rattle.c_parse.specs.Operators.{tiers}
use Rattle.c_parse.specs.Exprs as g
use Rattle.c_print.specs.Precedence.{postfix}
use Rattle.c_print.specs.SameTree as one
use Rattle.c_print.proofs.Joining.{on_line, raise}
use Rattle.c_print.specs.TreeTokens.{Kinds, in_parens, level, mark, of_form}
use Rattle.c_print.proofs.Levels.{loose, tight}
use Rattle.c_print.proofs.TypeReads.{at}

-- the form on one line, as an expression
abbrev pub alone : Form → Expr
alone x = record { line = one.first; form = one.form x }

-- the tiers from a place on
abbrev pub from : ℕ → List Tier
from place = drop place tiers

pub record Leveled (lower : List Tier) (c : ℕ) (ks : Kinds) (a : Expr) (rest : Kinds) : Type 0 where
  pub counter : ℕ
  pub stands : g.LevelAt Anywhere lower c (on_line ks) a (on_line rest) counter

-- at each place the tokens of a form are derived as it
pub record Reads (x : Form) : Type 0 where
  pub levels : (place : ℕ) → place ≤ 10 → (c : ℕ) (rest : Kinds) → Leveled (from place) c (of_form x place ++ rest) (alone x) rest
  pub operand : (c : ℕ) (rest : Kinds) → g.PostfixAt Anywhere c (on_line (of_form x postfix ++ rest)) (alone x) (on_line rest)

moved : {lower other : List Tier} {c : ℕ} {ks ls rest : Kinds} {a : Expr} → lower ≡ other → ks ≡ ls → Leveled other c ls a rest → Leveled lower c ks a rest
moved {lower} {other} {c} {ks} {ls} {rest} {a} e h l =
    subst (λ (x : List Tier). Leveled x c ks a rest) (sym e) (subst (λ (k : Kinds). Leveled other c k a rest) (sym h) l)

raised : (more : List Tier) {lower : List Tier} {c : ℕ} {ks rest : Kinds} {a : Expr} → Leveled lower c ks a rest → Leveled (more ++ lower) c ks a rest
raised more l = record { counter = l.counter; stands = raise more l.stands }

-- a place below another takes what it takes
below : {place own : ℕ} → place ≤ own → from place ≡ take (own - place) (from place) ++ from own
below {place} {own} h =
    let sum : place + (own - place) ≡ own = omega arith in
    sym (take-append-drop (own - place) (from place))
    ∙ ap (λ ks. take (own - place) (from place) ++ ks) (drop-drop (own - place) place tiers ∙ ap from sum)

-- a postfix is an expression of every level
by_postfix : {ks rest : Kinds} {a : Expr} → ((c : ℕ) → g.PostfixAt Anywhere c (on_line ks) a (on_line rest)) → (place c : ℕ) → Leveled (from place) c ks a rest
by_postfix {ks} {rest} {a} p place c =
    moved (sym (append-nil (from place))) refl
    (raised (from place) {lower = []} (record { counter = c; stands = g.single (g.unary tt (g.suffixed (p (suc c)))) }))

pub whole : {ks rest : Kinds} {a : Expr} {c : ℕ} → Leveled (from 0) c ks a rest → g.ExprAt Anywhere c (on_line ks) a (on_line rest)
whole l = g.expr l.stands

parens_append : (ks rest : Kinds) → in_parens ks ++ rest ≡ mark Mark.OpenParen ∷ (ks ++ mark Mark.CloseParen ∷ rest)
parens_append ks rest = ap (λ ls. mark Mark.OpenParen ∷ ls) (append_assoc ks (mark Mark.CloseParen ∷ []) rest)

-- in parentheses
parenthesized : (x : Form) → ((c : ℕ) (rest : Kinds) → Leveled (from 0) c (of_form x 0 ++ rest) (alone x) rest)
    → (c : ℕ) (rest : Kinds) → g.PostfixAt Anywhere c (on_line (in_parens (of_form x 0) ++ rest)) (alone x) (on_line rest)
parenthesized x w c rest =
    at (λ ts. g.PostfixAt Anywhere c ts (alone x) (on_line rest)) (parens_append (of_form x 0) rest)
    (g.postfix (g.paren (whole (w c (mark Mark.CloseParen ∷ rest)))) g.no_suffix)

-- what holds together as tightly as a postfix
pub of_postfix : (x : Form) → level (out-Form x) ≡ postfix
    → ((c : ℕ) (rest : Kinds) → g.PostfixAt Anywhere c (on_line (of_form x 0 ++ rest)) (alone x) (on_line rest)) → Reads x
of_postfix x own p = record {
  levels = λ place h c rest. moved refl (ap (λ ks. ks ++ rest) (tight x place (omega arith))) (by_postfix (λ k. p k rest) place c);
  operand = λ c rest. at (λ ts. g.PostfixAt Anywhere c ts (alone x) (on_line rest)) (ap (λ ks. ks ++ rest) (tight x postfix (omega arith))) (p c rest);
}

-- what holds together as tightly as this level
module _ (x : Form) (own : ℕ) (most : own ≤ 10) (is : level (out-Form x) ≡ own)
    (bare : (c : ℕ) (rest : Kinds) → Leveled (from own) c (of_form x 0 ++ rest) (alone x) rest) where
  low : (place : ℕ) → place ≤ own → (c : ℕ) (rest : Kinds) → Leveled (from place) c (of_form x 0 ++ rest) (alone x) rest
  low place h c rest = moved (below h) refl (raised (take (own - place) (from place)) (bare c rest))

  closed : (c : ℕ) (rest : Kinds) → g.PostfixAt Anywhere c (on_line (in_parens (of_form x 0) ++ rest)) (alone x) (on_line rest)
  closed = parenthesized x (low 0 (omega arith))

  at_place : (place : ℕ) → (own < place) ⊎ (place ≤ own) → (c : ℕ) (rest : Kinds) → Leveled (from place) c (of_form x place ++ rest) (alone x) rest
  at_place place (inl h) c rest = moved refl (ap (λ ks. ks ++ rest) (loose x place (omega arith))) (by_postfix (λ k. closed k rest) place c)
  at_place place (inr h) c rest = moved refl (ap (λ ks. ks ++ rest) (tight x place (omega arith))) (low place h c rest)

  pub of_level : Reads x
  of_level = record {
    levels = λ place h c rest. at_place place (cases_lt own place) c rest;
    operand = λ c rest. at (λ ts. g.PostfixAt Anywhere c ts (alone x) (on_line rest)) (ap (λ ks. ks ++ rest) (loose x postfix (omega arith))) (closed c rest);
  }
