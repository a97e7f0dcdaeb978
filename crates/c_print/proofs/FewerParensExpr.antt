-- The tokens of an expression are those that it was derived from, but for some parentheses.
use Rattle.std.proofs.Common.{◌≡◌, ℕ, suc, ◌<◌, ◌≤◌, ◌⊎◌, inl, inr, List, ◌∷◌, ◌++◌, refl, ap, ◌∙◌, sym, arith}
use Rattle.std.proofs.lemmas.Bool.{cases_lt}
use Rattle.std.proofs.lemmas.List.{append-nil}
use Rattle.dfi_base.specs.declared.numbers.Line.{Line}
use Rattle.c_lex.specs.declared.token.Mark.{Mark}
use Rattle.c_ast.specs.declared.ident.Ident.{Ident}
use Rattle.c_ast.specs.declared.expr.BinaryOp.{BinaryOp}
use Rattle.c_ast.specs.declared.expr.Expr.{Expr}
use Rattle.c_ast.specs.declared.expr.Form.{Form, out-Form}
use Rattle.c_ast.specs.declared.expr.Form.TheVariants as f
use Rattle.parse_law.specs.Nesting.{May}
use Rattle.c_parse.specs.Symbol.{Symbol, Symbols, mark as symbol}
use Rattle.c_parse.specs.declared.operators.Tier.{Tier}
use Rattle.c_parse.specs.Exprs as g
use Rattle.c_print.specs.Precedence.{precedence, prefixed, postfix}
use Rattle.c_print.specs.Signs.{binary_sign}
use Rattle.c_print.specs.TreeTokens.{level, mark, of_call, of_expr, of_form, of_whole, with_commas}
use Rattle.c_print.proofs.Levels.{loose, tight}
use Rattle.c_print.proofs.Forms as text
use Rattle.c_print.proofs.ExprReads.{from}
use Rattle.c_print.proofs.FormReads as form
use Rattle.c_print.proofs.FewerParens.{Filled, Thin, same, keep, lost, opens, closes, above, after_comma, as_kinds, both, closed, lower_place, one_place, sign_unary_is, type_name}

-- the tokens of an operator and its operands, where they stand at its own place
joined : (a : Expr) (op : BinaryOp) (b : Expr) (k : Mark) (place : ℕ) → precedence op ≡ place → k ≡ binary_sign op
    → of_form (f.Binary a op b) place ≡ of_expr a place ++ mark k ∷ of_expr b (suc place)
joined a op b k place e h =
    let l = form.level_binary a op b in
    tight (f.Binary a op b) place (omega (arith, l, e)) ∙ text.binary a op b
    ∙ ap (λ n. of_expr a n ++ mark (binary_sign op) ∷ of_expr b (suc n)) e ∙ ap (λ m. of_expr a place ++ mark m ∷ of_expr b (suc place)) (sym h)

-- in parentheses, which the place may want or not
in_source : (x : Form) {l p : Line} {ts us : Symbols} → Thin ts (of_form x 0) (symbol Mark.CloseParen p ∷ us) → Thin (symbol Mark.OpenParen l ∷ ts) (of_form x postfix) us
in_source x {l} {p} {ts} {us} d = by (cases_lt (level (out-Form x)) postfix)
  where
    by : (level (out-Form x) < postfix) ⊎ (postfix ≤ level (out-Form x)) → Thin (symbol Mark.OpenParen l ∷ ts) (of_form x postfix) us
    by (inl h) = as_kinds (loose x postfix h) (keep (closed d))
    by (inr h) = as_kinds (tight x postfix h ∙ sym (append-nil (of_form x 0))) (lost opens (both d (lost closes same)))

filled_arguments : {may : May Symbol} {c : ℕ} {ts us : Symbols} {args : List Expr} → g.ArgumentsAt may c ts args us → Filled args
filled_arguments (g.last_argument e) = tt
filled_arguments (g.more_arguments e x) = tt

mutual
  pub expr_thin : {may : May Symbol} {c : ℕ} {ts us : Symbols} {a : Expr} → g.ExprAt may c ts a us → Thin ts (of_whole a) us
  expr_thin (g.expr l) = level_thin l 0 (omega arith) refl

  level_thin : {may : May Symbol} {lower : List Tier} {c d : ℕ} {ts us : Symbols} {a : Expr} → g.LevelAt may lower c ts a us d
      → (place : ℕ) → place ≤ 10 → from place ≡ lower → Thin ts (of_expr a place) us
  level_thin (g.single {a = a} u) place h e = lower_place a.form prefixed place h (unary_thin u)
  level_thin (g.level {tier = tier} {lower = lower} {a = a} l o) place h e =
      let up = above place tier lower h e in
      let least = up.least in
      operators_thin o place least e (lower_place a.form (suc place) place (omega arith) (level_thin l (suc place) (omega (arith, least)) up.rest))

  operators_thin : {may : May Symbol} {tier : Tier} {lower : List Tier} {l : Line} {c d : ℕ} {ts m us : Symbols} {a b : Expr}
      → g.OperatorsAt may tier lower l c a m b us d → (place : ℕ) → place ≤ 9 → from place ≡ tier ∷ lower → Thin ts (of_expr a place) m → Thin ts (of_expr b place) us
  operators_thin g.no_operator place h e t = t
  operators_thin (g.binary {tier = tier} {lower = lower} {k = k} {op = op} {a = a} {b = b} q w r o) place h e t =
      let up = above place tier lower (omega (arith, h)) e in
      let one = one_place place k tier op lower h e q in
      operators_thin o place h e
      (as_kinds (joined a op b k place one.0 one.1) (both t (keep (level_thin r (suc place) (omega (arith, h)) up.rest))))

  pub unary_thin : {may : May Symbol} {c : ℕ} {ts us : Symbols} {a : Expr} → g.UnaryAt may c ts a us → Thin ts (of_expr a prefixed) us
  unary_thin (g.unary w o) = operand_thin o

  operand_thin : {may : May Symbol} {c : ℕ} {ts us : Symbols} {a : Expr} → g.OperandAt may c ts a us → Thin ts (of_expr a prefixed) us
  operand_thin (g.prefixed {k = k} {op = op} {a = a} e u) =
      let l = form.level_unary op a in
      as_kinds (tight (f.Unary op a) prefixed (omega (arith, l)) ∙ text.unary op a ∙ ap (λ m. mark m ∷ of_expr a prefixed) (sym (sign_unary_is k op e))) (keep (unary_thin u))
  operand_thin (g.cast {t = t} {a = a} n u) =
      let l = form.level_cast t a in
      as_kinds (tight (f.Cast t a) prefixed (omega (arith, l)) ∙ text.cast t a) (keep (both (closed (type_name n)) (unary_thin u)))
  operand_thin (g.suffixed {a = a} p) = lower_place a.form postfix prefixed (omega arith) (postfix_thin p)

  pub postfix_thin : {may : May Symbol} {c : ℕ} {ts us : Symbols} {a : Expr} → g.PostfixAt may c ts a us → Thin ts (of_expr a postfix) us
  postfix_thin (g.postfix p s) = suffixes_thin s (primary_thin p)

  suffixes_thin : {may : May Symbol} {l : Line} {c d : ℕ} {ts m us : Symbols} {a b : Expr} → g.SuffixesAt may l c a m b us d
      → Thin ts (of_expr a postfix) m → Thin ts (of_expr b postfix) us
  suffixes_thin g.no_suffix t = t
  suffixes_thin (g.index {a = a} {b = b} w e s) t =
      let l = form.level_index a b in
      suffixes_thin s (as_kinds (tight (f.Index a b) postfix (omega (arith, l)) ∙ text.index a b) (both t (keep (closed (expr_thin e)))))
  suffixes_thin (g.field {k = k} {n = n} {a = a} w s) t =
      let i : Ident = record { line = k; name = n } in
      let l = form.level_field a i in
      suffixes_thin s (as_kinds (tight (f.Field a i) postfix (omega (arith, l)) ∙ text.field a i) (both t (keep (keep same))))
  suffixes_thin (g.arrow {k = k} {n = n} {a = a} w s) t =
      let i : Ident = record { line = k; name = n } in
      let l = form.level_arrow a i in
      suffixes_thin s (as_kinds (tight (f.Arrow a i) postfix (omega (arith, l)) ∙ text.arrow a i) (both t (keep (keep same))))

  primary_thin : {may : May Symbol} {c : ℕ} {ts us : Symbols} {a : Expr} → g.PrimaryAt may c ts a us → Thin ts (of_expr a postfix) us
  primary_thin (g.numeral {k = k}) = let l = form.level_numeral k in as_kinds (tight (f.Number k) postfix (omega (arith, l)) ∙ text.numeral k) (keep same)
  primary_thin g.null = let l = form.level_null in as_kinds (tight f.Null postfix (omega (arith, l)) ∙ text.null) (keep same)
  primary_thin (g.variable {n = n} {l = q}) =
      let i : Ident = record { line = q; name = n } in
      let l = form.level_variable i in as_kinds (tight (f.Name i) postfix (omega (arith, l)) ∙ text.variable i) (keep same)
  primary_thin (g.called {f = i} {args = args} x) =
      let l = form.level_call i args in as_kinds (tight (f.Call i args) postfix (omega (arith, l)) ∙ text.call i args) (call_thin x)
  primary_thin (g.paren {a = a} e) = in_source a.form (expr_thin e)
  primary_thin (g.sizeof {t = t} n) = let l = form.level_sizeof t in as_kinds (tight (f.Sizeof t) postfix (omega (arith, l)) ∙ text.sizeof t) (keep (keep (closed (type_name n))))

  pub call_thin : {may : May Symbol} {c : ℕ} {ts us : Symbols} {i : Ident} {args : List Expr} → g.CallAt may c ts i args us → Thin ts (of_call i args) us
  call_thin g.no_argument = keep (keep (keep same))
  call_thin (g.call x) = keep (keep (closed (arguments_thin x)))

  arguments_thin : {may : May Symbol} {c : ℕ} {ts us : Symbols} {args : List Expr} → g.ArgumentsAt may c ts args us → Thin ts (with_commas of_whole args) us
  arguments_thin (g.last_argument e) = both (expr_thin e) same
  arguments_thin (g.more_arguments {others = others} e x) = both (expr_thin e) (after_comma of_whole others (filled_arguments x) (arguments_thin x))
