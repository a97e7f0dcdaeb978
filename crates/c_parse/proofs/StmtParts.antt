-- The parts of statements that hold no statement are read by their grammar.
use Rattle.std.proofs.Common.{◌≡◌, ℕ, Bool, true, false, Option, Some, None, [], ◌∷◌, refl, sym, subst, ◌∙◌}
use Rattle.dfi_base.specs.declared.numbers.Line.{Line}
use Rattle.c_lex.specs.declared.token.Word.{Word}
use Rattle.c_lex.specs.declared.token.Mark.{Mark}
use Rattle.c_lex.specs.declared.token.Kind.{Kind}
use Rattle.c_ast.specs.declared.decl.Decl.{Decl}
use Rattle.c_ast.specs.declared.expr.Expr.{Expr}
use Rattle.c_ast.specs.declared.stmt.Simple.{Simple}
use Rattle.c_ast.specs.declared.stmt.ForStart.{ForStart}
use Rattle.parse_law.specs.Nesting.{May}
use Rattle.parse_law.proofs.Forms.{Form, Fits}
use Rattle.parse_law.proofs.Bind.{Seq}
use Rattle.parse_law.proofs.Steps.{Any, false_true}
use Rattle.c_parse.specs.declared.sorts.StmtStart.{StmtStart}
use Rattle.c_parse.specs.Symbol.{Symbol, Symbols, mark}
use Rattle.c_parse.specs.Operators.{tiers}
use Rattle.c_parse.specs.tools.Sorts.{is_operand, is_base, stmt_start}
use Rattle.c_parse.specs.tools.Tokens.{next, kind_of, want}
use Rattle.c_parse.specs.Stmts.{DeclAt, decl as decl_at, SimpleAt, assign, increment, decrement, pre_increment, pre_decrement, call, OptionalExprAt, OptionalSimpleAt, ForStartAt}
use Rattle.c_parse.specs.tools.StmtParser as spec
use Rattle.c_parse.proofs.Parts.{Part, Gives, gives, gives_part, seq, narrow, widen, Branch, branch, dispatch, dispatch_empty}
use Rattle.c_parse.proofs.TokenParts.{MarkAt, marked, mark_any, mark_part, AnyToken, line_one, Only, only_mark}
use Rattle.c_parse.proofs.LevelLaws.{AfterLevel}
use Rattle.c_parse.proofs.Begins.{Begins, base_begins, call_begins, postfix_begins, unary_begins, expr_begins, no_mark}
use Rattle.c_parse.proofs.OperandForms.{expr_then_close, expr_then_semicolon}
use Rattle.c_parse.proofs.DeclLaws.{E, expr_at_part, Decls, decl_part}
use Rattle.c_parse.proofs.SimpleLaws.{AfterSimple, Simples, simple_part}

pub simple_then_close : (l : Line) → AfterSimple (mark Mark.CloseParen l)
simple_then_close l = (expr_then_close l, refl)

pub simple_then_semicolon : (l : Line) → AfterSimple (mark Mark.Semicolon l)
simple_then_semicolon l = (expr_then_semicolon l, refl)

-- ---- what a simple statement begins with

abbrev pub is_simple_by : StmtStart → Bool
is_simple_by StmtStart.Simple = true
is_simple_by _ = false

abbrev pub is_simple : Option Kind → Bool
is_simple k = is_simple_by (stmt_start k)

operand_simple : (k : Option Kind) → is_operand k ≡ true → is_simple k ≡ true
operand_simple None e = false_true e
operand_simple (Some (Kind.Id n)) e = refl
operand_simple (Some (Kind.Num n)) e = refl
operand_simple (Some (Kind.Word Word.Null)) e = refl
operand_simple (Some (Kind.Word Word.Sizeof)) e = refl
operand_simple (Some (Kind.Word _)) e = false_true e
operand_simple (Some (Kind.Mark Mark.Minus)) e = refl
operand_simple (Some (Kind.Mark Mark.Plus)) e = refl
operand_simple (Some (Kind.Mark Mark.Not)) e = refl
operand_simple (Some (Kind.Mark Mark.Tilde)) e = refl
operand_simple (Some (Kind.Mark Mark.Star)) e = refl
operand_simple (Some (Kind.Mark Mark.And)) e = refl
operand_simple (Some (Kind.Mark Mark.OpenParen)) e = refl
operand_simple (Some (Kind.Mark _)) e = false_true e

pub simple_begins : {M : May Symbol} {c : ℕ} {ts : Symbols} {a : Simple} {r : Symbols} → SimpleAt M c ts a r → Begins is_simple ts
simple_begins {ts = ts} (assign u e b) = operand_simple (kind_of (next ts)) (unary_begins u)
simple_begins {ts = ts} (increment may d) = operand_simple (kind_of (next ts)) (postfix_begins d)
simple_begins {ts = ts} (decrement may d) = operand_simple (kind_of (next ts)) (postfix_begins d)
simple_begins (pre_increment u) = refl
simple_begins (pre_decrement u) = refl
simple_begins {ts = ts} (call may d) = operand_simple (kind_of (next ts)) (call_begins d)

pub simple_no_base : (k : Option Kind) → is_simple k ≡ true → is_base k ≡ false
simple_no_base None e = refl
simple_no_base (Some (Kind.Mark m)) e = refl
simple_no_base (Some (Kind.Id n)) e = refl
simple_no_base (Some (Kind.Num n)) e = refl
simple_no_base (Some (Kind.Word Word.Int)) e = false_true e
simple_no_base (Some (Kind.Word Word.Struct)) e = false_true e
simple_no_base (Some (Kind.Word _)) e = refl

-- what passes the test is neither the mark nor the end
pub no_end : (test : Option Kind → Bool) (m : Mark) → test (Some (Kind.Mark m)) ≡ false → test None ≡ false → (k : Option Kind) → test k ≡ true
    → spec.is_end m k ≡ false
no_end test m not_mark not_none None e = false_true (sym not_none ∙ e)
no_end test m not_mark not_none (Some k) e = no_mark test m not_mark (Some k) e

end_before : (m : Mark) (ts : Symbols) → Fits (Only m) ts → spec.is_end m (kind_of (next ts)) ≡ true
end_before m [] h = refl
end_before m (t ∷ ts) h = h

-- ---- [ expr ]

abbrev pub OptionalExprs : ℕ → Form Symbol (Option Expr)
OptionalExprs c M ts a r = OptionalExprAt M c ts a r

abbrev OptionalExprBy : ℕ → Bool → Form Symbol (Option Expr)
OptionalExprBy c true = Gives None
OptionalExprBy c false = Seq (E c) (λ a. Gives (Some a))

optional_expr_to : (c : ℕ) (b : Bool) (M : May Symbol) (ts : Symbols) (a : Option Expr) (r : Symbols) → OptionalExprBy c b M ts a r → OptionalExprAt M c ts a r
optional_expr_to c true M ts a r gives = OptionalExprAt.none
optional_expr_to c false M ts a r (x, m, d, gives) = OptionalExprAt.some d

optional_expr_back : (c : ℕ) (M : May Symbol) (ts : Symbols) (a : Option Expr) (r : Symbols) → OptionalExprAt M c ts a r → Fits (Only Mark.Semicolon) r
    → OptionalExprBy c (spec.is_end Mark.Semicolon (kind_of (next ts))) M ts a r
optional_expr_back c M ts a r OptionalExprAt.none h = subst (λ z. OptionalExprBy c z M ts None ts) (sym (end_before Mark.Semicolon ts h)) gives
optional_expr_back c M ts a r (OptionalExprAt.some {a = x} d) h =
    subst (λ z. OptionalExprBy c z M ts (Some x) r) (sym (no_end is_operand Mark.Semicolon refl refl (kind_of (next ts)) (expr_begins d))) (x, r, d, gives)

optional_expr_only : (c : ℕ) (M : May Symbol) (a : Option Expr) (r : Symbols) → OptionalExprAt M c [] a r → (◌≡◌ {A = Option Expr} None a) × ([] ≡ r)
optional_expr_only c M a r OptionalExprAt.none = (refl, refl)
optional_expr_only c M a r (OptionalExprAt.some d) = absurd (false_true (expr_begins d))

module _ (limit : ℕ) where
  optional_expr_branches : (c : ℕ) (b : Bool) → Branch limit (spec.optional_expr_by limit c b) (OptionalExprBy c b) (λ a. Only Mark.Semicolon) AnyToken
  optional_expr_branches c true = branch limit (widen limit (gives_part limit None) (λ t h. tt))
  optional_expr_branches c false =
      branch limit (narrow limit (seq limit (expr_at_part limit c) (λ a. gives_part limit (Some a))) (λ a. only_mark Mark.Semicolon (AfterLevel tiers) expr_then_semicolon))

  pub optional_expr_part : (c : ℕ) → Part limit (spec.optional_expr limit c) (OptionalExprs c) (λ a. Only Mark.Semicolon) AnyToken
  unfolding spec.optional_expr
  optional_expr_part c =
      dispatch_empty limit (λ t. spec.is_end Mark.Semicolon (kind_of t)) (spec.optional_expr_by limit c) (OptionalExprBy c) (OptionalExprs c) (λ a. Only Mark.Semicolon) AnyToken
      (λ M t us. optional_expr_to c (spec.is_end Mark.Semicolon (Some t.kind)) M (t ∷ us)) (optional_expr_back c) (optional_expr_branches c)
      None refl (λ M ts h. OptionalExprAt.none) (λ M a r d h. optional_expr_only c M a r d)

-- ---- [ simple ]

abbrev pub OptionalSimples : ℕ → Form Symbol (Option Simple)
OptionalSimples c M ts a r = OptionalSimpleAt M c ts a r

abbrev OptionalSimpleBy : ℕ → Bool → Form Symbol (Option Simple)
OptionalSimpleBy c true = Gives None
OptionalSimpleBy c false = Seq (Simples c) (λ a. Gives (Some a))

optional_simple_to : (c : ℕ) (b : Bool) (M : May Symbol) (ts : Symbols) (a : Option Simple) (r : Symbols) → OptionalSimpleBy c b M ts a r
    → OptionalSimpleAt M c ts a r
optional_simple_to c true M ts a r gives = OptionalSimpleAt.none
optional_simple_to c false M ts a r (x, m, d, gives) = OptionalSimpleAt.some d

optional_simple_only : (c : ℕ) (M : May Symbol) (a : Option Simple) (r : Symbols) → OptionalSimpleAt M c [] a r → (◌≡◌ {A = Option Simple} None a) × ([] ≡ r)
optional_simple_only c M a r OptionalSimpleAt.none = (refl, refl)
optional_simple_only c M a r (OptionalSimpleAt.some d) = absurd (false_true (simple_begins d))

-- before this mark, which begins no simple statement and may follow one
module _ (m : Mark) (apart : is_simple (Some (Kind.Mark m)) ≡ false) (after : (l : Line) → AfterSimple (mark m l)) where
  optional_simple_back : (c : ℕ) (M : May Symbol) (ts : Symbols) (a : Option Simple) (r : Symbols) → OptionalSimpleAt M c ts a r → Fits (Only m) r
      → OptionalSimpleBy c (spec.is_end m (kind_of (next ts))) M ts a r
  optional_simple_back c M ts a r OptionalSimpleAt.none h = subst (λ z. OptionalSimpleBy c z M ts None ts) (sym (end_before m ts h)) gives
  optional_simple_back c M ts a r (OptionalSimpleAt.some {a = x} d) h =
      subst (λ z. OptionalSimpleBy c z M ts (Some x) r) (sym (no_end is_simple m apart refl (kind_of (next ts)) (simple_begins d))) (x, r, d, gives)

  module _ (limit : ℕ) where
    optional_simple_branches : (c : ℕ) (b : Bool) → Branch limit (spec.optional_simple_by limit c b) (OptionalSimpleBy c b) (λ a. Only m) AnyToken
    optional_simple_branches c true = branch limit (widen limit (gives_part limit None) (λ t h. tt))
    optional_simple_branches c false = branch limit (narrow limit (seq limit (simple_part limit c) (λ a. gives_part limit (Some a))) (λ a. only_mark m AfterSimple after))

    pub optional_simple_part : (c : ℕ) → Part limit (spec.optional_simple limit m c) (OptionalSimples c) (λ a. Only m) AnyToken
    unfolding spec.optional_simple
    optional_simple_part c =
        dispatch_empty limit (λ t. spec.is_end m (kind_of t)) (spec.optional_simple_by limit c) (OptionalSimpleBy c) (OptionalSimples c) (λ a. Only m) AnyToken
        (λ M t us. optional_simple_to c (spec.is_end m (Some t.kind)) M (t ∷ us)) (optional_simple_back c) (optional_simple_branches c)
        None refl (λ M ts h. OptionalSimpleAt.none) (λ M a r d h. optional_simple_only c M a r d)

-- ---- the first part of a `for`

abbrev pub ForStarts : ℕ → Form Symbol ForStart
ForStarts c M ts a r = ForStartAt M c ts a r

abbrev ForStartBy : ℕ → Bool → Form Symbol ForStart
ForStartBy c true = Seq (Decls c) (λ d. Gives (ForStart.Decl d))
ForStartBy c false = Seq (OptionalSimples c) (λ a. Seq (MarkAt Mark.Semicolon) (λ q. Gives (ForStart.Simple a)))

for_start_to : (c : ℕ) (b : Bool) (M : May Symbol) (ts : Symbols) (a : ForStart) (r : Symbols) → ForStartBy c b M ts a r → ForStartAt M c ts a r
for_start_to c true M ts a r (d, m, e, gives) = ForStartAt.decl e
for_start_to c false M ts a r (x, m, d, (q, n, marked, gives)) = ForStartAt.simple d

pub decl_begins : {M : May Symbol} {c : ℕ} {ts : Symbols} {d : Decl} {r : Symbols} → DeclAt M c ts d r → Begins is_base ts
decl_begins (decl_at e f) = base_begins e

-- no declaration begins where a simple statement or its semicolon stands
no_base_first : {M : May Symbol} {c : ℕ} {ts : Symbols} {a : Option Simple} {l : Line} {r : Symbols}
    → OptionalSimpleAt M c ts a (mark Mark.Semicolon l ∷ r) → is_base (kind_of (next ts)) ≡ false
no_base_first OptionalSimpleAt.none = refl
no_base_first {ts = ts} (OptionalSimpleAt.some d) = simple_no_base (kind_of (next ts)) (simple_begins d)

for_start_back : (c : ℕ) (M : May Symbol) (ts : Symbols) (a : ForStart) (r : Symbols) → ForStartAt M c ts a r
    → ForStartBy c (is_base (kind_of (next ts))) M ts a r
for_start_back c M ts a r (ForStartAt.decl {d = d} e) = subst (λ z. ForStartBy c z M ts (ForStart.Decl d) r) (sym (decl_begins e)) (d, r, e, gives)
for_start_back c M ts a r (ForStartAt.simple {a = x} d) = subst (λ z. ForStartBy c z M ts (ForStart.Simple x) r) (sym (no_base_first d)) (x, _, d, (_, r, marked, gives))

module _ (limit : ℕ) where
  for_start_branches : (c : ℕ) (b : Bool) → Branch limit (spec.for_start_by limit c b) (ForStartBy c b) Any AnyToken
  for_start_branches c true = branch limit (seq limit (decl_part limit c) (λ d. widen limit (gives_part limit {F = Any} (ForStart.Decl d)) (λ t h. tt)))
  for_start_branches c false =
      branch limit (seq limit (optional_simple_part Mark.Semicolon refl simple_then_semicolon limit c) (λ a. seq limit (mark_part limit Mark.Semicolon (λ l. refl)) (λ q. gives_part limit (ForStart.Simple a))))

  pub for_start_part : (c : ℕ) → Part limit (spec.for_start limit c) (ForStarts c) Any AnyToken
  unfolding spec.for_start spec.optional_simple want
  for_start_part c =
      dispatch limit (λ t. is_base (kind_of t)) (spec.for_start_by limit c) (ForStartBy c) (ForStarts c) Any AnyToken
      (λ M t us. for_start_to c (is_base (Some t.kind)) M (t ∷ us)) (λ M ts a r d h. for_start_back c M ts a r d) (for_start_branches c)
      (record { tokens = mark Mark.Semicolon line_one ∷ []; value = ForStart.Simple None; holds = λ M l r free h. ForStartAt.simple OptionalSimpleAt.none })
      refl (λ M a r d h. nothing d)
    where
      some_there : {M : May Symbol} {a : Option Simple} {l : Line} {r : Symbols} → OptionalSimpleAt M c [] a (mark Mark.Semicolon l ∷ r) → ⊥
      some_there (OptionalSimpleAt.some d) = false_true (simple_begins d)

      nothing : {M : May Symbol} {a : ForStart} {r : Symbols} → ForStartAt M c [] a r → ⊥
      nothing (ForStartAt.decl e) = false_true (decl_begins e)
      nothing (ForStartAt.simple d) = some_there d

  -- ---- "(" expr ")"

  abbrev pub Conditions : ℕ → Form Symbol Expr
  Conditions c = Seq (MarkAt Mark.OpenParen) (λ p. Seq (E c) (λ a. Seq (MarkAt Mark.CloseParen) (λ q. Gives a)))

  pub condition_part : (c : ℕ) → Part limit (spec.condition limit c) (Conditions c) Any AnyToken
  unfolding spec.condition
  condition_part c =
      seq limit (mark_any limit Mark.OpenParen) (λ p. widen limit (seq limit (expr_at_part limit c) (λ a. seq limit (mark_part limit Mark.CloseParen expr_then_close) (λ q. gives_part limit a))) (λ t h. tt))
