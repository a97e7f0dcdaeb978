-- The knot: a `unary` within a `unary`.
use Rattle.std.proofs.Common.{◌≡◌, ℕ, zero, suc, ◌+◌, ◌<◌, ◌≤◌, Bool, true, false, if◌then◌else◌, Option, Some, None, List, [], ◌∷◌, refl, sym, ap, subst, arith}
use Rattle.dfi_base.specs.declared.numbers.Line.{Line}
use Rattle.c_lex.specs.declared.token.Word.{Word}
use Rattle.c_lex.specs.declared.token.Mark.{Mark}
use Rattle.c_lex.specs.declared.token.Kind.{Kind}
use Rattle.c_ast.specs.declared.ident.Ident.{Ident}
use Rattle.c_ast.specs.declared.decl.Base.{Base}
use Rattle.c_ast.specs.declared.expr.UnaryOp.{UnaryOp}
use Rattle.c_ast.specs.declared.expr.Expr.{Expr}
use Rattle.c_parse.specs.Nodes as tree
use Rattle.parse_law.specs.tools.Parsing.{fault, unexpected, deep, peek, rising, refuse, level}
use Rattle.parse_law.specs.Nesting.{May}
use Rattle.parse_law.proofs.Forms.{Form, Follow, Completes, Law}
use Rattle.parse_law.proofs.Bind.{Seq}
use Rattle.parse_law.proofs.Steps.{fits_any, false_true}
use Rattle.parse_law.proofs.FirstTokens.{level_law}
use Rattle.parse_law.proofs.Repeat.{Takes}
use Rattle.c_parse.specs.declared.subject.Subject.{Subject}
use Rattle.c_parse.specs.Symbol.{Symbol, Symbols, word, mark, name, number}
use Rattle.c_parse.specs.Operators.{unary_op}
use Rattle.c_parse.specs.tools.Sorts.{is_operand, is_operand_by}
use Rattle.c_parse.specs.tools.Tokens.{P, next, kind_of, goes}
use Rattle.c_parse.specs.Types.{type_name, int, no_star}
use Rattle.c_parse.specs.Exprs.{UnaryAt, unary, OperandAt, prefixed, cast, suffixed, PostfixAt, postfix, SuffixesAt, no_suffix, index, field, arrow, numeral, null, variable, called, paren, sizeof, CallAt, no_argument, call}
use Rattle.c_parse.specs.tools.ExprParser as spec
use Rattle.c_parse.proofs.Parts.{Part, Gives, gives, given, gives_part, seq, restate}
use Rattle.c_parse.proofs.TokenParts.{AnyToken, line_one}
use Rattle.c_parse.proofs.LevelLaws.{AfterOperand, zero_unary, zero_expr, zero_symbol, zero_tree, Unaries}
use Rattle.c_parse.proofs.Begins.{Begins, prefix_sort}
use Rattle.c_parse.proofs.OperandForms.{empty, some, SubjectAt, before, converted, grouped, of_number, of_null, of_name, of_sizeof, of_call, of_called, Subjects, takes_entering, takes_refuse}
use Rattle.c_parse.proofs.OperandLaws.{operand_part, takes_operand}

-- ---- the counter rises at the first token of a form

entering_level : {A : Type 0} (begins : Option Kind → Bool) → begins None ≡ false → (limit c : ℕ) (q : ℕ → P A) (ts : Symbols)
    → level (goes begins) limit c q ts ≡ spec.entering begins limit c q ts
unfolding peek
entering_level begins none limit c q [] = sym (ap (λ b. if b then rising limit c q [] else refuse unexpected []) none)
entering_level begins none limit c q (t ∷ ts) = choose_by (goes begins t)
  where
    choose_by : (b : Bool)
        → (if b then rising limit c q else refuse unexpected) (t ∷ ts) ≡ (if b then rising limit c q (t ∷ ts) else refuse unexpected (t ∷ ts))
    choose_by true = refl
    choose_by false = refl

-- a law of the theory's form is one of the parser's
pub entering_law : {A : Type 0} (begins : Option Kind → Bool) → begins None ≡ false → (limit c : ℕ) (q : ℕ → P A) (D : Form Symbol A) (F : Follow Symbol A)
    → Law limit (level (goes begins) limit c q) D F → Law limit (spec.entering begins limit c q) D F
entering_law begins none limit c q D F law = subst (λ p. Law limit p D F) (λ i ts. entering_level begins none limit c q ts i) law

-- ---- a subject as an operand

pub operand_of : {M : May Symbol} {c : ℕ} (t : Symbol) (us : Symbols) {v : Subject} {r : Symbols} → SubjectAt M t.line c (t ∷ us) v r
    → OperandAt M c (t ∷ us) (spec.expr_of v) r
operand_of t us (before e u) = prefixed e u
operand_of t us (converted d u) = cast d u
operand_of t us (grouped d s) = suffixed (postfix (paren d) s)
operand_of t us (of_number s) = suffixed (postfix numeral s)
operand_of t us (of_null s) = suffixed (postfix null s)
operand_of t us (of_name s) = suffixed (postfix variable s)
operand_of t us (of_sizeof d s) = suffixed (postfix (sizeof d) s)
operand_of t us (of_call empty) = suffixed (postfix (called no_argument) no_suffix)
operand_of t us (of_call (some d)) = suffixed (postfix (called (call d)) no_suffix)
operand_of t us (of_called empty e s) = suffixed (postfix (called no_argument) s)
operand_of t us (of_called (some d) e s) = suffixed (postfix (called (call d)) s)

-- what a statement makes of a postfix
abbrev pub IsPostfix : Subject → Type 0
IsPostfix (Subject.Prefixed a) = ⊥
IsPostfix _ = Unit {0}

abbrev AsPostfix : May Symbol → ℕ → Symbols → Expr → Symbols → Type 0
AsPostfix M c ts a r = (v : Subject) × (spec.expr_of v ≡ a) × Subjects c M ts v r × IsPostfix v

in_call : {M : May Symbol} {c : ℕ} {t : Symbol} {us : Symbols} {f : Ident} {args : List Expr} {m : Symbols} → CallAt M c (t ∷ us) f args m
    → {b : Expr} {r : Symbols} {d : ℕ}
    → SuffixesAt M t.line c (tree.Call f args) m b r d → AsPostfix M c (t ∷ us) b r
in_call no_argument no_suffix = (_, refl, (_, _, refl, of_call empty), tt)
in_call no_argument (index may e ds) = (_, refl, (_, _, refl, of_called empty refl (index may e ds)), tt)
in_call no_argument (field may ds) = (_, refl, (_, _, refl, of_called empty refl (field may ds)), tt)
in_call no_argument (arrow may ds) = (_, refl, (_, _, refl, of_called empty refl (arrow may ds)), tt)
in_call (call d) no_suffix = (_, refl, (_, _, refl, of_call (some d)), tt)
in_call (call d) (index may e ds) = (_, refl, (_, _, refl, of_called (some d) refl (index may e ds)), tt)
in_call (call d) (field may ds) = (_, refl, (_, _, refl, of_called (some d) refl (field may ds)), tt)
in_call (call d) (arrow may ds) = (_, refl, (_, _, refl, of_called (some d) refl (arrow may ds)), tt)

pub postfix_subject : {M : May Symbol} {c : ℕ} {ts : Symbols} {a : Expr} {r : Symbols} → PostfixAt M c ts a r → AsPostfix M c ts a r
postfix_subject (postfix numeral s) = (_, refl, (_, _, refl, of_number s), tt)
postfix_subject (postfix null s) = (_, refl, (_, _, refl, of_null s), tt)
postfix_subject (postfix variable s) = (_, refl, (_, _, refl, of_name s), tt)
postfix_subject (postfix (called d) s) = in_call d s
postfix_subject (postfix (paren d) s) = (_, refl, (_, _, refl, grouped d s), tt)
postfix_subject (postfix (sizeof d) s) = (_, refl, (_, _, refl, of_sizeof d s), tt)

pub subject_postfix : {M : May Symbol} {c : ℕ} (t : Symbol) (us : Symbols) {v : Subject} {r : Symbols} → SubjectAt M t.line c (t ∷ us) v r
    → IsPostfix v → PostfixAt M c (t ∷ us) (spec.expr_of v) r
subject_postfix t us (before e u) h = absurd h
subject_postfix t us (converted d u) h = absurd h
subject_postfix t us (grouped d s) h = postfix (paren d) s
subject_postfix t us (of_number s) h = postfix numeral s
subject_postfix t us (of_null s) h = postfix null s
subject_postfix t us (of_name s) h = postfix variable s
subject_postfix t us (of_sizeof d s) h = postfix (sizeof d) s
subject_postfix t us (of_call empty) h = postfix (called no_argument) no_suffix
subject_postfix t us (of_call (some d)) h = postfix (called (call d)) no_suffix
subject_postfix t us (of_called empty e s) h = postfix (called no_argument) s
subject_postfix t us (of_called (some d) e s) h = postfix (called (call d)) s

pub operand_subject : {M : May Symbol} {c : ℕ} {ts : Symbols} {a : Expr} {r : Symbols} → OperandAt M c ts a r
    → (v : Subject) × (spec.expr_of v ≡ a) × Subjects c M ts v r
operand_subject (prefixed e u) = (_, refl, (_, _, refl, before e u))
operand_subject (cast d u) = (_, refl, (_, _, refl, converted d u))
operand_subject (suffixed d) = let (v, e, s, h) = postfix_subject d in (v, e, s)

pub subject_begins : {M : May Symbol} {l : Line} {c : ℕ} {ts : Symbols} {v : Subject} {r : Symbols} → SubjectAt M l c ts v r → Begins is_operand ts
subject_begins (before {k = k} {op = op} e u) = ap is_operand_by (prefix_sort k op e)
subject_begins (converted d u) = refl
subject_begins (grouped d s) = refl
subject_begins (of_number s) = refl
subject_begins (of_null s) = refl
subject_begins (of_name s) = refl
subject_begins (of_sizeof d s) = refl
subject_begins (of_call d) = refl
subject_begins (of_called d e s) = refl

-- ---- the law

abbrev pub Then : Follow Symbol Subject
Then v = AfterOperand

-- the counter rises, and then the operand
abbrev pub Entered : ℕ → Form Symbol Subject
Entered c M ts v r = M c ts × Subjects (suc c) M ts v r

module _ (limit : ℕ) where
  prefix_one : (c : ℕ) (k : Mark) (p : Line) (op : UnaryOp) → unary_op k ≡ Some op → Completes limit (Subjects c) Then [] (mark k p ∷ [])
  prefix_one c k p op e = record {
    tokens = zero_symbol ∷ [];
    value = Subject.Prefixed (tree.Unary p op zero_tree);
    holds = λ M l r free h. (mark k p, zero_symbol ∷ r, refl, before e (zero_unary (free c _ (omega arith))));
  }

  -- one completion for each first token
  pub subject_one : (c : ℕ) (k : Kind) (p : Line) → is_operand (Some k) ≡ true → Completes limit (Subjects c) Then [] (record { kind = k; line = p } ∷ [])
  subject_one c (Kind.Mark Mark.Minus) p e = prefix_one c Mark.Minus p UnaryOp.Minus refl
  subject_one c (Kind.Mark Mark.Plus) p e = prefix_one c Mark.Plus p UnaryOp.Plus refl
  subject_one c (Kind.Mark Mark.Not) p e = prefix_one c Mark.Not p UnaryOp.Not refl
  subject_one c (Kind.Mark Mark.Tilde) p e = prefix_one c Mark.Tilde p UnaryOp.Complement refl
  subject_one c (Kind.Mark Mark.Star) p e = prefix_one c Mark.Star p UnaryOp.Deref refl
  subject_one c (Kind.Mark Mark.And) p e = prefix_one c Mark.And p UnaryOp.Address refl
  subject_one c (Kind.Mark Mark.OpenParen) p e = record {
    tokens = zero_symbol ∷ mark Mark.CloseParen line_one ∷ [];
    value = Subject.Postfix zero_tree;
    holds = λ M l r free h. (mark Mark.OpenParen p, _, refl, grouped (zero_expr (free c _ (omega arith))) no_suffix);
  }
  subject_one c (Kind.Num n) p e = record { tokens = []; value = Subject.Postfix (tree.Number p n); holds = λ M l r free h. (number n p, r, refl, of_number no_suffix) }
  subject_one c (Kind.Id n) p e = record {
    tokens = [];
    value = Subject.Postfix (tree.Name (record { line = p; name = n }));
    holds = λ M l r free h. (name n p, r, refl, of_name no_suffix);
  }
  subject_one c (Kind.Word Word.Null) p e = record { tokens = []; value = Subject.Postfix (tree.Null p); holds = λ M l r free h. (word Word.Null p, r, refl, of_null no_suffix) }
  subject_one c (Kind.Word Word.Sizeof) p e = record {
    tokens = mark Mark.OpenParen line_one ∷ word Word.Int line_one ∷ mark Mark.CloseParen line_one ∷ [];
    value = Subject.Postfix (tree.Sizeof p (record { base = Base.Int line_one; stars = 0 }));
    holds = λ M l r free h. (word Word.Sizeof p, _, refl, of_sizeof (type_name int no_star) no_suffix);
  }
  subject_one c _ p e = absurd (false_true e)

  enter : (c : ℕ) (q : ℕ → P Subject) → (c < limit → Law limit (q (suc c)) (Subjects (suc c)) Then)
      → Law limit (spec.entering is_operand limit c q) (Entered c) Then
  enter c q law =
      entering_law is_operand refl limit c q (Entered c) Then
      (level_law limit c (goes is_operand) q (Entered c) (Subjects (suc c)) Then (λ M ts v r may d. (may, d)) (λ M ts v r d. d)
      (λ M ts v r (t, us, e, d). (t, us, e, subst (λ z. is_operand (kind_of (next z)) ≡ true) e (subject_begins d))) (λ t e. subject_one (suc c) t.kind t.line e) zero_symbol refl law)

  entered_part : (c : ℕ) (p : P Subject) → Law limit p (Entered c) Then → Part limit p (Entered c) Then AnyToken
  entered_part c p law = record {
    law = law;
    leads = λ M ts v r d h. fits_any v ts;
    whole = record {
      tokens = zero_symbol ∷ [];
      value = Subject.Postfix zero_tree;
      holds = λ M l r free h. (free c _ (omega arith), (zero_symbol, r, refl, of_number no_suffix));
    };
  }

  unary_to : (c : ℕ) (M : May Symbol) (ts : Symbols) (a : Expr) (r : Symbols) → Seq (Entered c) (λ v. Gives (spec.expr_of v)) M ts a r → UnaryAt M c ts a r
  unary_to c M ts a r (v, m, (may, (t, us, e, d)), g) =
      given g (UnaryAt M c ts) (subst (λ z. UnaryAt M c z (spec.expr_of v) m) (sym e) (unary (subst (λ z. M c z) e may) (operand_of t us (subst (λ z. SubjectAt M t.line (suc c) z v m) e d))))

  unary_back : (c : ℕ) (M : May Symbol) (ts : Symbols) (a : Expr) (r : Symbols) → UnaryAt M c ts a r → Seq (Entered c) (λ v. Gives (spec.expr_of v)) M ts a r
  unary_back c M ts a r (unary may d) =
      let (v, e, s) = operand_subject d in (v, r, (may, s), subst (λ z. Gives (spec.expr_of v) M r z r) e gives)

  unary_law : (c : ℕ) (subject : ℕ → P Subject) → Law limit (subject c) (Entered c) Then → Law limit (spec.unary_of subject c) (Unaries c) (λ a. AfterOperand)
  unary_law c subject law =
      (restate limit (Unaries c) (λ a. AfterOperand) AnyToken (seq limit (entered_part c (subject c) law) (λ v. gives_part limit (spec.expr_of v)))
      (unary_to c) (λ M ts a r d h. unary_back c M ts a r d) (λ a t h. h) (λ t h. h)).law

  pub subject_law : (fuel c : ℕ) → limit ≤ c + fuel → Law limit (spec.subject limit fuel c) (Entered c) Then
  unfolding spec.subject
  subject_law zero c top = enter c (λ d. refuse deep) (λ less. absurd (omega arith))
  subject_law (suc fuel) c top =
      enter c (spec.operand limit (spec.unary_of (spec.subject limit fuel))) (λ less.
      (operand_part limit (spec.unary_of (spec.subject limit fuel)) (λ d. limit ≤ d + fuel) (λ d e l g. omega arith)
      (λ d g. unary_law d (spec.subject limit fuel) (subject_law fuel d g)) (suc c) (omega arith)).law)

  pub takes_subject : (fuel c : ℕ) → limit ≤ c + fuel → Takes (spec.subject limit fuel c)
  unfolding spec.subject
  takes_subject zero c top = takes_entering is_operand limit c (λ d. refuse deep) (takes_refuse deep)
  takes_subject (suc fuel) c top =
      takes_entering is_operand limit c (spec.operand limit (spec.unary_of (spec.subject limit fuel)))
      (takes_operand limit (spec.unary_of (spec.subject limit fuel)) (λ d. limit ≤ d + fuel) (λ d e l g. omega arith) (λ d g. unary_law d (spec.subject limit fuel) (subject_law fuel d g)) (suc c) (omega arith))

  -- with fuel for each counter
  abbrev pub all_subjects : ℕ → P Subject
  all_subjects = spec.subject limit limit

  pub subject_part : (c : ℕ) → Part limit (all_subjects c) (Entered c) Then AnyToken
  subject_part c = entered_part c (all_subjects c) (subject_law limit c (omega arith))

  pub unaries_law : (c : ℕ) → Law limit (spec.unary_of all_subjects c) (Unaries c) (λ a. AfterOperand)
  unaries_law c = unary_law c all_subjects (subject_law limit c (omega arith))

-- no subject where the tokens end
pub subject_none : (limit fuel c : ℕ) → fault unexpected 0 ≡ spec.subject limit fuel c []
unfolding spec.subject
subject_none limit zero c = refl
subject_none limit (suc fuel) c = refl
