-- Simple statements are read by their grammar.
use Rattle.std.proofs.Common.{◌≡◌, ℕ, suc, true, Option, Some, None, List, [], ◌∷◌, refl, sym, ap, subst, ◌∙◌, arith}
use Rattle.dfi_base.specs.declared.numbers.Line.{Line}
use Rattle.c_lex.specs.declared.token.Mark.{Mark}
use Rattle.c_lex.specs.declared.token.Kind.{Kind}
use Rattle.c_ast.specs.declared.ident.Ident.{Ident}
use Rattle.c_ast.specs.declared.expr.Expr.{Expr}
use Rattle.c_parse.specs.Nodes as tree
use Rattle.c_ast.specs.declared.stmt.AssignOp.{AssignOp}
use Rattle.c_ast.specs.declared.stmt.Simple.{Simple}
use Rattle.parse_law.specs.tools.Parsing.{unexpected, and_then}
use Rattle.parse_law.specs.Nesting.{May}
use Rattle.parse_law.proofs.Forms.{Form, Fits, Completes}
use Rattle.parse_law.proofs.Bind.{Seq, Leads}
use Rattle.parse_law.proofs.Carry.{fits_fewer}
use Rattle.parse_law.proofs.Steps.{Any, false_true, none_some}
use Rattle.c_parse.specs.declared.subject.Subject.{Subject}
use Rattle.c_parse.specs.declared.operators.Tier.{Tier}
use Rattle.c_parse.specs.declared.sorts.SubjectEnd.{SubjectEnd}
use Rattle.c_parse.specs.Symbol.{Symbol, Symbols, mark}
use Rattle.c_parse.specs.Operators.{tiers, assign_op}
use Rattle.c_parse.specs.tools.Sorts.{is_operand, subject_end}
use Rattle.c_parse.specs.tools.Tokens.{next, kind_of, want, mark_at}
use Rattle.c_parse.specs.Exprs.{ExprAt, UnaryAt, unary, PostfixAt, CallAt, no_argument, call}
use Rattle.c_parse.specs.Stmts.{SimpleAt, assign, increment, decrement, pre_increment, pre_decrement, call as call_alone}
use Rattle.c_parse.specs.tools.ExprParser.{expr_of}
use Rattle.c_parse.specs.tools.StmtParser as spec
use Rattle.c_parse.proofs.Parts.{Part, Gives, gives, given, gives_part, seq, takes_seq, takes_want, narrow, widen, relead, restate, Reads, reads, reads_part, Branch, branch, refuses, Void, dispatch, dispatch_empty}
use Rattle.c_parse.proofs.TokenParts.{MarkAt, marked, mark_any, AnyToken, line_one, located_part}
use Rattle.c_parse.proofs.LevelLaws.{AfterOperand, AfterLevel, zero_expr, zero_unary, zero_symbol, zero_tree, Unaries}
use Rattle.c_parse.proofs.Begins.{Begins}
use Rattle.parse_law.proofs.Repeat.{Takes}
use Rattle.c_parse.proofs.OperandForms.{takes_located, takes_choose, takes_refuse, empty, some, SubjectAt, of_call, Subjects}
use Rattle.c_parse.proofs.SubjectLaws.{Entered, Then, takes_subject, IsPostfix, postfix_subject, subject_postfix, operand_of, operand_subject, subject_begins, subject_none}
use Rattle.c_parse.proofs.DeclLaws.{E, expr_at_part, unary_at_part, operand_at_part}

-- ---- a subject as a unary, a postfix, a call

pub entered_unary : {M : May Symbol} {c : ℕ} {ts : Symbols} {v : Subject} {r : Symbols} → Entered c M ts v r → UnaryAt M c ts (expr_of v) r
entered_unary {M = M} {c = c} {v = v} {r = r} (may, (t, us, e, d)) =
    subst (λ z. UnaryAt M c z (expr_of v) r) (sym e) (unary (subst (λ z. M c z) e may) (operand_of t us (subst (λ z. SubjectAt M t.line (suc c) z v r) e d)))

entered_postfix : {M : May Symbol} {c : ℕ} {ts : Symbols} {v : Subject} {r : Symbols} → Entered c M ts v r → IsPostfix v
    → M c ts × PostfixAt M (suc c) ts (expr_of v) r
entered_postfix {M = M} {c = c} {v = v} {r = r} (may, (t, us, e, d)) h =
    (may, subst (λ z. PostfixAt M (suc c) z (expr_of v) r) (sym e) (subject_postfix t us (subst (λ z. SubjectAt M t.line (suc c) z v r) e d) h))

called_at : {M : May Symbol} {l : Line} {c : ℕ} {ts : Symbols} {f : Ident} {args : List Expr} {r : Symbols}
    → SubjectAt M l c ts (Subject.Call f args) r → CallAt M c ts f args r
called_at (of_call empty) = no_argument
called_at (of_call (some d)) = call d

entered_call : {M : May Symbol} {c : ℕ} {ts : Symbols} {f : Ident} {args : List Expr} {r : Symbols} → Entered c M ts (Subject.Call f args) r
    → M c ts × CallAt M (suc c) ts f args r
entered_call (may, (t, us, e, d)) = (may, called_at d)

call_entered : {M : May Symbol} {c : ℕ} {ts : Symbols} {f : Ident} {args : List Expr} {r : Symbols} → CallAt M c ts f args r
    → Subjects c M ts (Subject.Call f args) r
call_entered no_argument = (_, _, refl, of_call empty)
call_entered (call d) = (_, _, refl, of_call (some d))

unary_entered : {M : May Symbol} {c : ℕ} {ts : Symbols} {a : Expr} {r : Symbols} → UnaryAt M c ts a r → (v : Subject) × (expr_of v ≡ a) × Entered c M ts v r
unary_entered (unary may d) = let (v, e, s) = operand_subject d in (v, e, (may, s))

-- ---- what may follow

abbrev pub AfterSimple : Symbol → Type 0
AfterSimple t = AfterLevel tiers t × (subject_end (Some t.kind) ≡ SubjectEnd.Other)

level_operand : (tiers : List Tier) (t : Symbol) → AfterLevel tiers t → AfterOperand t
level_operand [] t h = h
level_operand (tier ∷ lower) t h = level_operand lower t h.1

assign_after : (k : Mark) (l : Line) (op : AssignOp) → assign_op k ≡ Some op → AfterOperand (mark k l)
assign_after Mark.OpenParen l op e = none_some e
assign_after Mark.OpenBracket l op e = none_some e
assign_after Mark.Dot l op e = none_some e
assign_after Mark.Arrow l op e = none_some e
assign_after _ l op e = (refl, refl)

assign_sort : (k : Mark) (op : AssignOp) → assign_op k ≡ Some op → subject_end (Some (Kind.Mark k)) ≡ SubjectEnd.Assign
assign_sort Mark.PlusPlus op e = none_some e
assign_sort Mark.MinusMinus op e = none_some e
assign_sort Mark.Assign op e = refl
assign_sort Mark.PlusAssign op e = refl
assign_sort Mark.MinusAssign op e = refl
assign_sort Mark.StarAssign op e = refl
assign_sort Mark.SlashAssign op e = refl
assign_sort Mark.PercentAssign op e = refl
assign_sort Mark.AndAssign op e = refl
assign_sort Mark.OrAssign op e = refl
assign_sort Mark.XorAssign op e = refl
assign_sort Mark.ShiftLeftAssign op e = refl
assign_sort Mark.ShiftRightAssign op e = refl
assign_sort _ op e = none_some e

-- an operand begins with none of these
operand_no_end : (k : Option Kind) → is_operand k ≡ true → subject_end k ≡ SubjectEnd.Other
operand_no_end None e = refl
operand_no_end (Some (Kind.Word w)) e = refl
operand_no_end (Some (Kind.Id n)) e = refl
operand_no_end (Some (Kind.Num n)) e = refl
operand_no_end (Some (Kind.Mark Mark.Minus)) e = refl
operand_no_end (Some (Kind.Mark Mark.Plus)) e = refl
operand_no_end (Some (Kind.Mark Mark.Not)) e = refl
operand_no_end (Some (Kind.Mark Mark.Tilde)) e = refl
operand_no_end (Some (Kind.Mark Mark.Star)) e = refl
operand_no_end (Some (Kind.Mark Mark.And)) e = refl
operand_no_end (Some (Kind.Mark Mark.OpenParen)) e = refl
operand_no_end (Some (Kind.Mark _)) e = false_true e

-- ---- an assignment operator

data AssignAt (M : May Symbol) : Symbols → AssignOp → Symbols → Type 0 where
  assign_here : {p : Line} {k : Mark} {op : AssignOp} {ts : Symbols} → assign_op k ≡ Some op → AssignAt M (mark k p ∷ ts) op ts

assign_reads_by : (M : May Symbol) (k : Kind) (p : Line) (op : AssignOp) (ts : Symbols) → spec.assign_in k ≡ Some op
    → AssignAt M (record { kind = k; line = p } ∷ ts) op ts
assign_reads_by M (Kind.Mark k) p op ts e = assign_here e
assign_reads_by M (Kind.Word w) p op ts e = none_some e
assign_reads_by M (Kind.Id n) p op ts e = none_some e
assign_reads_by M (Kind.Num n) p op ts e = none_some e

assign_reads : (M : May Symbol) (ts : Symbols) (op : AssignOp) (r : Symbols) → Reads spec.assign_at M ts op r → AssignAt M ts op r
assign_reads M ts op r (reads {t = t} e) = assign_reads_by M t.kind t.line op r e

reads_assign : (M : May Symbol) (ts : Symbols) (op : AssignOp) (r : Symbols) → AssignAt M ts op r → Reads spec.assign_at M ts op r
reads_assign M ts op r (assign_here e) = reads e

-- ---- behind the operand

data SimpleEndAt (M : May Symbol) (l : Line) (c : ℕ) (v : Subject) : Symbols → Simple → Symbols → Type 0 where
  assign_then : {p : Line} {k : Mark} {op : AssignOp} {ts r : Symbols} {b : Expr} → assign_op k ≡ Some op → ExprAt M c ts b r
      → SimpleEndAt M l c v (mark k p ∷ ts) (Simple.Assign l (expr_of v) op b) r
  increment_then : {p : Line} {r : Symbols} → IsPostfix v → SimpleEndAt M l c v (mark Mark.PlusPlus p ∷ r) (Simple.Increment l (expr_of v)) r
  decrement_then : {p : Line} {r : Symbols} → IsPostfix v → SimpleEndAt M l c v (mark Mark.MinusMinus p ∷ r) (Simple.Decrement l (expr_of v)) r
  call_then : {f : Ident} {args : List Expr} {r : Symbols} → v ≡ Subject.Call f args → SimpleEndAt M l c v r (Simple.Call f args) r

abbrev SimpleEnds : Line → ℕ → Subject → Form Symbol Simple
SimpleEnds l c v M ts s r = SimpleEndAt M l c v ts s r

abbrev IncrementBy : Line → Subject → Form Symbol Simple
IncrementBy l (Subject.Prefixed a) = Void
IncrementBy l (Subject.Postfix a) = Seq (MarkAt Mark.PlusPlus) (λ p. Gives (Simple.Increment l a))
IncrementBy l (Subject.Call f args) = Seq (MarkAt Mark.PlusPlus) (λ p. Gives (Simple.Increment l (tree.Call f args)))

abbrev DecrementBy : Line → Subject → Form Symbol Simple
DecrementBy l (Subject.Prefixed a) = Void
DecrementBy l (Subject.Postfix a) = Seq (MarkAt Mark.MinusMinus) (λ p. Gives (Simple.Decrement l a))
DecrementBy l (Subject.Call f args) = Seq (MarkAt Mark.MinusMinus) (λ p. Gives (Simple.Decrement l (tree.Call f args)))

abbrev CallBy : Subject → Form Symbol Simple
CallBy (Subject.Prefixed a) = Void
CallBy (Subject.Postfix a) = Void
CallBy (Subject.Call f args) = Gives (Simple.Call f args)

abbrev SimpleEndBy : Line → ℕ → Subject → SubjectEnd → Form Symbol Simple
SimpleEndBy l c v SubjectEnd.Assign = Seq AssignAt (λ op. Seq (E c) (λ b. Gives (Simple.Assign l (expr_of v) op b)))
SimpleEndBy l c v SubjectEnd.Increment = IncrementBy l v
SimpleEndBy l c v SubjectEnd.Decrement = DecrementBy l v
SimpleEndBy l c v SubjectEnd.Other = CallBy v

simple_end_to : (l : Line) (c : ℕ) (v : Subject) (k : SubjectEnd) (M : May Symbol) (ts : Symbols) (s : Simple) (r : Symbols)
    → SimpleEndBy l c v k M ts s r → SimpleEndAt M l c v ts s r
simple_end_to l c v SubjectEnd.Assign M ts s r (op, m, assign_here e, (b, n, d, g)) = given g (SimpleEndAt M l c v _) (assign_then e d)
simple_end_to l c (Subject.Prefixed a) SubjectEnd.Increment M ts s r d = absurd d
simple_end_to l c (Subject.Postfix a) SubjectEnd.Increment M ts s r (p, m, marked, gives) = increment_then tt
simple_end_to l c (Subject.Call f args) SubjectEnd.Increment M ts s r (p, m, marked, g) = given g (SimpleEndAt M l c (Subject.Call f args) _) (increment_then tt)
simple_end_to l c (Subject.Prefixed a) SubjectEnd.Decrement M ts s r d = absurd d
simple_end_to l c (Subject.Postfix a) SubjectEnd.Decrement M ts s r (p, m, marked, gives) = decrement_then tt
simple_end_to l c (Subject.Call f args) SubjectEnd.Decrement M ts s r (p, m, marked, g) = given g (SimpleEndAt M l c (Subject.Call f args) _) (decrement_then tt)
simple_end_to l c (Subject.Prefixed a) SubjectEnd.Other M ts s r d = absurd d
simple_end_to l c (Subject.Postfix a) SubjectEnd.Other M ts s r d = absurd d
simple_end_to l c (Subject.Call f args) SubjectEnd.Other M ts s r gives = call_then refl

increment_back : (l : Line) (c : ℕ) (v : Subject) (M : May Symbol) (p : Line) (r : Symbols) → IsPostfix v
    → IncrementBy l v M (mark Mark.PlusPlus p ∷ r) (Simple.Increment l (expr_of v)) r
increment_back l c (Subject.Prefixed a) M p r h = absurd h
increment_back l c (Subject.Postfix a) M p r h = (_, _, marked, gives)
increment_back l c (Subject.Call f args) M p r h = (_, _, marked, gives)

decrement_back : (l : Line) (c : ℕ) (v : Subject) (M : May Symbol) (p : Line) (r : Symbols) → IsPostfix v
    → DecrementBy l v M (mark Mark.MinusMinus p ∷ r) (Simple.Decrement l (expr_of v)) r
decrement_back l c (Subject.Prefixed a) M p r h = absurd h
decrement_back l c (Subject.Postfix a) M p r h = (_, _, marked, gives)
decrement_back l c (Subject.Call f args) M p r h = (_, _, marked, gives)

call_before : (l : Line) (c : ℕ) (f : Ident) (args : List Expr) (M : May Symbol) (ts : Symbols) → Fits AfterSimple ts
    → SimpleEndBy l c (Subject.Call f args) (subject_end (kind_of (next ts))) M ts (Simple.Call f args) ts
call_before l c f args M [] h = gives
call_before l c f args M (t ∷ ts) h = subst (λ z. SimpleEndBy l c (Subject.Call f args) z M (t ∷ ts) (Simple.Call f args) (t ∷ ts)) (sym h.1) gives

simple_end_back : (l : Line) (c : ℕ) (v : Subject) (M : May Symbol) (ts : Symbols) (s : Simple) (r : Symbols) → SimpleEndAt M l c v ts s r
    → Fits AfterSimple r → SimpleEndBy l c v (subject_end (kind_of (next ts))) M ts s r
simple_end_back l c v M ts s r (assign_then {p = p} {k = k} {op = op} {ts = us} {b = b} e d) h =
    subst (λ z. SimpleEndBy l c v z M (mark k p ∷ us) (Simple.Assign l (expr_of v) op b) r) (sym (assign_sort k op e)) (op, us, assign_here e, (b, r, d, gives))
simple_end_back l c v M ts s r (increment_then {p = p} i) h = increment_back l c v M p r i
simple_end_back l c v M ts s r (decrement_then {p = p} i) h = decrement_back l c v M p r i
simple_end_back l c v M ts s r (call_then {f = f} {args = args} e) h =
    subst (λ z. SimpleEndBy l c z (subject_end (kind_of (next ts))) M ts (Simple.Call f args) ts) (sym e) (call_before l c f args M ts h)

simple_end_leads : (l : Line) (c : ℕ) (v : Subject) → Leads (SimpleEnds l c v) (λ s. AfterSimple) AfterOperand
simple_end_leads l c v M ts s r (assign_then {p = p} {k = k} {op = op} e d) h = assign_after k p op e
simple_end_leads l c v M ts s r (increment_then i) h = (refl, refl)
simple_end_leads l c v M ts s r (decrement_then i) h = (refl, refl)
simple_end_leads l c v M ts s r (call_then e) h = fits_fewer (λ t f. level_operand tiers t f.0) ts h

call_no_call : {Q : Type 0} (a : Expr) (f : Ident) (args : List Expr) → Subject.Prefixed a ≡ Subject.Call f args → Q
call_no_call a f args e = absurd (cc)

postfix_no_call : {Q : Type 0} (a : Expr) (f : Ident) (args : List Expr) → Subject.Postfix a ≡ Subject.Call f args → Q
postfix_no_call a f args e = absurd (cc)

call_is : (f g : Ident) (args others : List Expr) → Subject.Call f args ≡ Subject.Call g others → Simple.Call f args ≡ Simple.Call g others
call_is f g args others e = let i : f ≡ g = cc in let j : args ≡ others = cc in ap (λ z. Simple.Call z args) i ∙ ap (Simple.Call g) j

call_only : (l : Line) (c : ℕ) (f : Ident) (args : List Expr) (M : May Symbol) (s : Simple) (r : Symbols)
    → SimpleEndAt M l c (Subject.Call f args) [] s r → (Simple.Call f args ≡ s) × ([] ≡ r)
call_only l c f args M s r (call_then {f = g} {args = others} e) = (call_is f g args others e, refl)

module _ (limit : ℕ) where
  assign_part : Part limit (want spec.assign_at) AssignAt Any AnyToken
  assign_part =
      restate limit AssignAt Any AnyToken (reads_part limit spec.assign_at AnyToken (λ t op e. tt) (mark Mark.Assign line_one) AssignOp.Plain refl)
      assign_reads (λ M ts op r d h. reads_assign M ts op r d) (λ a t h. h) (λ t h. h)

  increment_branch : (l : Line) (v : Subject) → Branch limit (spec.increment_by limit l v) (IncrementBy l v) (λ s. AfterSimple) AnyToken
  increment_branch l (Subject.Prefixed a) = refuses limit
  increment_branch l (Subject.Postfix a) = branch limit (narrow limit (seq limit (mark_any limit Mark.PlusPlus) (λ p. gives_part limit (Simple.Increment l a))) (λ s t h. tt))
  increment_branch l (Subject.Call f args) = branch limit (narrow limit (seq limit (mark_any limit Mark.PlusPlus) (λ p. gives_part limit (Simple.Increment l (tree.Call f args)))) (λ s t h. tt))

  decrement_branch : (l : Line) (v : Subject) → Branch limit (spec.decrement_by limit l v) (DecrementBy l v) (λ s. AfterSimple) AnyToken
  decrement_branch l (Subject.Prefixed a) = refuses limit
  decrement_branch l (Subject.Postfix a) = branch limit (narrow limit (seq limit (mark_any limit Mark.MinusMinus) (λ p. gives_part limit (Simple.Decrement l a))) (λ s t h. tt))
  decrement_branch l (Subject.Call f args) = branch limit (narrow limit (seq limit (mark_any limit Mark.MinusMinus) (λ p. gives_part limit (Simple.Decrement l (tree.Call f args)))) (λ s t h. tt))

  call_branch : (v : Subject) → Branch limit (spec.call_by limit v) (CallBy v) (λ s. AfterSimple) AnyToken
  call_branch (Subject.Prefixed a) = refuses limit
  call_branch (Subject.Postfix a) = refuses limit
  call_branch (Subject.Call f args) = branch limit (widen limit (gives_part limit (Simple.Call f args)) (λ t h. tt))

  simple_end_branches : (l : Line) (c : ℕ) (v : Subject) (k : SubjectEnd)
      → Branch limit (spec.simple_by limit l c v k) (SimpleEndBy l c v k) (λ s. AfterSimple) AnyToken
  simple_end_branches l c v SubjectEnd.Assign =
      branch limit (narrow limit (seq limit assign_part (λ op. widen limit (seq limit (expr_at_part limit c) (λ b. gives_part limit (Simple.Assign l (expr_of v) op b))) (λ t h. tt))) (λ s t h. h.0))
  simple_end_branches l c v SubjectEnd.Increment = increment_branch l v
  simple_end_branches l c v SubjectEnd.Decrement = decrement_branch l v
  simple_end_branches l c v SubjectEnd.Other = call_branch v

  simple_end_completes : (l : Line) (c : ℕ) (v : Subject) → Completes limit (SimpleEnds l c v) (λ s. AfterSimple) [] []
  simple_end_completes l c v = record {
    tokens = mark Mark.Assign line_one ∷ zero_symbol ∷ [];
    value = Simple.Assign l (expr_of v) AssignOp.Plain zero_tree;
    holds = λ M k r free h. assign_then refl (zero_expr (free c _ (omega arith)));
  }

  simple_end_by : (l : Line) (c : ℕ) (v : Subject) → Part limit (spec.simple_end limit l c v) (SimpleEnds l c v) (λ s. AfterSimple) AnyToken
  unfolding spec.simple_end
  simple_end_by l c (Subject.Prefixed a) =
      dispatch limit (λ t. subject_end (kind_of t)) (spec.simple_by limit l c (Subject.Prefixed a)) (SimpleEndBy l c (Subject.Prefixed a)) (SimpleEnds l c (Subject.Prefixed a)) (λ s. AfterSimple) AnyToken
      (λ M t us. simple_end_to l c (Subject.Prefixed a) (subject_end (Some t.kind)) M (t ∷ us)) (simple_end_back l c (Subject.Prefixed a)) (simple_end_branches l c (Subject.Prefixed a))
      (simple_end_completes l c (Subject.Prefixed a)) refl (λ M s r d h. nothing d)
    where
      nothing : {M : May Symbol} {s : Simple} {r : Symbols} → SimpleEndAt M l c (Subject.Prefixed a) [] s r → ⊥
      nothing (call_then {f = f} {args = args} e) = call_no_call a f args e
  simple_end_by l c (Subject.Postfix a) =
      dispatch limit (λ t. subject_end (kind_of t)) (spec.simple_by limit l c (Subject.Postfix a)) (SimpleEndBy l c (Subject.Postfix a)) (SimpleEnds l c (Subject.Postfix a)) (λ s. AfterSimple) AnyToken
      (λ M t us. simple_end_to l c (Subject.Postfix a) (subject_end (Some t.kind)) M (t ∷ us)) (simple_end_back l c (Subject.Postfix a)) (simple_end_branches l c (Subject.Postfix a))
      (simple_end_completes l c (Subject.Postfix a)) refl (λ M s r d h. nothing d)
    where
      nothing : {M : May Symbol} {s : Simple} {r : Symbols} → SimpleEndAt M l c (Subject.Postfix a) [] s r → ⊥
      nothing (call_then {f = f} {args = args} e) = postfix_no_call a f args e
  simple_end_by l c (Subject.Call f args) =
      dispatch_empty limit (λ t. subject_end (kind_of t)) (spec.simple_by limit l c (Subject.Call f args)) (SimpleEndBy l c (Subject.Call f args)) (SimpleEnds l c (Subject.Call f args)) (λ s. AfterSimple) AnyToken
      (λ M t us. simple_end_to l c (Subject.Call f args) (subject_end (Some t.kind)) M (t ∷ us)) (simple_end_back l c (Subject.Call f args)) (simple_end_branches l c (Subject.Call f args))
      (Simple.Call f args) refl (λ M ts h. call_then refl) (λ M s r d h. call_only l c f args M s r d)

  simple_end_part : (l : Line) (c : ℕ) (v : Subject) → Part limit (spec.simple_end limit l c v) (SimpleEnds l c v) (λ s. AfterSimple) AfterOperand
  simple_end_part l c v = relead limit (simple_end_by l c v) (simple_end_leads l c v)

-- ---- a simple statement

-- at its line
data SimpleFrom (M : May Symbol) (l : Line) (c : ℕ) : Symbols → Simple → Symbols → Type 0 where
  first_increment : {p : Line} {a : Expr} {ts r : Symbols} → UnaryAt M c ts a r → SimpleFrom M l c (mark Mark.PlusPlus p ∷ ts) (Simple.PreIncrement l a) r
  first_decrement : {p : Line} {a : Expr} {ts r : Symbols} → UnaryAt M c ts a r → SimpleFrom M l c (mark Mark.MinusMinus p ∷ ts) (Simple.PreDecrement l a) r
  by_subject : {v : Subject} {s : Simple} {ts m r : Symbols} → Entered c M ts v m → SimpleEndAt M l c v m s r → SimpleFrom M l c ts s r

abbrev SimplesFrom : Line → ℕ → Form Symbol Simple
SimplesFrom l c M ts s r = SimpleFrom M l c ts s r

abbrev SimpleBy : Line → ℕ → SubjectEnd → Form Symbol Simple
SimpleBy l c SubjectEnd.Increment = Seq (MarkAt Mark.PlusPlus) (λ p. Seq (Unaries c) (λ a. Gives (Simple.PreIncrement l a)))
SimpleBy l c SubjectEnd.Decrement = Seq (MarkAt Mark.MinusMinus) (λ p. Seq (Unaries c) (λ a. Gives (Simple.PreDecrement l a)))
SimpleBy l c SubjectEnd.Assign = Void
SimpleBy l c SubjectEnd.Other = Seq (Entered c) (λ v. SimpleEnds l c v)

from_to : (l : Line) (c : ℕ) (k : SubjectEnd) (M : May Symbol) (ts : Symbols) (s : Simple) (r : Symbols) → SimpleBy l c k M ts s r → SimpleFrom M l c ts s r
from_to l c SubjectEnd.Increment M ts s r (p, m, marked, (a, n, u, g)) = given g (SimpleFrom M l c _) (first_increment u)
from_to l c SubjectEnd.Decrement M ts s r (p, m, marked, (a, n, u, g)) = given g (SimpleFrom M l c _) (first_decrement u)
from_to l c SubjectEnd.Assign M ts s r d = absurd d
from_to l c SubjectEnd.Other M ts s r (v, m, d, e) = by_subject d e

entered_begins : {M : May Symbol} {c : ℕ} {ts : Symbols} {v : Subject} {r : Symbols} → Entered c M ts v r → Begins is_operand ts
entered_begins (may, (t, us, e, d)) = subject_begins d

from_back : (l : Line) (c : ℕ) (M : May Symbol) (ts : Symbols) (s : Simple) (r : Symbols) → SimpleFrom M l c ts s r
    → SimpleBy l c (subject_end (kind_of (next ts))) M ts s r
from_back l c M ts s r (first_increment u) = (_, _, marked, (_, r, u, gives))
from_back l c M ts s r (first_decrement u) = (_, _, marked, (_, r, u, gives))
from_back l c M ts s r (by_subject {v = v} {m = m} d e) =
    subst (λ z. SimpleBy l c z M ts s r) (sym (operand_no_end (kind_of (next ts)) (entered_begins d))) (v, m, d, e)

abbrev pub Simples : ℕ → Form Symbol Simple
Simples c M ts s r = SimpleAt M c ts s r

increment_at : {M : May Symbol} {c : ℕ} {t : Symbol} {us : Symbols} {v : Subject} {p : Line} {r : Symbols}
    → Entered c M (t ∷ us) v (mark Mark.PlusPlus p ∷ r) → IsPostfix v → SimpleAt M c (t ∷ us) (Simple.Increment t.line (expr_of v)) r
increment_at d h = let (may, e) = entered_postfix d h in increment may e

decrement_at : {M : May Symbol} {c : ℕ} {t : Symbol} {us : Symbols} {v : Subject} {p : Line} {r : Symbols}
    → Entered c M (t ∷ us) v (mark Mark.MinusMinus p ∷ r) → IsPostfix v → SimpleAt M c (t ∷ us) (Simple.Decrement t.line (expr_of v)) r
decrement_at d h = let (may, e) = entered_postfix d h in decrement may e

call_at : {M : May Symbol} {c : ℕ} {ts : Symbols} {f : Ident} {args : List Expr} {r : Symbols} → Entered c M ts (Subject.Call f args) r
    → SimpleAt M c ts (Simple.Call f args) r
call_at d = let (may, e) = entered_call d in call_alone may e

simple_to : (c : ℕ) (M : May Symbol) (t : Symbol) (us : Symbols) (s : Simple) (r : Symbols) → SimpleFrom M t.line c (t ∷ us) s r → SimpleAt M c (t ∷ us) s r
simple_to c M t us s r (first_increment u) = pre_increment u
simple_to c M t us s r (first_decrement u) = pre_decrement u
simple_to c M t us s r (by_subject d (assign_then e b)) = assign (entered_unary d) e b
simple_to c M t us s r (by_subject d (increment_then h)) = increment_at d h
simple_to c M t us s r (by_subject d (decrement_then h)) = decrement_at d h
simple_to c M t us s r (by_subject {m = m} d (call_then e)) = call_at (subst (λ z. Entered c M (t ∷ us) z m) e d)

increment_from : {M : May Symbol} {c : ℕ} {l p : Line} {ts r : Symbols} {a : Expr} → M c ts → PostfixAt M (suc c) ts a (mark Mark.PlusPlus p ∷ r)
    → SimpleFrom M l c ts (Simple.Increment l a) r
increment_from {M = M} {c = c} {l = l} {ts = ts} {r = r} may d =
    let (v, e, s, h) = postfix_subject d in subst (λ z. SimpleFrom M l c ts (Simple.Increment l z) r) e (by_subject (may, s) (increment_then h))

decrement_from : {M : May Symbol} {c : ℕ} {l p : Line} {ts r : Symbols} {a : Expr} → M c ts → PostfixAt M (suc c) ts a (mark Mark.MinusMinus p ∷ r)
    → SimpleFrom M l c ts (Simple.Decrement l a) r
decrement_from {M = M} {c = c} {l = l} {ts = ts} {r = r} may d =
    let (v, e, s, h) = postfix_subject d in subst (λ z. SimpleFrom M l c ts (Simple.Decrement l z) r) e (by_subject (may, s) (decrement_then h))

assign_from : {M : May Symbol} {c : ℕ} {l p : Line} {ts m r : Symbols} {k : Mark} {op : AssignOp} {a b : Expr} → UnaryAt M c ts a (mark k p ∷ m)
    → assign_op k ≡ Some op → ExprAt M c m b r → SimpleFrom M l c ts (Simple.Assign l a op b) r
assign_from {M = M} {c = c} {l = l} {ts = ts} {r = r} {op = op} {b = b} u e d =
    let (v, f, s) = unary_entered u in subst (λ z. SimpleFrom M l c ts (Simple.Assign l z op b) r) f (by_subject s (assign_then e d))

call_line : {M : May Symbol} {c : ℕ} {ts : Symbols} {f : Ident} {args : List Expr} {r : Symbols} → M c ts → CallAt M (suc c) ts f args r
    → (t : Symbol) × (us : Symbols) × (ts ≡ t ∷ us) × SimpleFrom M t.line c ts (Simple.Call f args) r
call_line may no_argument = (_, _, refl, by_subject (may, call_entered no_argument) (call_then refl))
call_line may (call d) = (_, _, refl, by_subject (may, call_entered (call d)) (call_then refl))

simple_back : (c : ℕ) (M : May Symbol) (ts : Symbols) (s : Simple) (r : Symbols) → SimpleAt M c ts s r
    → (t : Symbol) × (us : Symbols) × (ts ≡ t ∷ us) × SimpleFrom M t.line c ts s r
simple_back c M ts s r (assign u e b) = (_, _, refl, assign_from u e b)
simple_back c M ts s r (increment may d) = (_, _, refl, increment_from may d)
simple_back c M ts s r (decrement may d) = (_, _, refl, decrement_from may d)
simple_back c M ts s r (pre_increment u) = (_, _, refl, first_increment u)
simple_back c M ts s r (pre_decrement u) = (_, _, refl, first_decrement u)
simple_back c M ts s r (call_alone may d) = call_line may d

module _ (limit : ℕ) where
  from_branches : (l : Line) (c : ℕ) (k : SubjectEnd) → Branch limit (spec.simple_start limit l c k) (SimpleBy l c k) (λ s. AfterSimple) AnyToken
  from_branches l c SubjectEnd.Increment =
      branch limit (narrow limit (seq limit (mark_any limit Mark.PlusPlus) (λ p. widen limit (seq limit (unary_at_part limit c) (λ a. gives_part limit (Simple.PreIncrement l a))) (λ t h. tt))) (λ s t h. level_operand tiers t h.0))
  from_branches l c SubjectEnd.Decrement =
      branch limit (narrow limit (seq limit (mark_any limit Mark.MinusMinus) (λ p. widen limit (seq limit (unary_at_part limit c) (λ a. gives_part limit (Simple.PreDecrement l a))) (λ t h. tt))) (λ s t h. level_operand tiers t h.0))
  from_branches l c SubjectEnd.Assign = refuses limit
  from_branches l c SubjectEnd.Other = branch limit (seq limit (operand_at_part limit c) (λ v. simple_end_part limit l c v))

  from_part : (c : ℕ) (l : Line) → Part limit (spec.simple_from limit c l) (SimplesFrom l c) (λ s. AfterSimple) AnyToken
  unfolding spec.simple_from spec.operand_at
  from_part c l =
      dispatch limit (λ t. subject_end (kind_of t)) (spec.simple_start limit l c) (SimpleBy l c) (SimplesFrom l c) (λ s. AfterSimple) AnyToken
      (λ M t us. from_to l c (subject_end (Some t.kind)) M (t ∷ us)) (λ M ts s r d h. from_back l c M ts s r d) (from_branches l c)
      (record { tokens = mark Mark.PlusPlus line_one ∷ zero_symbol ∷ []; value = Simple.PreIncrement l zero_tree; holds = λ M k r free h. first_increment (zero_unary (free c _ (omega arith))) })
      (ap (λ o. and_then o (λ v. spec.simple_end limit l c v)) (subject_none limit limit c)) (λ M s r d h. nothing d)
    where
      nothing : {M : May Symbol} {s : Simple} {r : Symbols} → SimpleFrom M l c [] s r → ⊥
      nothing (by_subject d e) = false_true (entered_begins d)

  pub simple_part : (c : ℕ) → Part limit (spec.simple limit c) (Simples c) (λ s. AfterSimple) AnyToken
  unfolding spec.simple
  simple_part c =
      located_part limit (spec.simple_from limit c) (λ l. SimplesFrom l c) (Simples c) (λ s. AfterSimple) AnyToken (simple_to c) (simple_back c) (from_part c)
      (record { tokens = mark Mark.PlusPlus line_one ∷ zero_symbol ∷ []; value = Simple.PreIncrement line_one zero_tree; holds = λ M k r free h. pre_increment (zero_unary (free c _ (omega arith))) })

  takes_operand_at : (c : ℕ) → Takes (spec.operand_at limit c)
  unfolding spec.operand_at
  takes_operand_at c = takes_subject limit limit c (omega arith)

  pub takes_simple : (c : ℕ) → Takes (spec.simple limit c)
  unfolding spec.simple spec.simple_from
  takes_simple c = takes_located (spec.simple_from limit c) (λ l. takes_choose subject_end (spec.simple_start limit l c) (by l))
    where
      by : (l : Line) (k : SubjectEnd) → Takes (spec.simple_start limit l c k)
      by l SubjectEnd.Increment = takes_seq limit {G = Any} (takes_want (mark_at Mark.PlusPlus)) (λ p. widen limit (seq limit (unary_at_part limit c) (λ a. gives_part limit {F = λ x. AfterOperand} (Simple.PreIncrement l a))) (λ t h. tt))
      by l SubjectEnd.Decrement = takes_seq limit {G = Any} (takes_want (mark_at Mark.MinusMinus)) (λ p. widen limit (seq limit (unary_at_part limit c) (λ a. gives_part limit {F = λ x. AfterOperand} (Simple.PreDecrement l a))) (λ t h. tt))
      by l SubjectEnd.Assign = takes_refuse unexpected
      by l SubjectEnd.Other = takes_seq limit {G = Then} (takes_operand_at c) (λ v. simple_end_part limit l c v)
