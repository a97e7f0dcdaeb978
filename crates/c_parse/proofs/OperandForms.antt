-- The forms of arguments, suffixes and operands, step by step.
use Rattle.std.proofs.Common.{◌≡◌, ℕ, suc, ℤ, ◌<◌, ◌⊎◌, inl, inr, Bool, true, false, if◌then◌else◌, Option, Some, None, List, [], ◌∷◌, length, refl, sym, ap, subst}
use Rattle.dfi_base.specs.declared.numbers.Line.{Line}
use Rattle.c_lex.specs.declared.token.Word.{Word}
use Rattle.c_lex.specs.declared.token.Mark.{Mark}
use Rattle.c_lex.specs.declared.token.Kind.{Kind}
use Rattle.c_ast.specs.declared.ident.Ident.{Ident}
use Rattle.c_ast.specs.declared.decl.TypeName.{TypeName}
use Rattle.c_ast.specs.declared.expr.UnaryOp.{UnaryOp}
use Rattle.c_ast.specs.declared.expr.Expr.{Expr}
use Rattle.c_parse.specs.Nodes as tree
use Rattle.parse_law.specs.tools.Parsing.{Fault, unexpected, done, rising, refuse}
use Rattle.parse_law.specs.Nesting.{May}
use Rattle.parse_law.proofs.Forms.{Form, Follow, Fits}
use Rattle.parse_law.proofs.Bind.{Seq}
use Rattle.parse_law.proofs.Steps.{none_some, false_true}
use Rattle.parse_law.proofs.FirstTokens.{done_fault}
use Rattle.parse_law.proofs.Repeat.{Takes, takes_rising}
use Rattle.c_parse.specs.declared.subject.Subject.{Subject}
use Rattle.c_parse.specs.declared.sorts.OperandStart.{OperandStart}
use Rattle.c_parse.specs.declared.sorts.SuffixStart.{SuffixStart}
use Rattle.c_parse.specs.Symbol.{Symbol, Symbols, word, mark, name, number}
use Rattle.c_parse.specs.Operators.{unary_op, tiers}
use Rattle.c_parse.specs.tools.Sorts.{operand_start, suffix_start, is_operand, is_suffix, is_base}
use Rattle.c_parse.specs.tools.Tokens.{P, next, kind_of, choose, located, located_by, line_next, is_mark, goes}
use Rattle.c_parse.specs.Types.{TypeNameAt}
use Rattle.c_parse.specs.Exprs.{ExprAt, ArgumentsAt, last_argument, more_arguments, SuffixesAt, no_suffix, index, field, arrow, UnaryAt}
use Rattle.c_parse.specs.tools.ExprParser as spec
use Rattle.c_parse.proofs.Parts.{Gives, gives, given, Reads, reads, Void}
use Rattle.c_parse.proofs.TokenParts.{MarkAt, marked, WordAt, worded, IdentAt, named, NumberAt, numbered}
use Rattle.c_parse.proofs.Lists.{Others, Tail, no_tail, tail}
use Rattle.c_parse.proofs.LevelLaws.{AfterOperand, AfterLevel, Unaries}
use Rattle.c_parse.proofs.Begins.{Begins, type_begins, prefix_sort, expr_begins, no_mark, operand_no_base}

-- ---- what may stand behind an expression

pub expr_then_close : (l : Line) → AfterLevel tiers (mark Mark.CloseParen l)
expr_then_close l = (refl, (refl, (refl, (refl, (refl, (refl, (refl, (refl, (refl, (refl, (refl, refl)))))))))))

pub expr_then_bracket : (l : Line) → AfterLevel tiers (mark Mark.CloseBracket l)
expr_then_bracket l = (refl, (refl, (refl, (refl, (refl, (refl, (refl, (refl, (refl, (refl, (refl, refl)))))))))))

pub expr_then_comma : (l : Line) → AfterLevel tiers (mark Mark.Comma l)
expr_then_comma l = (refl, (refl, (refl, (refl, (refl, (refl, (refl, (refl, (refl, (refl, (refl, refl)))))))))))

pub expr_then_semicolon : (l : Line) → AfterLevel tiers (mark Mark.Semicolon l)
expr_then_semicolon l = (refl, (refl, (refl, (refl, (refl, (refl, (refl, (refl, (refl, (refl, (refl, refl)))))))))))

-- ---- the arguments of a call

-- behind the opening parenthesis
pub data InCall (M : May Symbol) (c : ℕ) : Symbols → List Expr → Symbols → Type 0 where
  empty : {q : Line} {rest : Symbols} → InCall M c (mark Mark.CloseParen q ∷ rest) [] rest
  some : {q : Line} {args : List Expr} {ts rest : Symbols} → ArgumentsAt M c ts args (mark Mark.CloseParen q ∷ rest) → InCall M c ts args rest

pub takes_choose : {A K : Type 0} (sort : Option Kind → K) (by : K → P A) → ((k : K) → Takes (by k)) → Takes (choose sort by)
takes_choose sort by takes ts a r e = takes (sort (kind_of (next ts))) ts a r e

takes_line : {A : Type 0} (f : Line → P A) → ((l : Line) → Takes (f l)) → (o : Option Line) → Takes (located_by f o)
takes_line f takes None ts a r e = done_fault (sym e)
takes_line f takes (Some l) ts a r e = takes l ts a r e

pub takes_located : {A : Type 0} (f : Line → P A) → ((l : Line) → Takes (f l)) → Takes (located f)
takes_located f takes ts = takes_line f takes (line_next (next ts)) ts

pub takes_entering : {A : Type 0} (begins : Option Kind → Bool) (limit c : ℕ) (q : ℕ → P A) → Takes (q (suc c)) → Takes (spec.entering begins limit c q)
takes_entering begins limit c q takes ts a r = by_test (begins (kind_of (next ts)))
  where
    by_test : (b : Bool) → (if b then rising limit c q ts else refuse unexpected ts) ≡ done a r → length r < length ts
    by_test true e = takes_rising limit c q takes ts a r e
    by_test false e = done_fault (sym e)

pub takes_refuse : {A : Type 0} (k : Fault) → Takes {T = Symbol} {A = A} (refuse k)
takes_refuse k ts a r e = done_fault (sym e)

abbrev pub E : ℕ → Form Symbol Expr
E c M ts a r = ExprAt M c ts a r

abbrev pub Arguments : ℕ → Form Symbol (List Expr)
Arguments c M ts args r = InCall M c ts args r

abbrev pub ArgumentsBy : ℕ → Bool → Form Symbol (List Expr)
ArgumentsBy c true = Seq (MarkAt Mark.CloseParen) (λ q. Gives [])
ArgumentsBy c false = Seq (E c) (λ a. Seq (Others (E c) a) (λ args. Seq (MarkAt Mark.CloseParen) (λ q. Gives args)))

arguments_join : {M : May Symbol} {c : ℕ} {a : Expr} {others : List Expr} {ts m r : Symbols} → ExprAt M c ts a m → Tail (E c) M m others r
    → ArgumentsAt M c ts (a ∷ others) r
arguments_join d no_tail = last_argument d
arguments_join d (tail e f) = more_arguments d (arguments_join e f)

arguments_split : {M : May Symbol} {c : ℕ} {ts : Symbols} {args : List Expr} {r : Symbols} → ArgumentsAt M c ts args r → Seq (E c) (Others (E c)) M ts args r
arguments_split (last_argument d) = (_, _, d, ([], no_tail, refl))
arguments_split (more_arguments {a = a} d ds) =
    let (b, m, e, (others, f, g)) = arguments_split ds in (a, _, d, (b ∷ others, tail e f, ap (λ z. a ∷ z) g))

pub arguments_to : (c : ℕ) (b : Bool) (M : May Symbol) (ts : Symbols) (args : List Expr) (r : Symbols) → ArgumentsBy c b M ts args r → InCall M c ts args r
arguments_to c true M ts args r (q, m, marked, gives) = empty
arguments_to c false M ts args r (a, m, d, (all, n, (others, f, e), (q, o, marked, gives))) = some (subst (λ z. ArgumentsAt M c ts z (mark Mark.CloseParen q ∷ r)) (sym e) (arguments_join d f))

pub arguments_begin : {M : May Symbol} {c : ℕ} {ts : Symbols} {args : List Expr} {r : Symbols} → ArgumentsAt M c ts args r → Begins is_operand ts
arguments_begin (last_argument d) = expr_begins d
arguments_begin (more_arguments d ds) = expr_begins d

pub arguments_back : (c : ℕ) (M : May Symbol) (ts : Symbols) (args : List Expr) (r : Symbols) → InCall M c ts args r
    → ArgumentsBy c (is_mark Mark.CloseParen (kind_of (next ts))) M ts args r
arguments_back c M ts args r empty = (_, _, marked, gives)
arguments_back c M ts args r (some d) =
    let (a, m, e, f) = arguments_split d in
    subst (λ z. ArgumentsBy c z M ts args r) (sym (no_mark is_operand Mark.CloseParen refl (kind_of (next ts)) (arguments_begin d)))
    (a, m, e, (args, _, f, (_, r, marked, gives)))

-- ---- a suffix

-- with the counter already risen
pub data SuffixAt (M : May Symbol) (l : Line) (a : Expr) (c : ℕ) : Symbols → (Expr × ℕ) → Symbols → Type 0 where
  one_index : {p q : Line} {b : Expr} {ts m : Symbols} → ExprAt M c ts b (mark Mark.CloseBracket q ∷ m)
      → SuffixAt M l a c (mark Mark.OpenBracket p ∷ ts) (tree.Index l a b, c) m
  one_field : {p k : Line} {n : ℕ} {ts : Symbols} → SuffixAt M l a c (mark Mark.Dot p ∷ name n k ∷ ts) (tree.Field l a (record { line = k; name = n }), c) ts
  one_arrow : {p k : Line} {n : ℕ} {ts : Symbols} → SuffixAt M l a c (mark Mark.Arrow p ∷ name n k ∷ ts) (tree.Arrow l a (record { line = k; name = n }), c) ts

abbrev pub Suffix : Line → Expr → ℕ → Form Symbol (Expr × ℕ)
Suffix l a c M ts v r = SuffixAt M l a c ts v r

abbrev pub SuffixBy : Line → Expr → ℕ → SuffixStart → Form Symbol (Expr × ℕ)
SuffixBy l a c SuffixStart.Index = Seq (MarkAt Mark.OpenBracket) (λ p. Seq (E c) (λ i. Seq (MarkAt Mark.CloseBracket) (λ q. Gives (tree.Index l a i, c))))
SuffixBy l a c SuffixStart.Field = Seq (MarkAt Mark.Dot) (λ p. Seq IdentAt (λ i. Gives (tree.Field l a i, c)))
SuffixBy l a c SuffixStart.Arrow = Seq (MarkAt Mark.Arrow) (λ p. Seq IdentAt (λ i. Gives (tree.Arrow l a i, c)))
SuffixBy l a c SuffixStart.Other = Void

pub suffix_to : (l : Line) (a : Expr) (c : ℕ) (k : SuffixStart) (M : May Symbol) (ts : Symbols) (v : Expr × ℕ) (r : Symbols)
    → SuffixBy l a c k M ts v r → SuffixAt M l a c ts v r
suffix_to l a c SuffixStart.Index M ts v r (p, m, marked, (i, n, d, (q, o, marked, g))) = given g (SuffixAt M l a c _) (one_index d)
suffix_to l a c SuffixStart.Field M ts v r (p, m, marked, (i, n, named, g)) = given g (SuffixAt M l a c _) one_field
suffix_to l a c SuffixStart.Arrow M ts v r (p, m, marked, (i, n, named, g)) = given g (SuffixAt M l a c _) one_arrow
suffix_to l a c SuffixStart.Other M ts v r d = absurd d

pub suffix_back : (l : Line) (a : Expr) (c : ℕ) (M : May Symbol) (ts : Symbols) (v : Expr × ℕ) (r : Symbols) → SuffixAt M l a c ts v r
    → SuffixBy l a c (suffix_start (kind_of (next ts))) M ts v r
suffix_back l a c M ts v r (one_index d) = (_, _, marked, (_, _, d, (_, _, marked, gives)))
suffix_back l a c M ts v r one_field = (_, _, marked, (_, _, named, gives))
suffix_back l a c M ts v r one_arrow = (_, _, marked, (_, _, named, gives))

-- ---- suffixes

abbrev pub MoreSuffixes : Line → (Expr × ℕ) → Form Symbol (Expr × ℕ)
MoreSuffixes l v M ts z r = SuffixesAt M l v.1 v.0 ts z.0 r z.1

abbrev pub RisenSuffix : Line → (Expr × ℕ) → Form Symbol (Expr × ℕ)
RisenSuffix l v M ts w r = M v.1 ts × Suffix l v.0 (suc v.1) M ts w r

pub suffixes_go : (l : Line) (M : May Symbol) (x y z : Expr × ℕ) (ts m r : Symbols) → RisenSuffix l x M ts y m → MoreSuffixes l y M m z r
    → MoreSuffixes l x M ts z r
suffixes_go l M x y z ts m r (may, one_index d) ds = index may d ds
suffixes_go l M x y z ts m r (may, one_field) ds = field may ds
suffixes_go l M x y z ts m r (may, one_arrow) ds = arrow may ds

pub suffixes_split : (l : Line) (M : May Symbol) (x z : Expr × ℕ) (ts r : Symbols) → MoreSuffixes l x M ts z r
    → ((x ≡ z) × (ts ≡ r)) ⊎ Seq (RisenSuffix l x) (MoreSuffixes l) M ts z r
suffixes_split l M x z ts r d = split_by x.1 x.0 ts z.0 r z.1 d
  where
    split_by : (c : ℕ) (a : Expr) (us : Symbols) (b : Expr) (rest : Symbols) (d : ℕ) → SuffixesAt M l c a us b rest d
        → ((◌≡◌ {A = Expr × ℕ} (a, c) (b, d)) × (us ≡ rest)) ⊎ Seq {B = Expr × ℕ} (RisenSuffix l (a, c)) (MoreSuffixes l) M us (b, d) rest
    split_by c a us b rest d no_suffix = inl (refl, refl)
    split_by c a us b rest d (index may e ds) = inr (_, _, (may, one_index e), ds)
    split_by c a us b rest d (field may ds) = inr (_, _, (may, one_field), ds)
    split_by c a us b rest d (arrow may ds) = inr (_, _, (may, one_arrow), ds)

pub suffixes_start : (l : Line) (M : May Symbol) (x y : Expr × ℕ) (ts m : Symbols) → RisenSuffix l x M ts y m
    → (t : Symbol) × (us : Symbols) × (ts ≡ t ∷ us) × (goes is_suffix t ≡ true)
suffixes_start l M x y ts m (may, one_index d) = (_, _, refl, refl)
suffixes_start l M x y ts m (may, one_field) = (_, _, refl, refl)
suffixes_start l M x y ts m (may, one_arrow) = (_, _, refl, refl)

-- an operand with its suffixes
abbrev pub Postfixed : Line → ℕ → Expr → Form Symbol Subject
Postfixed l c a = Seq (MoreSuffixes l (a, c)) (λ v. Gives (Subject.Postfix v.0))

-- ---- an operand, by what a statement makes of it. The line is that of its first token.

pub data SubjectAt (M : May Symbol) (l : Line) (c : ℕ) : Symbols → Subject → Symbols → Type 0 where
  before : {p : Line} {k : Mark} {op : UnaryOp} {ts r : Symbols} {a : Expr} → unary_op k ≡ Some op → UnaryAt M c ts a r
      → SubjectAt M l c (mark k p ∷ ts) (Subject.Prefixed (tree.Unary l op a)) r
  converted : {p q : Line} {t : TypeName} {ts m r : Symbols} {a : Expr} → TypeNameAt ts t (mark Mark.CloseParen q ∷ m) → UnaryAt M c m a r
      → SubjectAt M l c (mark Mark.OpenParen p ∷ ts) (Subject.Prefixed (tree.Cast l t a)) r
  grouped : {p q : Line} {d : ℕ} {ts m r : Symbols} {a b : Expr} → ExprAt M c ts a (mark Mark.CloseParen q ∷ m)
      → SuffixesAt M l c a m b r d → SubjectAt M l c (mark Mark.OpenParen p ∷ ts) (Subject.Postfix b) r
  of_number : {p : Line} {k : ℤ} {d : ℕ} {ts r : Symbols} {b : Expr} → SuffixesAt M l c (tree.Number l k) ts b r d
      → SubjectAt M l c (number k p ∷ ts) (Subject.Postfix b) r
  of_null : {p : Line} {d : ℕ} {ts r : Symbols} {b : Expr} → SuffixesAt M l c (tree.Null l) ts b r d
      → SubjectAt M l c (word Word.Null p ∷ ts) (Subject.Postfix b) r
  of_name : {p : Line} {n d : ℕ} {ts r : Symbols} {b : Expr} → SuffixesAt M l c (tree.Name (record { line = p; name = n })) ts b r d
      → SubjectAt M l c (name n p ∷ ts) (Subject.Postfix b) r
  of_sizeof : {p q s : Line} {t : TypeName} {d : ℕ} {ts m r : Symbols} {b : Expr} → TypeNameAt ts t (mark Mark.CloseParen s ∷ m)
      → SuffixesAt M l c (tree.Sizeof l t) m b r d
      → SubjectAt M l c (word Word.Sizeof p ∷ mark Mark.OpenParen q ∷ ts) (Subject.Postfix b) r
  of_call : {p q : Line} {n : ℕ} {args : List Expr} {ts r : Symbols} → InCall M c ts args r
      → SubjectAt M l c (name n p ∷ mark Mark.OpenParen q ∷ ts) (Subject.Call (record { line = p; name = n }) args) r
  of_called : {p q : Line} {n d : ℕ} {args : List Expr} {ts m r : Symbols} {b : Expr} → InCall M c ts args m → Begins is_suffix m
      → SuffixesAt M l c (tree.Call (record { line = p; name = n }) args) m b r d
      → SubjectAt M l c (name n p ∷ mark Mark.OpenParen q ∷ ts) (Subject.Postfix b) r

abbrev pub Then : Follow Symbol Subject
Then v = AfterOperand

-- ---- behind a call

pub data CallEnd (M : May Symbol) (l : Line) (c : ℕ) (f : Ident) (args : List Expr) : Symbols → Subject → Symbols → Type 0 where
  bare : {ts : Symbols} → CallEnd M l c f args ts (Subject.Call f args) ts
  further : {d : ℕ} {ts r : Symbols} {b : Expr} → Begins is_suffix ts → SuffixesAt M l c (tree.Call f args) ts b r d
      → CallEnd M l c f args ts (Subject.Postfix b) r

abbrev pub CallEnds : Line → ℕ → Ident → List Expr → Form Symbol Subject
CallEnds l c f args M ts v r = CallEnd M l c f args ts v r

abbrev pub CallEndBy : Line → ℕ → Ident → List Expr → Bool → Form Symbol Subject
CallEndBy l c f args true = Postfixed l c (tree.Call f args)
CallEndBy l c f args false = Gives (Subject.Call f args)

pub call_end_to_by : (l : Line) (c : ℕ) (f : Ident) (args : List Expr) (b : Bool) (M : May Symbol) (t : Symbol) (us : Symbols) (v : Subject) (r : Symbols) → is_suffix (Some t.kind) ≡ b
    → CallEndBy l c f args b M (t ∷ us) v r → CallEnd M l c f args (t ∷ us) v r
call_end_to_by l c f args true M t us v r e (w, m, d, g) = given g (CallEnd M l c f args (t ∷ us)) (further e d)
call_end_to_by l c f args false M t us v r e gives = bare

bare_before : (l : Line) (c : ℕ) (f : Ident) (args : List Expr) (M : May Symbol) (ts : Symbols) → Fits AfterOperand ts
    → CallEndBy l c f args (is_suffix (kind_of (next ts))) M ts (Subject.Call f args) ts
bare_before l c f args M [] h = gives
bare_before l c f args M (t ∷ ts) h = subst (λ z. CallEndBy l c f args z M (t ∷ ts) (Subject.Call f args) (t ∷ ts)) (sym h.0) gives

pub call_end_back : (l : Line) (c : ℕ) (f : Ident) (args : List Expr) (M : May Symbol) (ts : Symbols) (v : Subject) (r : Symbols)
    → CallEnd M l c f args ts v r → Fits AfterOperand r
    → CallEndBy l c f args (is_suffix (kind_of (next ts))) M ts v r
call_end_back l c f args M ts v r bare h = bare_before l c f args M ts h
call_end_back l c f args M ts v r (further {d = d} {b = b} e s) h = subst (λ z. CallEndBy l c f args z M ts (Subject.Postfix b) r) (sym e) ((b, d), r, s, gives)

pub call_end_only : (l : Line) (c : ℕ) (f : Ident) (args : List Expr) (M : May Symbol) (v : Subject) (r : Symbols) → CallEnd M l c f args [] v r
    → (Subject.Call f args ≡ v) × ([] ≡ r)
call_end_only l c f args M v r bare = (refl, refl)
call_end_only l c f args M v r (further e s) = absurd (false_true e)

-- behind the opening parenthesis of a call
abbrev pub Called : Line → ℕ → Ident → Form Symbol Subject
Called l c f = Seq (Arguments c) (λ args. CallEnds l c f args)

-- ---- behind a name

pub data NamedAt (M : May Symbol) (l : Line) (c : ℕ) (i : Ident) : Symbols → Subject → Symbols → Type 0 where
  variable_end : {d : ℕ} {ts r : Symbols} {b : Expr} → SuffixesAt M l c (tree.Name i) ts b r d → NamedAt M l c i ts (Subject.Postfix b) r
  call_start : {q : Line} {ts r : Symbols} {v : Subject} → Called l c i M ts v r → NamedAt M l c i (mark Mark.OpenParen q ∷ ts) v r

abbrev pub Named : Line → ℕ → Ident → Form Symbol Subject
Named l c i M ts v r = NamedAt M l c i ts v r

abbrev pub NamedBy : Line → ℕ → Ident → Bool → Form Symbol Subject
NamedBy l c i true = Seq (MarkAt Mark.OpenParen) (λ q. Called l c i)
NamedBy l c i false = Postfixed l c (tree.Name i)

pub named_to : (l : Line) (c : ℕ) (i : Ident) (b : Bool) (M : May Symbol) (ts : Symbols) (v : Subject) (r : Symbols) → NamedBy l c i b M ts v r
    → NamedAt M l c i ts v r
named_to l c i true M ts v r (q, m, marked, d) = call_start d
named_to l c i false M ts v r (w, m, d, g) = given g (NamedAt M l c i ts) (variable_end d)

-- a suffix does not open a call
suffixes_alone : {M : May Symbol} {l : Line} {c : ℕ} {a : Expr} {ts : Symbols} {b : Expr} {r : Symbols} {d : ℕ} → SuffixesAt M l c a ts b r d
    → Fits AfterOperand r → is_mark Mark.OpenParen (kind_of (next ts)) ≡ false
suffixes_alone {r = r} no_suffix h = none_by r h
  where
    none_by : (us : Symbols) → Fits AfterOperand us → is_mark Mark.OpenParen (kind_of (next us)) ≡ false
    none_by [] h = refl
    none_by (t ∷ us) h = h.1
suffixes_alone (index may e ds) h = refl
suffixes_alone (field may ds) h = refl
suffixes_alone (arrow may ds) h = refl

pub named_back : (l : Line) (c : ℕ) (i : Ident) (M : May Symbol) (ts : Symbols) (v : Subject) (r : Symbols) → NamedAt M l c i ts v r
    → Fits AfterOperand r → NamedBy l c i (is_mark Mark.OpenParen (kind_of (next ts))) M ts v r
named_back l c i M ts v r (variable_end {d = d} {b = b} s) h = subst (λ z. NamedBy l c i z M ts (Subject.Postfix b) r) (sym (suffixes_alone s h)) ((b, d), r, s, gives)
named_back l c i M ts v r (call_start d) h = (_, _, marked, d)

pub named_only : (l : Line) (c : ℕ) (i : Ident) (M : May Symbol) (v : Subject) (r : Symbols) → NamedAt M l c i [] v r
    → (Subject.Postfix (tree.Name i) ≡ v) × ([] ≡ r)
named_only l c i M v r (variable_end s) = none_by s
  where
    none_by : {b : Expr} {us : Symbols} {d : ℕ} → SuffixesAt M l c (tree.Name i) [] b us d → (Subject.Postfix (tree.Name i) ≡ Subject.Postfix b) × ([] ≡ us)
    none_by no_suffix = (refl, refl)

-- ---- behind an opening parenthesis

pub data OpenedAt (M : May Symbol) (l : Line) (c : ℕ) : Symbols → Subject → Symbols → Type 0 where
  cast_end : {q : Line} {t : TypeName} {ts m r : Symbols} {a : Expr} → TypeNameAt ts t (mark Mark.CloseParen q ∷ m) → UnaryAt M c m a r
      → OpenedAt M l c ts (Subject.Prefixed (tree.Cast l t a)) r
  group_end : {q : Line} {d : ℕ} {ts m r : Symbols} {a b : Expr} → ExprAt M c ts a (mark Mark.CloseParen q ∷ m)
      → SuffixesAt M l c a m b r d → OpenedAt M l c ts (Subject.Postfix b) r

abbrev pub Opened : Line → ℕ → Form Symbol Subject
Opened l c M ts v r = OpenedAt M l c ts v r

abbrev pub T : Form Symbol TypeName
T M ts a r = TypeNameAt ts a r

abbrev pub OpenedBy : Line → ℕ → Bool → Form Symbol Subject
OpenedBy l c true = Seq T (λ t. Seq (MarkAt Mark.CloseParen) (λ q. Seq (Unaries c) (λ a. Gives (Subject.Prefixed (tree.Cast l t a)))))
OpenedBy l c false = Seq (E c) (λ a. Seq (MarkAt Mark.CloseParen) (λ q. Postfixed l c a))

pub opened_to : (l : Line) (c : ℕ) (b : Bool) (M : May Symbol) (ts : Symbols) (v : Subject) (r : Symbols) → OpenedBy l c b M ts v r → OpenedAt M l c ts v r
opened_to l c true M ts v r (t, m, d, (q, n, marked, (a, o, u, g))) = given g (OpenedAt M l c ts) (cast_end d u)
opened_to l c false M ts v r (a, m, d, (q, n, marked, (w, o, s, g))) = given g (OpenedAt M l c ts) (group_end d s)

pub opened_back : (l : Line) (c : ℕ) (M : May Symbol) (ts : Symbols) (v : Subject) (r : Symbols) → OpenedAt M l c ts v r
    → OpenedBy l c (is_base (kind_of (next ts))) M ts v r
opened_back l c M ts v r (cast_end {t = t} {a = a} d u) = subst (λ z. OpenedBy l c z M ts (Subject.Prefixed (tree.Cast l t a)) r) (sym (type_begins d)) (t, _, d, (_, _, marked, (a, r, u, gives)))
opened_back l c M ts v r (group_end {d = d'} {a = a} {b = b} d s) =
    subst (λ z. OpenedBy l c z M ts (Subject.Postfix b) r) (sym (operand_no_base (kind_of (next ts)) (expr_begins d))) (a, _, d, (_, _, marked, ((b, d'), r, s, gives)))

-- ---- an operand

-- an operator before an operand
pub data PrefixAt (M : May Symbol) : Symbols → UnaryOp → Symbols → Type 0 where
  prefix_here : {p : Line} {k : Mark} {op : UnaryOp} {ts : Symbols} → unary_op k ≡ Some op → PrefixAt M (mark k p ∷ ts) op ts

prefix_reads_by : (M : May Symbol) (k : Kind) (p : Line) (op : UnaryOp) (ts : Symbols) → spec.unary_in k ≡ Some op
    → PrefixAt M (record { kind = k; line = p } ∷ ts) op ts
prefix_reads_by M (Kind.Mark k) p op ts e = prefix_here e
prefix_reads_by M (Kind.Word w) p op ts e = none_some e
prefix_reads_by M (Kind.Id n) p op ts e = none_some e
prefix_reads_by M (Kind.Num n) p op ts e = none_some e

pub prefix_reads : (M : May Symbol) (ts : Symbols) (op : UnaryOp) (r : Symbols) → Reads spec.unary_at M ts op r → PrefixAt M ts op r
prefix_reads M ts op r (reads {t = t} e) = prefix_reads_by M t.kind t.line op r e

pub reads_prefix : (M : May Symbol) (ts : Symbols) (op : UnaryOp) (r : Symbols) → PrefixAt M ts op r → Reads spec.unary_at M ts op r
reads_prefix M ts op r (prefix_here e) = reads e

abbrev pub SubjectForm : Line → ℕ → Form Symbol Subject
SubjectForm l c M ts v r = SubjectAt M l c ts v r

abbrev pub SubjectBy : Line → ℕ → OperandStart → Form Symbol Subject
SubjectBy l c OperandStart.Prefix = Seq PrefixAt (λ op. Seq (Unaries c) (λ a. Gives (Subject.Prefixed (tree.Unary l op a))))
SubjectBy l c OperandStart.Paren = Seq (MarkAt Mark.OpenParen) (λ p. Opened l c)
SubjectBy l c OperandStart.Number = Seq NumberAt (λ k. Postfixed l c (tree.Number l k))
SubjectBy l c OperandStart.Null = Seq (WordAt Word.Null) (λ p. Postfixed l c (tree.Null l))
SubjectBy l c OperandStart.Name = Seq IdentAt (λ i. Named l c i)
SubjectBy l c OperandStart.Sizeof = Seq (WordAt Word.Sizeof) (λ p. Seq (MarkAt Mark.OpenParen) (λ q. Seq T (λ t. Seq (MarkAt Mark.CloseParen) (λ s. Postfixed l c (tree.Sizeof l t)))))
SubjectBy l c OperandStart.Other = Void

pub subject_to : (l : Line) (c : ℕ) (k : OperandStart) (M : May Symbol) (ts : Symbols) (v : Subject) (r : Symbols) → SubjectBy l c k M ts v r
    → SubjectAt M l c ts v r
subject_to l c OperandStart.Prefix M ts v r (op, m, prefix_here e, (a, n, u, g)) = given g (SubjectAt M l c _) (before e u)
subject_to l c OperandStart.Paren M ts v r (p, m, marked, cast_end d u) = converted d u
subject_to l c OperandStart.Paren M ts v r (p, m, marked, group_end d s) = grouped d s
subject_to l c OperandStart.Number M ts v r (k, m, numbered, (w, n, s, g)) = given g (SubjectAt M l c _) (of_number s)
subject_to l c OperandStart.Null M ts v r (p, m, worded, (w, n, s, g)) = given g (SubjectAt M l c _) (of_null s)
subject_to l c OperandStart.Name M ts v r (i, m, named, variable_end s) = of_name s
subject_to l c OperandStart.Name M ts v r (i, m, named, call_start (args, n, d, bare)) = of_call d
subject_to l c OperandStart.Name M ts v r (i, m, named, call_start (args, n, d, further e s)) = of_called d e s
subject_to l c OperandStart.Sizeof M ts v r (p, m, worded, (q, n, marked, (t, o, d, (s, u, marked, (w, x, f, g))))) = given g (SubjectAt M l c _) (of_sizeof d f)
subject_to l c OperandStart.Other M ts v r d = absurd d

pub subject_back : (l : Line) (c : ℕ) (M : May Symbol) (ts : Symbols) (v : Subject) (r : Symbols) → SubjectAt M l c ts v r
    → SubjectBy l c (operand_start (kind_of (next ts))) M ts v r
subject_back l c M ts v r (before {p = p} {k = k} {op = op} {ts = us} {a = a} e u) =
    subst (λ z. SubjectBy l c z M (mark k p ∷ us) (Subject.Prefixed (tree.Unary l op a)) r) (sym (prefix_sort k op e)) (op, us, prefix_here e, (a, r, u, gives))
subject_back l c M ts v r (converted d u) = (_, _, marked, cast_end d u)
subject_back l c M ts v r (grouped d s) = (_, _, marked, group_end d s)
subject_back l c M ts v r (of_number {d = d} {b = b} s) = (_, _, numbered, ((b, d), r, s, gives))
subject_back l c M ts v r (of_null {d = d} {b = b} s) = (_, _, worded, ((b, d), r, s, gives))
subject_back l c M ts v r (of_name s) = (_, _, named, variable_end s)
subject_back l c M ts v r (of_sizeof {d = d'} {b = b} d s) = (_, _, worded, (_, _, marked, (_, _, d, (_, _, marked, ((b, d'), r, s, gives)))))
subject_back l c M ts v r (of_call {args = args} d) = (_, _, named, call_start (args, _, d, bare))
subject_back l c M ts v r (of_called {args = args} d e s) = (_, _, named, call_start (args, _, d, further e s))

-- at its line
abbrev pub Subjects : ℕ → Form Symbol Subject
Subjects c M ts v r = (t : Symbol) × (us : Symbols) × (ts ≡ t ∷ us) × SubjectAt M t.line c ts v r
