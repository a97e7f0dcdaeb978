-- Declarations are read by their grammar.
use Rattle.std.proofs.Common.{◌≡◌, ℕ, Bool, true, false, Some, None, List, [], ◌∷◌, refl, sym, ap, subst}
use Rattle.dfi_base.specs.declared.numbers.Line.{Line}
use Rattle.c_lex.specs.declared.token.Mark.{Mark}
use Rattle.c_ast.specs.declared.decl.Base.{Base}
use Rattle.c_ast.specs.declared.decl.Declarator.{Declarator}
use Rattle.c_ast.specs.declared.decl.Decl.{Decl}
use Rattle.c_ast.specs.declared.decl.DeclItem.{DeclItem}
use Rattle.c_ast.specs.declared.expr.Expr.{Expr}
use Rattle.parse_law.specs.Nesting.{May}
use Rattle.parse_law.proofs.Forms.{Form, Fits}
use Rattle.parse_law.proofs.Bind.{Seq, Leads}
use Rattle.parse_law.proofs.Carry.{fits_fewer}
use Rattle.parse_law.proofs.Steps.{Any}
use Rattle.c_parse.specs.Symbol.{Symbol, Symbols, mark}
use Rattle.c_parse.specs.Operators.{tiers}
use Rattle.c_parse.specs.tools.Tokens.{next, kind_of, is_mark}
use Rattle.c_parse.specs.Types.{BaseAt, DeclaratorAt}
use Rattle.c_parse.specs.Exprs.{ExprAt}
use Rattle.c_parse.specs.Stmts.{DeclItemAt, plain, valued, DeclItemsAt, last, more, DeclAt, decl}
use Rattle.c_parse.specs.tools.TypeParser.{has}
use Rattle.c_parse.specs.tools.ExprParser.{subject, unary_of}
use Rattle.c_parse.specs.tools.StmtParser as spec
use Rattle.c_parse.proofs.Parts.{Part, Gives, gives, given, gives_part, seq, narrow, widen, relead, restate, Branch, branch, dispatch_empty}
use Rattle.c_parse.proofs.TokenParts.{MarkAt, marked, mark_any, mark_part, AnyToken, Only, only_mark}
use Rattle.c_parse.proofs.Lists.{others_part, Others, Tail, no_tail, tail}
use Rattle.c_parse.proofs.TypeLaws.{Not, NoBracket, base_part, declarator_part}
use Rattle.c_parse.proofs.LevelLaws.{AfterOperand, AfterLevel, Unaries, unary_part, expr_part}
use Rattle.c_parse.proofs.OperandForms.{expr_then_comma, expr_then_semicolon}
use Rattle.c_parse.proofs.SubjectLaws.{Entered, Then, subject_part, unaries_law}

abbrev pub E : ℕ → Form Symbol Expr
E c M ts a r = ExprAt M c ts a r

module _ (limit : ℕ) where
  pub expr_at_part : (c : ℕ) → Part limit (spec.expr_at limit c) (E c) (λ a. AfterLevel tiers) AnyToken
  unfolding spec.expr_at
  expr_at_part c = expr_part limit (unary_of (subject limit limit)) (λ d. Unit {0}) (λ d e l g. tt) (λ d g. unaries_law limit d) c tt

  pub unary_at_part : (c : ℕ) → Part limit (spec.unary_at limit c) (Unaries c) (λ a. AfterOperand) AnyToken
  unfolding spec.unary_at
  unary_at_part c = unary_part limit (unary_of (subject limit limit)) (λ d. Unit {0}) (λ d e l g. tt) (λ d g. unaries_law limit d) c tt

  pub operand_at_part : (c : ℕ) → Part limit (spec.operand_at limit c) (Entered c) Then AnyToken
  unfolding spec.operand_at
  operand_at_part c = subject_part limit c

-- ---- an item of a declaration

abbrev pub AfterItem : Symbol → Type 0
AfterItem t = NoBracket t × Not (is_mark Mark.Assign) t × AfterLevel tiers t

-- behind the declarator
pub data ValuedAt (M : May Symbol) (c : ℕ) (d : Declarator) : Symbols → DeclItem → Symbols → Type 0 where
  without : {ts : Symbols} → ValuedAt M c d ts (record { declarator = d; value = None }) ts
  with_value : {p : Line} {a : Expr} {ts r : Symbols} → ExprAt M c ts a r
      → ValuedAt M c d (mark Mark.Assign p ∷ ts) (record { declarator = d; value = Some a }) r

abbrev pub Valued : ℕ → Declarator → Form Symbol DeclItem
Valued c d M ts i r = ValuedAt M c d ts i r

abbrev ValueBy : ℕ → Declarator → Bool → Form Symbol DeclItem
ValueBy c d true = Seq (MarkAt Mark.Assign) (λ p. Seq (E c) (λ a. Gives (record { declarator = d; value = Some a })))
ValueBy c d false = Gives (record { declarator = d; value = None })

value_to : (c : ℕ) (d : Declarator) (b : Bool) (M : May Symbol) (ts : Symbols) (i : DeclItem) (r : Symbols) → ValueBy c d b M ts i r → ValuedAt M c d ts i r
value_to c d true M ts i r (p, m, marked, (a, n, e, gives)) = with_value e
value_to c d false M ts i r gives = without

value_before : (c : ℕ) (d : Declarator) (M : May Symbol) (ts : Symbols) → Fits AfterItem ts
    → ValueBy c d (is_mark Mark.Assign (kind_of (next ts))) M ts (record { declarator = d; value = None }) ts
value_before c d M [] h = gives
value_before c d M (t ∷ ts) h = subst (λ z. ValueBy c d z M (t ∷ ts) (record { declarator = d; value = None }) (t ∷ ts)) (sym h.1) gives

value_back : (c : ℕ) (d : Declarator) (M : May Symbol) (ts : Symbols) (i : DeclItem) (r : Symbols) → ValuedAt M c d ts i r → Fits AfterItem r
    → ValueBy c d (is_mark Mark.Assign (kind_of (next ts))) M ts i r
value_back c d M ts i r without h = value_before c d M ts h
value_back c d M ts i r (with_value e) h = (_, _, marked, (_, r, e, gives))

value_only : (c : ℕ) (d : Declarator) (M : May Symbol) (i : DeclItem) (r : Symbols) → ValuedAt M c d [] i r
    → (◌≡◌ {A = DeclItem} (record { declarator = d; value = None }) i) × ([] ≡ r)
value_only c d M i r without = (refl, refl)

value_leads : (c : ℕ) (d : Declarator) → Leads (Valued c d) (λ i. AfterItem) NoBracket
value_leads c d M ts i r without h = fits_fewer (λ t f. f.0) ts h
value_leads c d M ts i r (with_value e) h = refl

abbrev pub Items : ℕ → Form Symbol DeclItem
Items c M ts i r = DeclItemAt M c ts i r

abbrev pub Declarators : Form Symbol Declarator
Declarators M ts a r = DeclaratorAt ts a r

item_to : (c : ℕ) (M : May Symbol) (ts : Symbols) (i : DeclItem) (r : Symbols) → Seq Declarators (Valued c) M ts i r → DeclItemAt M c ts i r
item_to c M ts i r (d, m, e, without) = plain e
item_to c M ts i r (d, m, e, with_value f) = valued e f

item_back : (c : ℕ) (M : May Symbol) (ts : Symbols) (i : DeclItem) (r : Symbols) → DeclItemAt M c ts i r → Seq Declarators (Valued c) M ts i r
item_back c M ts i r (plain e) = (_, r, e, without)
item_back c M ts i r (valued e f) = (_, _, e, with_value f)

module _ (limit : ℕ) where
  value_branches : (c : ℕ) (d : Declarator) (b : Bool) → Branch limit (spec.value_by limit c d b) (ValueBy c d b) (λ i. AfterItem) AnyToken
  value_branches c d true =
      branch limit (narrow limit (seq limit (mark_any limit Mark.Assign) (λ p. widen limit (seq limit (expr_at_part limit c) (λ a. gives_part limit (record { declarator = d; value = Some a }))) (λ t h. tt))) (λ i t h. h.2))
  value_branches c d false = branch limit (widen limit (gives_part limit (record { declarator = d; value = None })) (λ t h. tt))

  pub valued_part : (c : ℕ) (d : Declarator) → Part limit (spec.valued limit c d) (Valued c d) (λ i. AfterItem) NoBracket
  unfolding spec.valued
  valued_part c d =
      relead limit
      (dispatch_empty limit (λ t. is_mark Mark.Assign (kind_of t)) (spec.value_by limit c d) (ValueBy c d) (Valued c d) (λ i. AfterItem) AnyToken
      (λ M t us. value_to c d (is_mark Mark.Assign (Some t.kind)) M (t ∷ us)) (value_back c d) (value_branches c d)
      (record { declarator = d; value = None }) refl (λ M ts h. without) (λ M i r e h. value_only c d M i r e))
      (value_leads c d)

  pub item_part : (c : ℕ) → Part limit (spec.decl_item limit c) (Items c) (λ i. AfterItem) AnyToken
  unfolding spec.decl_item
  item_part c =
      restate limit (Items c) (λ i. AfterItem) AnyToken (seq limit (declarator_part limit) (λ d. valued_part c d)) (item_to c) (λ M ts i r d h. item_back c M ts i r d) (λ i t h. h) (λ t h. h)

-- ---- a declaration

abbrev pub Decls : ℕ → Form Symbol Decl
Decls c M ts d r = DeclAt M c ts d r

-- behind its first item
abbrev pub DeclRest : ℕ → Base → DeclItem → Form Symbol Decl
DeclRest c b i = Seq (Others (Items c) i) (λ items. Seq (MarkAt Mark.Semicolon) (λ q. Gives (record { base = b; items = items })))

items_join : {M : May Symbol} {c : ℕ} {i : DeclItem} {others : List DeclItem} {ts m r : Symbols} → DeclItemAt M c ts i m → Tail (Items c) M m others r
    → DeclItemsAt M c ts (i ∷ others) r
items_join d no_tail = last d
items_join d (tail e f) = more d (items_join e f)

items_split : {M : May Symbol} {c : ℕ} {ts : Symbols} {all : List DeclItem} {r : Symbols} → DeclItemsAt M c ts all r
    → Seq (Items c) (Others (Items c)) M ts all r
items_split (last d) = (_, _, d, ([], no_tail, refl))
items_split (more {i = i} d ds) = let (b, m, e, (others, f, g)) = items_split ds in (i, _, d, (b ∷ others, tail e f, ap (λ z. i ∷ z) g))

pub decl_join : {M : May Symbol} {c : ℕ} {b : Base} {ts m n r : Symbols} {i : DeclItem} {d : Decl} → BaseAt ts b m → DeclItemAt M c m i n
    → DeclRest c b i M n d r → DeclAt M c ts d r
decl_join {M = M} {c = c} {b = b} {ts = ts} {m = m} {r = r} d e (items, o, (others, f, g), (q, u, marked, h)) =
    given h (DeclAt M c ts) (decl d (subst (λ z. DeclItemsAt M c m z (mark Mark.Semicolon q ∷ u)) (sym g) (items_join e f)))

decl_to : (c : ℕ) (M : May Symbol) (ts : Symbols) (d : Decl) (r : Symbols)
    → Seq {B = Decl} (λ M us b m. BaseAt us b m) (λ b. Seq (Items c) (λ i. DeclRest c b i)) M ts d r → DeclAt M c ts d r
decl_to c M ts d r (b, m, e, (i, n, f, g)) = decl_join e f g

pub decl_back : (c : ℕ) (M : May Symbol) (ts : Symbols) (d : Decl) (r : Symbols) → DeclAt M c ts d r
    → Seq {B = Decl} (λ M us b m. BaseAt us b m) (λ b. Seq (Items c) (λ i. DeclRest c b i)) M ts d r
decl_back c M ts d r (decl {l = l} {items = items} e f) =
    let (i, n, g, o) = items_split f in (_, _, e, (i, n, g, (items, _, o, (l, r, marked, gives))))

module _ (limit : ℕ) where
  pub decl_rest_part : (c : ℕ) (b : Base) (i : DeclItem) → Part limit (spec.decl_rest limit c b i) (DeclRest c b i) Any AfterItem
  unfolding spec.decl_rest
  decl_rest_part c b i =
      seq limit (others_part limit (spec.decl_item limit c) (Items c) AfterItem (Only Mark.Semicolon) AnyToken (λ l. (refl, refl, expr_then_comma l))
      (only_mark Mark.Semicolon (λ t. has Mark.Comma t ≡ false) (λ l. refl)) (only_mark Mark.Semicolon AfterItem (λ l. (refl, refl, expr_then_semicolon l))) (item_part limit c) i)
      (λ items. seq limit (mark_part limit Mark.Semicolon (λ l. refl)) (λ q. gives_part limit (record { base = b; items = items })))

  pub decl_part : (c : ℕ) → Part limit (spec.decl limit c) (Decls c) Any AnyToken
  unfolding spec.decl
  decl_part c =
      restate limit (Decls c) Any AnyToken (seq limit (base_part limit) (λ b. seq limit (item_part limit c) (λ i. decl_rest_part c b i)))
      (decl_to c) (λ M ts d r e h. decl_back c M ts d r e) (λ d t h. h) (λ t h. h)
