-- The forms of statements, step by step.
use Rattle.std.proofs.Common.{◌≡◌, ℕ, suc, ◌⊎◌, inl, inr, Bool, true, false, Option, Some, None, List, [], ◌∷◌, refl, sym, ap, subst, ◌∙◌}
use Rattle.dfi_base.specs.declared.numbers.Line.{Line}
use Rattle.c_lex.specs.declared.token.Word.{Word}
use Rattle.c_lex.specs.declared.token.Mark.{Mark}
use Rattle.c_lex.specs.declared.token.Kind.{Kind}
use Rattle.c_ast.specs.declared.decl.Decl.{Decl}
use Rattle.c_ast.specs.declared.expr.Expr.{Expr}
use Rattle.c_ast.specs.declared.stmt.Block.{Block}
use Rattle.c_ast.specs.declared.stmt.BlockItem.{BlockItem}
use Rattle.c_ast.specs.declared.stmt.Stmt.{Stmt}
use Rattle.c_ast.specs.declared.stmt.Stmt.TheVariants as s
use Rattle.parse_law.specs.tools.Parsing.{unexpected}
use Rattle.parse_law.specs.Nesting.{May}
use Rattle.parse_law.proofs.Forms.{Form, Follow, Fits}
use Rattle.parse_law.proofs.Bind.{Seq, Leads}
use Rattle.parse_law.proofs.Steps.{Any, false_true}
use Rattle.parse_law.proofs.Repeat.{Takes}
use Rattle.c_parse.specs.declared.sorts.StmtStart.{StmtStart}
use Rattle.c_parse.specs.Symbol.{Symbol, Symbols, word, mark}
use Rattle.c_parse.specs.tools.Sorts.{base_word, is_base, is_stmt, is_stmt_by, stmt_start}
use Rattle.c_parse.specs.tools.Tokens.{next, kind_of, is_mark, is_word, word_at, goes}
use Rattle.c_parse.specs.Stmts.{StmtAt, stmt, StatementAt, braced, empty, simple, return, break, continue, if_alone, if_else, while, for, par, NoElse, IsNotElse, BlockAt, block, BlockItemsAt, no_item, declaration, statement, BranchesAt, no_branch, branch as one_branch}
use Rattle.c_parse.specs.tools.StmtParser as spec
use Rattle.c_parse.proofs.Parts.{Gives, gives, given, gives_part, seq, takes_seq, takes_want}
use Rattle.c_parse.proofs.TokenParts.{MarkAt, marked, WordAt, worded, ident_any, AnyToken}
use Rattle.c_parse.proofs.Begins.{Begins}
use Rattle.c_parse.proofs.DeclLaws.{Decls, decl_rest_part, item_part as item_part'}
use Rattle.c_parse.proofs.OperandForms.{takes_choose, takes_refuse}
use Rattle.c_parse.specs.tools.TypeParser.{base, base_by}
use Rattle.c_parse.specs.declared.sorts.BaseWord.{BaseWord}
use Rattle.c_ast.specs.declared.decl.Base.{Base}
use Rattle.c_parse.proofs.OpenIf.{ends_open, open_if, not_before_else}
use Rattle.c_parse.proofs.StmtParts.{is_simple_by, is_simple, simple_begins, decl_begins}

-- ---- what may follow a statement

abbrev pub is_else : Option Kind → Bool
is_else = is_word Word.Else

-- an `else` behind a statement that can take it would be its own
abbrev pub AfterStmt : Follow Symbol Stmt
AfterStmt a t = is_else (Some t.kind) ≡ true → ends_open a ≡ false

abbrev pub Stmts : ℕ → Form Symbol Stmt
Stmts c M ts a r = StmtAt M c ts a r

abbrev pub Statements : ℕ → Form Symbol Stmt
Statements c M ts a r = StatementAt M c ts a r

abbrev pub Blocks : ℕ → Form Symbol (Block Stmt)
Blocks c M ts a r = BlockAt M c ts a r

pub no_test : (b : Bool) → (b ≡ true → ⊥) → b ≡ false
no_test true h = absurd (h refl)
no_test false h = refl

-- ---- what a statement begins with

block_begins : {M : May Symbol} {c : ℕ} {ts : Symbols} {b : Block Stmt} {r : Symbols} → BlockAt M c ts b r → Begins (is_mark Mark.OpenBrace) ts
block_begins (block may d) = refl

pub simple_stmt : (k : Option Kind) → is_simple k ≡ true → stmt_start k ≡ StmtStart.Simple
simple_stmt k e = by_sort (stmt_start k) e
  where
    by_sort : (x : StmtStart) → is_simple_by x ≡ true → x ≡ StmtStart.Simple
    by_sort StmtStart.Simple e = refl
    by_sort StmtStart.Block e = false_true e
    by_sort StmtStart.Empty e = false_true e
    by_sort StmtStart.Return e = false_true e
    by_sort StmtStart.Break e = false_true e
    by_sort StmtStart.Continue e = false_true e
    by_sort StmtStart.If e = false_true e
    by_sort StmtStart.While e = false_true e
    by_sort StmtStart.For e = false_true e
    by_sort StmtStart.Par e = false_true e
    by_sort StmtStart.Other e = false_true e

pub statement_begins : {M : May Symbol} {c : ℕ} {ts : Symbols} {a : Stmt} {r : Symbols} → StatementAt M c ts a r → Begins is_stmt ts
statement_begins (braced (block may d)) = refl
statement_begins empty = refl
statement_begins {ts = ts} (simple d) = ap is_stmt_by (simple_stmt (kind_of (next ts)) (simple_begins d))
statement_begins (return d) = refl
statement_begins break = refl
statement_begins continue = refl
statement_begins (if_alone d e f) = refl
statement_begins (if_else d e f) = refl
statement_begins (while d e) = refl
statement_begins (for d e f g) = refl
statement_begins (par d) = refl

pub stmt_begins : {M : May Symbol} {c : ℕ} {ts : Symbols} {a : Stmt} {r : Symbols} → StmtAt M c ts a r → Begins is_stmt ts
stmt_begins (stmt may d) = statement_begins d

stmt_no_base : (k : Option Kind) → is_stmt k ≡ true → is_base k ≡ false
stmt_no_base None e = refl
stmt_no_base (Some (Kind.Mark m)) e = refl
stmt_no_base (Some (Kind.Id n)) e = refl
stmt_no_base (Some (Kind.Num n)) e = refl
stmt_no_base (Some (Kind.Word Word.Int)) e = false_true e
stmt_no_base (Some (Kind.Word Word.Struct)) e = false_true e
stmt_no_base (Some (Kind.Word _)) e = refl

-- what begins a declaration or a statement closes no block and is no `else`
abbrev pub starts_item : Option Kind → Bool
starts_item k = elim (is_base k) [ true ↦ true | false ↦ is_stmt k ]

item_open : (k : Kind) → starts_item (Some k) ≡ true → (spec.is_open (Some k) ≡ true) × (is_else (Some k) ≡ false)
item_open (Kind.Id n) e = (refl, refl)
item_open (Kind.Num n) e = (refl, refl)
item_open (Kind.Word Word.Else) e = false_true e
item_open (Kind.Word _) e = (refl, refl)
item_open (Kind.Mark Mark.CloseBrace) e = false_true e
item_open (Kind.Mark _) e = (refl, refl)

-- the first token, which passes the test
pub first_token : (test : Option Kind → Bool) → test None ≡ false → (ts : Symbols) → Begins test ts
    → (t : Symbol) × (us : Symbols) × (ts ≡ t ∷ us) × (test (Some t.kind) ≡ true)
first_token test none [] e = false_true (sym none ∙ e)
first_token test none (t ∷ us) e = (t, us, refl, e)

-- ---- that a form takes a token

pub takes_decl : (limit c : ℕ) → Takes (spec.decl limit c)
unfolding spec.decl base
takes_decl limit c = takes_seq limit {G = Any} (takes_choose base_word base_by by) (λ b. seq limit (item_part' limit c) (λ i. decl_rest_part limit c b i))
  where
    by : (k : BaseWord) → Takes (base_by k)
    by BaseWord.Int = takes_seq limit {G = Any} (takes_want (word_at Word.Int)) (λ l. gives_part limit {F = Any} (Base.Int l))
    by BaseWord.Struct = takes_seq limit {G = Any} (takes_want (word_at Word.Struct)) (λ l. seq limit (ident_any limit) (λ i. gives_part limit {F = Any} (Base.Struct l i)))
    by BaseWord.Other = takes_refuse unexpected

-- ---- an item of a block

pub data ItemAt (M : May Symbol) (c : ℕ) : Symbols → BlockItem Stmt → Symbols → Type 0 where
  of_decl : {d : Decl} {ts r : Symbols} → Decls c M ts d r → ItemAt M c ts (BlockItem.Decl d) r
  of_stmt : {a : Stmt} {ts r : Symbols} → StmtAt M c ts a r → ItemAt M c ts (BlockItem.Stmt a) r

abbrev pub Items : ℕ → Form Symbol (BlockItem Stmt)
Items c M ts i r = ItemAt M c ts i r

abbrev pub AfterItem : Follow Symbol (BlockItem Stmt)
AfterItem (BlockItem.Decl d) t = Unit {0}
AfterItem (BlockItem.Stmt a) t = AfterStmt a t

abbrev pub ItemBy : ℕ → Bool → Form Symbol (BlockItem Stmt)
ItemBy c true = Seq (Decls c) (λ d. Gives (BlockItem.Decl d))
ItemBy c false = Seq (Stmts c) (λ a. Gives (BlockItem.Stmt a))

pub item_to : (c : ℕ) (b : Bool) (M : May Symbol) (ts : Symbols) (i : BlockItem Stmt) (r : Symbols) → ItemBy c b M ts i r → ItemAt M c ts i r
item_to c true M ts i r (d, m, e, g) = given g (ItemAt M c ts) (of_decl e)
item_to c false M ts i r (a, m, e, g) = given g (ItemAt M c ts) (of_stmt e)

pub item_back : (c : ℕ) (M : May Symbol) (ts : Symbols) (i : BlockItem Stmt) (r : Symbols) → ItemAt M c ts i r → ItemBy c (is_base (kind_of (next ts))) M ts i r
item_back c M ts i r (of_decl {d = d} e) = subst (λ z. ItemBy c z M ts (BlockItem.Decl d) r) (sym (decl_begins e)) (d, r, e, gives)
item_back c M ts i r (of_stmt {a = a} e) = subst (λ z. ItemBy c z M ts (BlockItem.Stmt a) r) (sym (stmt_no_base (kind_of (next ts)) (stmt_begins e))) (a, r, e, gives)

base_item : (k : Option Kind) → is_base k ≡ true → starts_item k ≡ true
base_item k e = ap (λ b. elim b [ true ↦ true | false ↦ is_stmt k ]) e

stmt_item : (k : Option Kind) → is_stmt k ≡ true → starts_item k ≡ true
stmt_item k e = ap (λ b. elim b [ true ↦ true | false ↦ is_stmt k ]) (stmt_no_base k e) ∙ e

pub item_begins : {M : May Symbol} {c : ℕ} {ts : Symbols} {i : BlockItem Stmt} {r : Symbols} → ItemAt M c ts i r → Begins starts_item ts
item_begins {ts = ts} (of_decl e) = base_item (kind_of (next ts)) (decl_begins e)
item_begins {ts = ts} (of_stmt e) = stmt_item (kind_of (next ts)) (stmt_begins e)

pub after_any : (i : BlockItem Stmt) (t : Symbol) → is_else (Some t.kind) ≡ false → AfterItem i t
after_any (BlockItem.Decl d) t e = tt
after_any (BlockItem.Stmt a) t e = λ f. false_true (sym e ∙ f)

pub items_start : (c : ℕ) (M : May Symbol) (ts m : Symbols) (i : BlockItem Stmt) → ItemAt M c ts i m
    → (t : Symbol) × (us : Symbols) × (ts ≡ t ∷ us) × (goes spec.is_open t ≡ true) × ((b : BlockItem Stmt) → AfterItem b t)
items_start c M ts m i d =
    let (t, us, e, f) = first_token starts_item refl ts (item_begins d) in
    let (opens, other) = item_open t.kind f in
    (t, us, e, opens, λ b. after_any b t other)

pub items_more : (c : ℕ) (M : May Symbol) (ts m r : Symbols) (i : BlockItem Stmt) (others : List (BlockItem Stmt)) → ItemAt M c ts i m
    → BlockItemsAt M c m others r → BlockItemsAt M c ts (i ∷ others) r
items_more c M ts m r i others (of_decl e) ds = declaration e ds
items_more c M ts m r i others (of_stmt e) ds = statement e ds

pub items_split : (c : ℕ) (M : May Symbol) (ts r : Symbols) (all : List (BlockItem Stmt)) → BlockItemsAt M c ts all r
    → ((all ≡ []) × (ts ≡ r)) ⊎ ((i : BlockItem Stmt) × (others : List (BlockItem Stmt)) × (m : Symbols) × (all ≡ i ∷ others) × ItemAt M c ts i m × BlockItemsAt M c m others r)
items_split c M ts r all no_item = inl (refl, refl)
items_split c M ts r all (declaration e ds) = inr (_, _, _, refl, of_decl e, ds)
items_split c M ts r all (statement e ds) = inr (_, _, _, refl, of_stmt e, ds)

abbrev pub ItemLists : ℕ → Form Symbol (List (BlockItem Stmt))
ItemLists c M ts all r = BlockItemsAt M c ts all r

pub branches_start : (c : ℕ) (M : May Symbol) (ts m : Symbols) (b : Block Stmt) → BlockAt M c ts b m
    → (t : Symbol) × (us : Symbols) × (ts ≡ t ∷ us) × (goes spec.is_open t ≡ true) × ((x : Block Stmt) → AnyToken t)
branches_start c M ts m b (block may d) = (_, _, refl, refl, λ x. tt)

pub branches_split : (c : ℕ) (M : May Symbol) (ts r : Symbols) (all : List (Block Stmt)) → BranchesAt M c ts all r
    → ((all ≡ []) × (ts ≡ r)) ⊎ ((b : Block Stmt) × (others : List (Block Stmt)) × (m : Symbols) × (all ≡ b ∷ others) × BlockAt M c ts b m × BranchesAt M c m others r)
branches_split c M ts r all no_branch = inl (refl, refl)
branches_split c M ts r all (one_branch d ds) = inr (_, _, _, refl, d, ds)

abbrev pub BranchLists : ℕ → Form Symbol (List (Block Stmt))
BranchLists c M ts all r = BranchesAt M c ts all r

-- ---- a block

-- with the counter risen
pub data BodyAt (M : May Symbol) (c : ℕ) : Symbols → Block Stmt → Symbols → Type 0 where
  body : {l p : Line} {items : List (BlockItem Stmt)} {ts r : Symbols} → BlockItemsAt M c ts items (mark Mark.CloseBrace p ∷ r)
      → BodyAt M c (mark Mark.OpenBrace l ∷ ts) (record { line = l; items = items; close = p }) r

abbrev pub Bodies : ℕ → Form Symbol (Block Stmt)
Bodies c M ts b r = BodyAt M c ts b r

abbrev pub BodySeq : ℕ → Form Symbol (Block Stmt)
BodySeq c = Seq (MarkAt Mark.OpenBrace) (λ l. Seq (ItemLists c) (λ items. Seq (MarkAt Mark.CloseBrace) (λ p. Gives (record { line = l; items = items; close = p }))))

pub body_to : (c : ℕ) (M : May Symbol) (ts : Symbols) (b : Block Stmt) (r : Symbols) → BodySeq c M ts b r → BodyAt M c ts b r
body_to c M ts b r (l, m, marked, (items, n, d, (p, o, marked, gives))) = body d

pub body_back : (c : ℕ) (M : May Symbol) (ts : Symbols) (b : Block Stmt) (r : Symbols) → BodyAt M c ts b r → BodySeq c M ts b r
body_back c M ts b r (body d) = (_, _, marked, (_, _, d, (_, _, marked, gives)))

pub block_to : (c : ℕ) (M : May Symbol) (ts : Symbols) (b : Block Stmt) (r : Symbols) → M c ts → BodyAt M (suc c) ts b r → BlockAt M c ts b r
block_to c M ts b r may (body d) = block may d

pub block_back : (c : ℕ) (M : May Symbol) (ts : Symbols) (b : Block Stmt) (r : Symbols) → BlockAt M c ts b r → M c ts × BodyAt M (suc c) ts b r
block_back c M ts b r (block may d) = (may, body d)

pub body_starts : (c : ℕ) (M : May Symbol) (ts : Symbols) (b : Block Stmt) (r : Symbols) → BodyAt M c ts b r
    → (t : Symbol) × (us : Symbols) × (ts ≡ t ∷ us) × (goes (is_mark Mark.OpenBrace) t ≡ true)
body_starts c M ts b r (body d) = (_, _, refl, refl)

-- ---- behind the first part of an `if`

pub data OtherwiseAt (M : May Symbol) (l : Line) (c : ℕ) (a : Expr) (x : Stmt) : Symbols → Stmt → Symbols → Type 0 where
  alone : {ts : Symbols} → NoElse ts → OtherwiseAt M l c a x ts (s.If l a x None) ts
  other : {q : Line} {y : Stmt} {ts r : Symbols} → ends_open x ≡ false → StmtAt M c ts y r
      → OtherwiseAt M l c a x (word Word.Else q ∷ ts) (s.If l a x (Some y)) r

abbrev pub Otherwise : Line → ℕ → Expr → Stmt → Form Symbol Stmt
Otherwise l c a x M ts y r = OtherwiseAt M l c a x ts y r

abbrev pub OtherwiseBy : Line → ℕ → Expr → Stmt → Bool → Form Symbol Stmt
OtherwiseBy l c a x true = Seq (WordAt Word.Else) (λ q. Seq (Stmts c) (λ y. Gives (s.If l a x (Some y))))
OtherwiseBy l c a x false = Gives (s.If l a x None)

-- no `else` may follow an open `if`
pub after_alone : (l : Line) (a : Expr) (x : Stmt) (ts : Symbols) → Fits (AfterStmt (s.If l a x None)) ts → is_else (kind_of (next ts)) ≡ false
after_alone l a x [] h = refl
after_alone l a x (t ∷ ts) h = by_test (is_else (Some t.kind)) refl
  where
    by_test : (b : Bool) → is_else (Some t.kind) ≡ b → is_else (Some t.kind) ≡ false
    by_test false e = e
    by_test true e = false_true (sym (h e) ∙ open_if l a x)

no_else_kind : (k : Kind) → is_else (Some k) ≡ false → IsNotElse k
no_else_kind (Kind.Word Word.Else) e = false_true (sym e)
no_else_kind (Kind.Word _) e = tt
no_else_kind (Kind.Mark m) e = tt
no_else_kind (Kind.Id n) e = tt
no_else_kind (Kind.Num n) e = tt

pub no_else_there : (ts : Symbols) → is_else (kind_of (next ts)) ≡ false → NoElse ts
no_else_there [] e = tt
no_else_there (t ∷ ts) e = no_else_kind t.kind e

pub otherwise_leads : (l : Line) (c : ℕ) (a : Expr) (x : Stmt) → Leads (Otherwise l c a x) AfterStmt (AfterStmt x)
otherwise_leads l c a x M ts y r (alone h) f = behind ts h
  where
    behind : (us : Symbols) → NoElse us → Fits (AfterStmt x) us
    behind [] h = tt
    behind (t ∷ us) h = λ e. absurd (not_before_else (t ∷ us) h e)
otherwise_leads l c a x M ts y r (other e d) f = λ g. e

pub otherwise_back : (l : Line) (c : ℕ) (a : Expr) (x : Stmt) (M : May Symbol) (ts : Symbols) (y : Stmt) (r : Symbols) → OtherwiseAt M l c a x ts y r
    → Fits (AfterStmt y) r
    → OtherwiseBy l c a x (is_else (kind_of (next ts))) M ts y r
otherwise_back l c a x M ts y r (alone h) f = subst (λ z. OtherwiseBy l c a x z M ts (s.If l a x None) ts) (sym (after_alone l a x ts f)) gives
otherwise_back l c a x M ts y r (other {y = z} e d) f = (_, _, worded, (z, r, d, gives))

pub otherwise_to : (l : Line) (c : ℕ) (a : Expr) (x : Stmt) → ends_open x ≡ false
    → (b : Bool) (M : May Symbol) (t : Symbol) (us : Symbols) (y : Stmt) (r : Symbols) → is_else (Some t.kind) ≡ b
    → OtherwiseBy l c a x b M (t ∷ us) y r → OtherwiseAt M l c a x (t ∷ us) y r
otherwise_to l c a x closed true M t us y r e (q, m, worded, (z, n, d, g)) = given g (OtherwiseAt M l c a x _) (other closed d)
otherwise_to l c a x closed false M t us y r e g = given g (OtherwiseAt M l c a x (t ∷ us)) (alone (no_else_there (t ∷ us) e))

pub otherwise_only : (l : Line) (c : ℕ) (a : Expr) (x : Stmt) (M : May Symbol) (y : Stmt) (r : Symbols) → OtherwiseAt M l c a x [] y r
    → (s.If l a x None ≡ y) × ([] ≡ r)
otherwise_only l c a x M y r (alone h) = (refl, refl)

-- behind an open statement nothing else comes
pub otherwise_alone : {M : May Symbol} {l : Line} {c : ℕ} {a : Expr} {x : Stmt} {ts : Symbols} {y : Stmt} {r : Symbols} → ends_open x ≡ true
    → OtherwiseAt M l c a x ts y r → (s.If l a x None ≡ y) × (ts ≡ r)
otherwise_alone e (alone h) = (refl, refl)
otherwise_alone e (other f d) = false_true (sym f ∙ e)
