-- Types and declarators are read by their grammar.
use Rattle.std.proofs.Common.{◌≡◌, ℕ, suc, ℤ, ◌+◌, ◌⊎◌, inl, inr, Bool, true, false, Option, Some, None, List, [], ◌∷◌, refl, sym, ap, subst, arith}
use Rattle.dfi_base.specs.declared.numbers.Line.{Line}
use Rattle.c_lex.specs.declared.token.Word.{Word}
use Rattle.c_lex.specs.declared.token.Mark.{Mark}
use Rattle.c_lex.specs.declared.token.Kind.{Kind}
use Rattle.c_ast.specs.declared.decl.Base.{Base}
use Rattle.c_ast.specs.declared.decl.TypeName.{TypeName}
use Rattle.c_ast.specs.declared.decl.Declarator.{Declarator}
use Rattle.c_ast.specs.declared.decl.Brackets.{Brackets}
use Rattle.c_ast.specs.declared.decl.ProtoParam.{ProtoParam}
use Rattle.c_ast.specs.declared.decl.ProtoParams.{ProtoParams}
use Rattle.c_ast.specs.declared.ident.Ident.{Ident}
use Rattle.parse_law.specs.tools.Parsing.{◌>>=◌, ◌>>◌, pure, repeat}
use Rattle.parse_law.specs.Nesting.{May}
use Rattle.parse_law.proofs.Forms.{Form, Fits, Law}
use Rattle.parse_law.proofs.Bind.{Seq, Leads}
use Rattle.parse_law.proofs.Carry.{fits_fewer}
use Rattle.parse_law.proofs.Steps.{Any, fits_any}
use Rattle.parse_law.proofs.Repeat.{repeat_law, Takes}
use Rattle.c_parse.specs.Symbol.{Symbol, Symbols, word, mark, name, number}
use Rattle.c_parse.specs.tools.Tokens.{next, want, kind_of, choose, is_mark, is_ident, mark_at, number_at}
use Rattle.c_parse.specs.tools.Sorts.{base_word, list_start}
use Rattle.c_parse.specs.declared.sorts.BaseWord.{BaseWord}
use Rattle.c_parse.specs.declared.sorts.ListStart.{ListStart}
use Rattle.c_parse.specs.Types.{BaseAt, int, struct, StarsAt, no_star, star, LengthsAt, no_length, length as one_length, TypeNameAt, type_name, DeclaratorAt, declarator, BracketsAt, NameAt, ProtoParamAt, ProtoParamsAt, ProtoListAt}
use Rattle.c_parse.specs.tools.TypeParser as p
use Rattle.c_parse.proofs.Parts.{Part, takes_want, Gives, gives, gives_part, seq, takes_seq, narrow, widen, relead, restate, Branch, branch, refuses, Void, dispatch, dispatch_empty}
use Rattle.c_parse.proofs.TokenParts.{MarkAt, marked, WordAt, worded, IdentAt, named, NumberAt, numbered, mark_any, ident_part, word_any, ident_any, number_any, AnyToken, line_one, located_part, Only, only_mark}
use Rattle.c_parse.proofs.Lists.{many_part, list_part, Others, Tail, no_tail, tail}

abbrev pub Not : (Option Kind → Bool) → Symbol → Type 0
Not test t = test (Some t.kind) ≡ false

-- ---- a base

abbrev Bases : Form Symbol Base
Bases M ts a r = BaseAt ts a r

abbrev BaseBy : BaseWord → Form Symbol Base
BaseBy BaseWord.Int = Seq (WordAt Word.Int) (λ l. Gives (Base.Int l))
BaseBy BaseWord.Struct = Seq (WordAt Word.Struct) (λ l. Seq IdentAt (λ i. Gives (Base.Struct l i)))
BaseBy BaseWord.Other = Void

base_to : (k : BaseWord) (M : May Symbol) (ts : Symbols) (a : Base) (r : Symbols) → BaseBy k M ts a r → BaseAt ts a r
base_to BaseWord.Int M ts a r (l, m, worded, gives) = int
base_to BaseWord.Struct M ts a r (l, m, worded, (i, n, named, gives)) = struct
base_to BaseWord.Other M ts a r d = absurd d

base_back : (M : May Symbol) (ts : Symbols) (a : Base) (r : Symbols) → BaseAt ts a r → BaseBy (base_word (kind_of (next ts))) M ts a r
base_back M ts a r int = (_, _, worded, gives)
base_back M ts a r struct = (_, _, worded, (_, _, named, gives))

module _ (limit : ℕ) where
  base_branches : (k : BaseWord) → Branch limit (p.base_by k) (BaseBy k) Any AnyToken
  base_branches BaseWord.Int = branch limit (seq limit (word_any limit Word.Int) (λ l. gives_part limit (Base.Int l)))
  base_branches BaseWord.Struct =
      branch limit (seq limit (word_any limit Word.Struct) (λ l. seq limit (ident_any limit) (λ i. gives_part limit (Base.Struct l i))))
  base_branches BaseWord.Other = refuses limit

  pub base_part : Part limit p.base Bases Any AnyToken
  unfolding p.base
  base_part =
      dispatch limit (λ t. base_word (kind_of t)) p.base_by BaseBy Bases Any AnyToken (λ M t us. base_to (base_word (Some t.kind)) M (t ∷ us)) (λ M ts a r d h. base_back M ts a r d) base_branches
      (record { tokens = word Word.Int (record { 0 = 1 }) ∷ []; value = Base.Int (record { 0 = 1 }); holds = λ M l r free h. int })
      refl (λ M a r d h. elim d [ ])

-- ---- stars

abbrev Stars : Form Symbol ℕ
Stars M ts n r = StarsAt ts n r

-- behind so many
abbrev MoreStars : ℕ → Form Symbol ℕ
MoreStars n M ts k r = (more : ℕ) × StarsAt ts more r × (k ≡ n + more)

abbrev OneStar : ℕ → Form Symbol ℕ
OneStar n = Seq (MarkAt Mark.Star) (λ l. Gives (suc n))

star_go : (M : May Symbol) (x y z : ℕ) (ts m r : Symbols) → OneStar x M ts y m → MoreStars y M m z r → MoreStars x M ts z r
star_go M x y z ts m r (l, n, marked, gives) (more, d, e) = (suc more, star d, omega arith)

star_split : (M : May Symbol) (x z : ℕ) (ts r : Symbols) → MoreStars x M ts z r → ((x ≡ z) × (ts ≡ r)) ⊎ Seq (OneStar x) MoreStars M ts z r
star_split M x z ts r (more, no_star, e) = inl (omega arith, refl)
star_split M x z ts r (more, star {n = n} d, e) = inr (suc x, _, (_, _, marked, gives), (n, d, omega arith))

star_starts : (M : May Symbol) (x y : ℕ) (ts m : Symbols) → OneStar x M ts y m → (t : Symbol) × (us : Symbols) × (ts ≡ t ∷ us) × (p.has Mark.Star t ≡ true)
star_starts M x y ts m (l, n, marked, gives) = (_, _, refl, refl)

abbrev pub NoStar : Symbol → Type 0
NoStar = Not (is_mark Mark.Star)

module _ (limit : ℕ) where
  star_part : (n : ℕ) → Part limit (p.star n) (OneStar n) Any AnyToken
  star_part n = seq limit (mark_any limit Mark.Star) (λ l. gives_part limit (suc n))

  more_stars_leads : (x : ℕ) → Leads (MoreStars x) (λ k. NoStar) AnyToken
  more_stars_leads x M ts k r d h = fits_any k ts

  more_stars_law : (n : ℕ) → Law limit (repeat (p.has Mark.Star) p.star n) (MoreStars n) (λ k. NoStar)
  more_stars_law n =
      repeat_law limit (p.has Mark.Star) p.star OneStar MoreStars Any (λ k. NoStar) (λ M x ts. (0, no_star, omega arith)) star_go star_split star_starts (λ x t h. h) more_stars_leads
      (λ x. Unit {0}) (λ M x y ts m g d. tt) (λ x g t us e. (star_part x).law.at (t ∷ us))
      (λ x g. takes_seq limit {G = Any} (takes_want (mark_at Mark.Star)) (λ l. gives_part limit {F = Any} (suc x))) n tt

  pub stars_part : Part limit p.stars Stars (λ k. NoStar) AnyToken
  unfolding p.stars
  stars_part =
      restate limit Stars (λ k. NoStar) AnyToken
      (record { law = more_stars_law 0; leads = more_stars_leads 0; whole = record { tokens = []; value = 0; holds = λ M l r free h. (0, no_star, omega arith) } })
      (λ M ts k r (more, d, e). subst (λ z. StarsAt ts z r) (sym (let f : k ≡ more = omega arith in f)) d)
      (λ M ts k r d h. (k, d, omega arith)) (λ k t h. h) (λ t h. h)

-- ---- lengths

abbrev Lengths : Form Symbol (List ℤ)
Lengths M ts ks r = LengthsAt ts ks r

abbrev Bracketed : Form Symbol ℤ
Bracketed = Seq (MarkAt Mark.OpenBracket) (λ l. Seq NumberAt (λ k. Seq (MarkAt Mark.CloseBracket) (λ q. Gives k)))

length_more : (M : May Symbol) (ts m r : Symbols) (a : ℤ) (others : List ℤ) → Bracketed M ts a m → LengthsAt m others r → LengthsAt ts (a ∷ others) r
length_more M ts m r a others (l, n, marked, (k, o, numbered, (q, u, marked, gives))) ds = one_length ds

length_split : (M : May Symbol) (ts r : Symbols) (all : List ℤ) → LengthsAt ts all r
    → ((all ≡ []) × (ts ≡ r)) ⊎ ((a : ℤ) × (others : List ℤ) × (m : Symbols) × (all ≡ a ∷ others) × Bracketed M ts a m × LengthsAt m others r)
length_split M ts r all no_length = inl (refl, refl)
length_split M ts r all (one_length ds) = inr (_, _, _, refl, (_, _, marked, (_, _, numbered, (_, _, marked, gives))), ds)

length_starts : (M : May Symbol) (ts m : Symbols) (a : ℤ) → Bracketed M ts a m
    → (t : Symbol) × (us : Symbols) × (ts ≡ t ∷ us) × (p.has Mark.OpenBracket t ≡ true) × ((b : ℤ) → AnyToken t)
length_starts M ts m a (l, n, marked, d) = (_, _, refl, refl, λ b. tt)

abbrev pub NoBracket : Symbol → Type 0
NoBracket = Not (is_mark Mark.OpenBracket)

module _ (limit : ℕ) where
  behind_bracket : (l : Line)
      → Part limit (want number_at >>= (λ k. want (mark_at Mark.CloseBracket) >> pure k)) (Seq NumberAt (λ k. Seq (MarkAt Mark.CloseBracket) (λ q. Gives k))) Any AnyToken
  behind_bracket l = seq limit (number_any limit) (λ k. seq limit (mark_any limit Mark.CloseBracket) (λ q. gives_part limit k))

  bracketed_part : Part limit p.bracketed Bracketed Any AnyToken
  unfolding p.bracketed
  bracketed_part =
      seq limit (mark_any limit Mark.OpenBracket) behind_bracket

  bracketed_takes : Takes p.bracketed
  unfolding p.bracketed
  bracketed_takes = takes_seq limit (takes_want (mark_at Mark.OpenBracket)) behind_bracket

  pub lengths_part : Part limit (p.more_lengths []) Lengths (λ ks. NoBracket) AnyToken
  lengths_part =
      restate limit Lengths (λ ks. NoBracket) AnyToken
      (many_part limit (p.has Mark.OpenBracket) p.bracketed Bracketed Lengths Any NoBracket (λ M ts. no_length) length_more length_split length_starts
      (λ t h. h) (λ t h b. tt) bracketed_part.law bracketed_takes)
      (λ M ts ks r d. d) (λ M ts ks r d h. d) (λ ks t h. h) (λ t h. tt)

-- ---- a type's name

abbrev TypeNames : Form Symbol TypeName
TypeNames M ts a r = TypeNameAt ts a r

type_name_to : (M : May Symbol) (ts : Symbols) (a : TypeName) (r : Symbols)
    → Seq Bases (λ b. Seq Stars (λ n. Gives (record { base = b; stars = n }))) M ts a r → TypeNameAt ts a r
type_name_to M ts a r (b, m, d, (n, o, e, gives)) = type_name d e

type_name_back : (M : May Symbol) (ts : Symbols) (a : TypeName) (r : Symbols) → TypeNameAt ts a r
    → Seq Bases (λ b. Seq Stars (λ n. Gives (record { base = b; stars = n }))) M ts a r
type_name_back M ts a r (type_name d e) = (_, _, d, (_, _, e, gives))

module _ (limit : ℕ) where
  pub type_name_part : Part limit p.type_name TypeNames (λ a. NoStar) AnyToken
  unfolding p.type_name
  type_name_part =
      restate limit TypeNames (λ a. NoStar) AnyToken (seq limit (base_part limit) (λ b. seq limit (stars_part limit) (λ n. gives_part limit (record { base = b; stars = n }))))
      type_name_to (λ M ts a r d h. type_name_back M ts a r d) (λ a t h. h) (λ t h. h)

-- ---- a declarator

abbrev Declarators : Form Symbol Declarator
Declarators M ts a r = DeclaratorAt ts a r

-- behind the name
abbrev pub Declared : Line → ℕ → Ident → Form Symbol Declarator
Declared l n i = Seq Lengths (λ ks. Gives (record { line = l; stars = n; name = i; lengths = ks }))

-- at a line
abbrev pub DeclaredFrom : Line → Form Symbol Declarator
DeclaredFrom l = Seq Stars (λ n. Seq IdentAt (λ i. Declared l n i))

declared_to : (M : May Symbol) (t : Symbol) (us : Symbols) (a : Declarator) (r : Symbols) → DeclaredFrom t.line M (t ∷ us) a r → DeclaratorAt (t ∷ us) a r
declared_to M t us a r (n, m, d, (i, o, named, (ks, u, e, gives))) = declarator d e

declared_back : (M : May Symbol) (ts : Symbols) (a : Declarator) (r : Symbols) → DeclaratorAt ts a r
    → (t : Symbol) × (us : Symbols) × (ts ≡ t ∷ us) × DeclaredFrom t.line M ts a r
declared_back M ts a r (declarator {s = s} {ts = us} d e) = (s, us, refl, (_, _, d, (_, _, named, (_, _, e, gives))))

module _ (limit : ℕ) where
  pub declared_part : (l : Line) (n : ℕ) (i : Ident) → Part limit (p.declared l n i) (Declared l n i) (λ a. NoBracket) AnyToken
  unfolding p.declared
  declared_part l n i = seq limit (lengths_part limit) (λ ks. gives_part limit (record { line = l; stars = n; name = i; lengths = ks }))

  pub declarator_from_part : (l : Line) → Part limit (p.declarator_from l) (DeclaredFrom l) (λ a. NoBracket) AnyToken
  unfolding p.declarator_from
  declarator_from_part l = seq limit (stars_part limit) (λ n. seq limit (ident_part limit (λ n l. refl)) (λ i. declared_part l n i))

  pub declarator_part : Part limit p.declarator Declarators (λ a. NoBracket) AnyToken
  unfolding p.declarator
  declarator_part =
      located_part limit p.declarator_from DeclaredFrom Declarators (λ a. NoBracket) AnyToken declared_to declared_back declarator_from_part
      (record {
        tokens = name 0 line_one ∷ [];
        value = record { line = line_one; stars = 0; name = record { line = line_one; name = 0 }; lengths = [] };
        holds = λ M l r free h. declarator no_star no_length;
      })

-- ---- brackets

abbrev AllBrackets : Form Symbol Brackets
AllBrackets M ts a r = BracketsAt ts a r

abbrev BracketBy : Bool → Form Symbol Brackets
BracketBy true = Seq (MarkAt Mark.CloseBracket) (λ q. Gives Brackets.Empty)
BracketBy false = Seq NumberAt (λ k. Seq (MarkAt Mark.CloseBracket) (λ q. Gives (Brackets.Length k)))

-- behind `[`
pub data BracketAt (M : May Symbol) : Symbols → Brackets → Symbols → Type 0 where
  empty : {q : Line} {rest : Symbols} → BracketAt M (mark Mark.CloseBracket q ∷ rest) Brackets.Empty rest
  sized : {l q : Line} {k : ℤ} {rest : Symbols} → BracketAt M (number k l ∷ mark Mark.CloseBracket q ∷ rest) (Brackets.Length k) rest

bracket_to : (b : Bool) (M : May Symbol) (ts : Symbols) (a : Brackets) (r : Symbols) → BracketBy b M ts a r → BracketAt M ts a r
bracket_to true M ts a r (q, m, marked, gives) = empty
bracket_to false M ts a r (k, m, numbered, (q, n, marked, gives)) = sized

bracket_back : (M : May Symbol) (ts : Symbols) (a : Brackets) (r : Symbols) → BracketAt M ts a r
    → BracketBy (is_mark Mark.CloseBracket (kind_of (next ts))) M ts a r
bracket_back M ts a r empty = (_, _, marked, gives)
bracket_back M ts a r sized = (_, _, numbered, (_, _, marked, gives))

abbrev BracketsBy : Bool → Form Symbol Brackets
BracketsBy true = Seq (MarkAt Mark.OpenBracket) (λ l. BracketAt)
BracketsBy false = Gives Brackets.Absent

brackets_to : (b : Bool) (M : May Symbol) (ts : Symbols) (a : Brackets) (r : Symbols) → BracketsBy b M ts a r → BracketsAt ts a r
brackets_to true M ts a r (l, m, marked, empty) = BracketsAt.empty
brackets_to true M ts a r (l, m, marked, sized) = BracketsAt.length
brackets_to false M ts a r gives = BracketsAt.absent

absent_before : (M : May Symbol) (ts : Symbols) → Fits NoBracket ts → BracketsBy (is_mark Mark.OpenBracket (kind_of (next ts))) M ts Brackets.Absent ts
absent_before M [] h = gives
absent_before M (t ∷ ts) h = subst (λ z. BracketsBy z M (t ∷ ts) Brackets.Absent (t ∷ ts)) (sym h) gives

brackets_back : (M : May Symbol) (ts : Symbols) (a : Brackets) (r : Symbols) → BracketsAt ts a r → Fits NoBracket r
    → BracketsBy (is_mark Mark.OpenBracket (kind_of (next ts))) M ts a r
brackets_back M ts a r BracketsAt.absent h = absent_before M ts h
brackets_back M ts a r BracketsAt.empty h = (_, _, marked, empty)
brackets_back M ts a r BracketsAt.length h = (_, _, marked, sized)

brackets_end : (a : Brackets) (r : Symbols) → BracketsAt [] a r → (Brackets.Absent ≡ a) × ([] ≡ r)
brackets_end a r BracketsAt.absent = (refl, refl)

module _ (limit : ℕ) where
  bracket_branches : (b : Bool) → Branch limit (p.bracket_by b) (BracketBy b) Any AnyToken
  bracket_branches true = branch limit (seq limit (mark_any limit Mark.CloseBracket) (λ q. gives_part limit Brackets.Empty))
  bracket_branches false = branch limit (seq limit (number_any limit) (λ k. seq limit (mark_any limit Mark.CloseBracket) (λ q. gives_part limit (Brackets.Length k))))

  bracket_part : Part limit (choose (is_mark Mark.CloseBracket) p.bracket_by) BracketAt Any AnyToken
  unfolding want
  bracket_part =
      dispatch limit (λ t. is_mark Mark.CloseBracket (kind_of t)) p.bracket_by BracketBy BracketAt Any AnyToken
      (λ M t us. bracket_to (is_mark Mark.CloseBracket (Some t.kind)) M (t ∷ us)) (λ M ts a r d h. bracket_back M ts a r d) bracket_branches
      (record { tokens = mark Mark.CloseBracket line_one ∷ []; value = Brackets.Empty; holds = λ M l r free h. empty }) refl (λ M a r d h. elim d [ ])

  brackets_branches : (b : Bool) → Branch limit (p.brackets_by b) (BracketsBy b) (λ a. NoBracket) AnyToken
  brackets_branches true = branch limit (narrow limit (seq limit (mark_any limit Mark.OpenBracket) (λ l. bracket_part)) (λ a t h. tt))
  brackets_branches false = branch limit (widen limit (gives_part limit Brackets.Absent) (λ t h. tt))

  pub brackets_part : Part limit p.brackets AllBrackets (λ a. NoBracket) AnyToken
  unfolding p.brackets
  brackets_part =
      dispatch_empty limit (λ t. is_mark Mark.OpenBracket (kind_of t)) p.brackets_by BracketsBy AllBrackets (λ a. NoBracket) AnyToken
      (λ M t us. brackets_to (is_mark Mark.OpenBracket (Some t.kind)) M (t ∷ us)) brackets_back brackets_branches
      Brackets.Absent refl (λ M ts h. BracketsAt.absent) (λ M b m d h. brackets_end b m d)

-- ---- a name that may be left out

abbrev Names : Form Symbol (Option Ident)
Names M ts a r = NameAt ts a r

abbrev NameBy : Bool → Form Symbol (Option Ident)
NameBy true = Seq IdentAt (λ i. Gives (Some i))
NameBy false = Gives None

name_to : (b : Bool) (M : May Symbol) (ts : Symbols) (a : Option Ident) (r : Symbols) → NameBy b M ts a r → NameAt ts a r
name_to true M ts a r (i, m, named, gives) = NameAt.named
name_to false M ts a r gives = NameAt.unnamed

abbrev pub NoIdent : Symbol → Type 0
NoIdent = Not is_ident

unnamed_before : (M : May Symbol) (ts : Symbols) → Fits NoIdent ts → NameBy (is_ident (kind_of (next ts))) M ts None ts
unnamed_before M [] h = gives
unnamed_before M (t ∷ ts) h = subst (λ z. NameBy z M (t ∷ ts) None (t ∷ ts)) (sym h) gives

name_back : (M : May Symbol) (ts : Symbols) (a : Option Ident) (r : Symbols) → NameAt ts a r → Fits NoIdent r → NameBy (is_ident (kind_of (next ts))) M ts a r
name_back M ts a r NameAt.unnamed h = unnamed_before M ts h
name_back M ts a r NameAt.named h = (_, _, named, gives)

name_end : (a : Option Ident) (r : Symbols) → NameAt [] a r → (◌≡◌ {A = Option Ident} None a) × ([] ≡ r)
name_end a r NameAt.unnamed = (refl, refl)

module _ (limit : ℕ) where
  name_branches : (b : Bool) → Branch limit (p.name_by b) (NameBy b) (λ a. NoIdent) AnyToken
  name_branches true = branch limit (narrow limit (seq limit (ident_any limit) (λ i. gives_part limit (Some i))) (λ a t h. tt))
  name_branches false = branch limit (widen limit (gives_part limit None) (λ t h. tt))

  pub name_part : Part limit p.name Names (λ a. NoIdent) AnyToken
  unfolding p.name
  name_part =
      dispatch_empty limit (λ t. is_ident (kind_of t)) p.name_by NameBy Names (λ a. NoIdent) AnyToken
      (λ M t us. name_to (is_ident (Some t.kind)) M (t ∷ us)) name_back name_branches
      None refl (λ M ts h. NameAt.unnamed) (λ M b m d h. name_end b m d)

-- ---- parameters of a prototype

abbrev ProtoParams' : Form Symbol ProtoParam
ProtoParams' M ts a r = ProtoParamAt ts a r

abbrev pub AfterParam : Symbol → Type 0
AfterParam t = NoStar t × NoIdent t × NoBracket t

abbrev NoStarOrName : Symbol → Type 0
NoStarOrName t = NoStar t × NoIdent t

brackets_lead : Leads AllBrackets (λ a. AfterParam) NoStarOrName
brackets_lead M ts a r BracketsAt.absent h = fits_fewer (λ t f. (f.0, f.1)) ts h
brackets_lead M ts a r BracketsAt.empty h = (refl, refl)
brackets_lead M ts a r BracketsAt.length h = (refl, refl)

name_lead : Leads Names (λ a. NoStarOrName) NoStar
name_lead M ts a r NameAt.unnamed h = fits_fewer (λ t f. f.0) ts h
name_lead M ts a r NameAt.named h = refl

abbrev ParamSeq : Form Symbol ProtoParam
ParamSeq = Seq Bases (λ b. Seq Stars (λ n. Seq Names (λ i. Seq AllBrackets (λ s. Gives (record { base = b; stars = n; name = i; brackets = s })))))

param_to : (M : May Symbol) (ts : Symbols) (a : ProtoParam) (r : Symbols) → ParamSeq M ts a r → ProtoParamAt ts a r
param_to M ts a r (b, m, d, (n, o, e, (i, u, f, (s, v, g, gives)))) = ProtoParamAt.param d e f g

param_back : (M : May Symbol) (ts : Symbols) (a : ProtoParam) (r : Symbols) → ProtoParamAt ts a r → ParamSeq M ts a r
param_back M ts a r (ProtoParamAt.param d e f g) = (_, _, d, (_, _, e, (_, _, f, (_, _, g, gives))))

module _ (limit : ℕ) where
  pub param_part : Part limit p.param ProtoParams' (λ a. AfterParam) AnyToken
  unfolding p.param
  param_part =
      restate limit ProtoParams' (λ a. AfterParam) AnyToken
      (seq limit (base_part limit) (λ b. widen limit (
      seq limit (stars_part limit) (λ n.
      seq limit (relead limit (narrow limit (name_part limit) {F' = λ a. NoStarOrName} (λ a t f. f.1)) name_lead) (λ i.
      seq limit (relead limit (narrow limit (brackets_part limit) {F' = λ a. AfterParam} (λ a t f. f.2)) brackets_lead) (λ s.
      gives_part limit (record { base = b; stars = n; name = i; brackets = s }))))) (λ t h. tt)))
      param_to (λ M ts a r d h. param_back M ts a r d) (λ a t h. h) (λ t h. h)

-- ---- their list

abbrev pub AfterParams : Symbol → Type 0
AfterParams t = AfterParam t × Not (is_mark Mark.Comma) t

abbrev ProtoLists : Form Symbol (List ProtoParam)
ProtoLists M ts all r = ProtoParamsAt ts all r

params_to_by : {M : May Symbol} {a : ProtoParam} {others : List ProtoParam} {ts m r : Symbols} → ProtoParamAt ts a m → Tail ProtoParams' M m others r
    → ProtoParamsAt ts (a ∷ others) r
params_to_by d no_tail = ProtoParamsAt.last d
params_to_by d (tail e f) = ProtoParamsAt.more d (params_to_by e f)

params_to : (M : May Symbol) (ts : Symbols) (all : List ProtoParam) (r : Symbols) → Seq ProtoParams' (Others ProtoParams') M ts all r → ProtoParamsAt ts all r
params_to M ts all r (a, m, d, (others, f, e)) = subst (λ z. ProtoParamsAt ts z r) (sym e) (params_to_by d f)

params_back : (M : May Symbol) (ts : Symbols) (all : List ProtoParam) (r : Symbols) → ProtoParamsAt ts all r → Seq ProtoParams' (Others ProtoParams') M ts all r
params_back M ts all r (ProtoParamsAt.last d) = (_, _, d, ([], no_tail, refl))
params_back M ts all r (ProtoParamsAt.more {p = a} {ps = ps} d ds) =
    let (b, m, e, (others, f, g)) = params_back M _ ps r ds in
    (a, _, d, (b ∷ others, tail e f, ap (λ z. a ∷ z) g))

module _ (limit : ℕ) where
  pub params_part : Part limit p.params ProtoLists (λ all. AfterParams) AnyToken
  unfolding p.params
  params_part =
      restate limit ProtoLists (λ all. AfterParams) AnyToken
      (list_part limit p.param ProtoParams' AfterParam AfterParams AnyToken (λ l. (refl, refl, refl)) (λ t h. h.1) (λ t h. h.0) (param_part limit))
      params_to (λ M ts all r d h. params_back M ts all r d) (λ all t h. h) (λ t h. h)

-- ---- what stands in the parentheses of a prototype

abbrev ProtoListForm : Form Symbol ProtoParams
ProtoListForm M ts a r = ProtoListAt ts a r

abbrev ListBy : ListStart → Form Symbol ProtoParams
ListBy ListStart.Empty = Gives ProtoParams.Empty
ListBy ListStart.Void = Seq (WordAt Word.Void) (λ l. Gives (ProtoParams.Void l))
ListBy ListStart.List = Seq ProtoLists (λ ps. Gives (ProtoParams.List ps))

list_to : (k : ListStart) (M : May Symbol) (ts : Symbols) (a : ProtoParams) (r : Symbols) → ListBy k M ts a r → ProtoListAt ts a r
list_to ListStart.Empty M ts a r gives = ProtoListAt.empty
list_to ListStart.Void M ts a r (l, m, worded, gives) = ProtoListAt.void
list_to ListStart.List M ts a r (ps, m, d, gives) = ProtoListAt.list d

empty_before : (M : May Symbol) (ts : Symbols) → Fits (Only Mark.CloseParen) ts → ListBy (list_start (kind_of (next ts))) M ts ProtoParams.Empty ts
empty_before M [] h = gives
empty_before M (t ∷ ts) h = only_mark Mark.CloseParen (λ z. ListBy (list_start (Some z.kind)) M (z ∷ ts) ProtoParams.Empty (z ∷ ts)) (λ l. gives) t h

-- a parameter begins with a base
params_sort : {ts r : Symbols} {all : List ProtoParam} → ProtoParamsAt ts all r → list_start (kind_of (next ts)) ≡ ListStart.List
params_sort (ProtoParamsAt.last (ProtoParamAt.param int e f g)) = refl
params_sort (ProtoParamsAt.last (ProtoParamAt.param struct e f g)) = refl
params_sort (ProtoParamsAt.more (ProtoParamAt.param int e f g) ds) = refl
params_sort (ProtoParamsAt.more (ProtoParamAt.param struct e f g) ds) = refl

list_back : (M : May Symbol) (ts : Symbols) (a : ProtoParams) (r : Symbols) → ProtoListAt ts a r → Fits (Only Mark.CloseParen) r
    → ListBy (list_start (kind_of (next ts))) M ts a r
list_back M ts a r ProtoListAt.empty h = empty_before M ts h
list_back M ts a r ProtoListAt.void h = (_, _, worded, gives)
list_back M ts a r (ProtoListAt.list {ps = ps} d) h = subst (λ z. ListBy z M ts (ProtoParams.List ps) r) (sym (params_sort d)) (ps, r, d, gives)

list_end : (a : ProtoParams) (r : Symbols) → ProtoListAt [] a r → (ProtoParams.Empty ≡ a) × ([] ≡ r)
list_end a r ProtoListAt.empty = (refl, refl)
list_end a r (ProtoListAt.list d) = absurd (nothing d)
  where
    nothing : {all : List ProtoParam} {r : Symbols} → ProtoParamsAt [] all r → ⊥
    nothing (ProtoParamsAt.last (ProtoParamAt.param d e f g)) = elim d [ ]
    nothing (ProtoParamsAt.more (ProtoParamAt.param d e f g) ds) = elim d [ ]

module _ (limit : ℕ) where
  list_branches : (k : ListStart) → Branch limit (p.list_by k) (ListBy k) (λ a. Only Mark.CloseParen) AnyToken
  list_branches ListStart.Empty = branch limit (widen limit (gives_part limit ProtoParams.Empty) (λ t h. tt))
  list_branches ListStart.Void = branch limit (narrow limit (seq limit (word_any limit Word.Void) (λ l. gives_part limit (ProtoParams.Void l))) (λ a t h. tt))
  list_branches ListStart.List =
      branch limit (narrow limit (seq limit (params_part limit) (λ ps. gives_part limit (ProtoParams.List ps)))
      (λ a. only_mark Mark.CloseParen AfterParams (λ l. ((refl, refl, refl), refl))))

  pub parameter_list_part : Part limit p.parameter_list ProtoListForm (λ a. Only Mark.CloseParen) AnyToken
  unfolding p.parameter_list
  parameter_list_part =
      dispatch_empty limit (λ t. list_start (kind_of t)) p.list_by ListBy ProtoListForm (λ a. Only Mark.CloseParen) AnyToken
      (λ M t us. list_to (list_start (Some t.kind)) M (t ∷ us)) list_back list_branches
      ProtoParams.Empty refl (λ M ts h. ProtoListAt.empty) (λ M b m d h. list_end b m d)
