-- Tokens that are wanted, as parts.
use Rattle.std.proofs.Common.{◌≡◌, ℕ, ℤ, pos, Bool, true, false, Option, Some, None, [], ◌∷◌, refl, sym, ap, subst, ◌∙◌}
use Rattle.dfi_base.specs.declared.numbers.Line.{Line}
use Rattle.c_lex.specs.declared.token.Word.{Word}
use Rattle.c_lex.specs.declared.token.Mark.{Mark}
use Rattle.c_lex.specs.declared.token.Kind.{Kind}
use Rattle.c_lex.specs.contracts.token.Word as word_type
use Rattle.c_lex.specs.contracts.token.Mark as mark_type
use Rattle.c_ast.specs.declared.ident.Ident.{Ident}
use Rattle.parse_law.specs.Nesting.{May}
use Rattle.parse_law.proofs.Forms.{Form, Follow, Completes}
use Rattle.parse_law.proofs.Steps.{Any, nil_cons, false_true}
use Rattle.c_parse.specs.Symbol.{Symbol, Symbols, word, mark, name, number}
use Rattle.c_lex.specs.Marks.{same_mark}
use Rattle.c_lex.specs.Words.{same_word}
use Rattle.c_parse.specs.tools.Tokens.{P, next, want, located, located_by, line_next, is_mark, is_word, when, mark_at, word_at, ident_in, ident_at, number_in, number_at}
use Rattle.c_parse.proofs.Parts.{Part, Reads, reads, reads_part, restate, Branch, branch, refuses, Void, dispatch}
use denote.Enum.Bare.{same_true, true_same}

none_some : {Q A : Type 0} {a : A} → ◌≡◌ {A = Option A} None (Some a) → Q
none_some e = absurd (cc)

some_is : {A : Type 0} {a b : A} → ◌≡◌ {A = Option A} (Some a) (Some b) → a ≡ b
some_is e = cc

when_true : {A : Type 0} (b : Bool) (a c : A) → when b a ≡ Some c → (b ≡ true) × (a ≡ c)
when_true true a c e = (refl, some_is e)
when_true false a c e = none_some e

pub same_mark_self : (m : Mark) → same_mark m m ≡ true
same_mark_self m = true_same mark_type.the_type m m refl

pub same_word_self : (w : Word) → same_word w w ≡ true
same_word_self w = true_same word_type.the_type w w refl

-- ---- what a token with a value is

mark_is_by : (m : Mark) (k : Kind) (l p : Line) → when (is_mark m (Some k)) l ≡ Some p → ◌≡◌ {A = Symbol} (record { kind = k; line = l }) (mark m p)
mark_is_by m (Kind.Mark k) l p e =
    let (same, line) = when_true (same_mark k m) l p e in
    ap (λ z. mark z l) (same_true mark_type.the_type tt k m same) ∙ ap (mark m) line
mark_is_by m (Kind.Word w) l p e = none_some e
mark_is_by m (Kind.Id n) l p e = none_some e
mark_is_by m (Kind.Num n) l p e = none_some e

word_is_by : (w : Word) (k : Kind) (l p : Line) → when (is_word w (Some k)) l ≡ Some p → ◌≡◌ {A = Symbol} (record { kind = k; line = l }) (word w p)
word_is_by w (Kind.Word k) l p e =
    let (same, line) = when_true (same_word k w) l p e in
    ap (λ z. word z l) (same_true word_type.the_type tt k w same) ∙ ap (word w) line
word_is_by w (Kind.Mark m) l p e = none_some e
word_is_by w (Kind.Id n) l p e = none_some e
word_is_by w (Kind.Num n) l p e = none_some e

ident_is_by : (k : Kind) (l : Line) (i : Ident) → ident_in k l ≡ Some i → ◌≡◌ {A = Symbol} (record { kind = k; line = l }) (name i.name i.line)
ident_is_by (Kind.Id n) l i e = ap (λ z. name z.name z.line) (some_is e)
ident_is_by (Kind.Word w) l i e = none_some e
ident_is_by (Kind.Mark m) l i e = none_some e
ident_is_by (Kind.Num n) l i e = none_some e

number_is_by : (k : Kind) (l : Line) (n : ℤ) → number_in k ≡ Some n → ◌≡◌ {A = Symbol} (record { kind = k; line = l }) (number n l)
number_is_by (Kind.Num k) l n e = ap (λ z. number z l) (some_is e)
number_is_by (Kind.Word w) l n e = none_some e
number_is_by (Kind.Mark m) l n e = none_some e
number_is_by (Kind.Id k) l n e = none_some e

pub mark_has : (m : Mark) (l : Line) → mark_at m (mark m l) ≡ Some l
mark_has m l = ap (λ b. when b l) (same_mark_self m)

pub word_has : (w : Word) (l : Line) → word_at w (word w l) ≡ Some l
word_has w l = ap (λ b. when b l) (same_word_self w)

-- ---- the token as a form

pub data MarkAt (m : Mark) (M : May Symbol) : Symbols → Line → Symbols → Type 0 where
  marked : {l : Line} {rest : Symbols} → MarkAt m M (mark m l ∷ rest) l rest

pub data WordAt (w : Word) (M : May Symbol) : Symbols → Line → Symbols → Type 0 where
  worded : {l : Line} {rest : Symbols} → WordAt w M (word w l ∷ rest) l rest

pub data IdentAt (M : May Symbol) : Symbols → Ident → Symbols → Type 0 where
  named : {n : ℕ} {l : Line} {rest : Symbols} → IdentAt M (name n l ∷ rest) (record { line = l; name = n }) rest

pub data NumberAt (M : May Symbol) : Symbols → ℤ → Symbols → Type 0 where
  numbered : {n : ℤ} {l : Line} {rest : Symbols} → NumberAt M (number n l ∷ rest) n rest

mark_reads : (m : Mark) (M : May Symbol) (ts : Symbols) (l : Line) (r : Symbols) → Reads (mark_at m) M ts l r → MarkAt m M ts l r
mark_reads m M ts l r (reads {t = t} e) = subst (λ z. MarkAt m M (z ∷ r) l r) (sym (mark_is_by m t.kind t.line l e)) marked

reads_mark : (m : Mark) (M : May Symbol) (ts : Symbols) (l : Line) (r : Symbols) → MarkAt m M ts l r → Reads (mark_at m) M ts l r
reads_mark m M ts l r marked = reads (mark_has m l)

word_reads : (w : Word) (M : May Symbol) (ts : Symbols) (l : Line) (r : Symbols) → Reads (word_at w) M ts l r → WordAt w M ts l r
word_reads w M ts l r (reads {t = t} e) = subst (λ z. WordAt w M (z ∷ r) l r) (sym (word_is_by w t.kind t.line l e)) worded

reads_word : (w : Word) (M : May Symbol) (ts : Symbols) (l : Line) (r : Symbols) → WordAt w M ts l r → Reads (word_at w) M ts l r
reads_word w M ts l r worded = reads (word_has w l)

ident_reads : (M : May Symbol) (ts : Symbols) (i : Ident) (r : Symbols) → Reads ident_at M ts i r → IdentAt M ts i r
ident_reads M ts i r (reads {t = t} e) = subst (λ z. IdentAt M (z ∷ r) i r) (sym (ident_is_by t.kind t.line i e)) named

reads_ident : (M : May Symbol) (ts : Symbols) (i : Ident) (r : Symbols) → IdentAt M ts i r → Reads ident_at M ts i r
reads_ident M ts i r named = reads refl

number_reads : (M : May Symbol) (ts : Symbols) (n : ℤ) (r : Symbols) → Reads number_at M ts n r → NumberAt M ts n r
number_reads M ts n r (reads {t = t} e) = subst (λ z. NumberAt M (z ∷ r) n r) (sym (number_is_by t.kind t.line n e)) numbered

reads_number : (M : May Symbol) (ts : Symbols) (n : ℤ) (r : Symbols) → NumberAt M ts n r → Reads number_at M ts n r
reads_number M ts n r numbered = reads refl

-- ---- the parts. `begins`: the token begins what S asks of

abbrev pub AnyToken : Symbol → Type 0
AnyToken t = Unit {0}

-- the token is this mark
abbrev pub Only : Mark → Symbol → Type 0
Only m t = is_mark m (Some t.kind) ≡ true

only_by : (m : Mark) (k : Kind) (l : Line) → is_mark m (Some k) ≡ true → ◌≡◌ {A = Symbol} (mark m l) (record { kind = k; line = l })
only_by m (Kind.Mark k) l e = ap (λ z. mark z l) (sym (same_true mark_type.the_type tt k m e))
only_by m (Kind.Word w) l e = false_true e
only_by m (Kind.Id n) l e = false_true e
only_by m (Kind.Num n) l e = false_true e

-- what holds of the mark holds of the token
pub only_mark : (m : Mark) (S : Symbol → Type 0) → ((l : Line) → S (mark m l)) → (t : Symbol) → Only m t → S t
only_mark m S holds t e = subst S (only_by m t.kind t.line e) (holds t.line)

pub line_one : Line
line_one = record { 0 = 1 }

any_begins : (S : Symbol → Type 0) (value : Symbol → Option Line) (make : Line → Symbol) → ((t : Symbol) (l : Line) → value t ≡ Some l → t ≡ make l)
    → ((l : Line) → S (make l))
    → (t : Symbol) (l : Line) → value t ≡ Some l → S t
any_begins S value make is begins t l e = subst S (sym (is t l e)) (begins l)

module _ (limit : ℕ) where
  pub mark_part : (m : Mark) {S : Symbol → Type 0} → ((l : Line) → S (mark m l)) → Part limit (want (mark_at m)) (MarkAt m) Any S
  mark_part m {S = S} begins =
      restate limit (MarkAt m) Any S
      (reads_part limit (mark_at m) S (any_begins S (mark_at m) (mark m) (λ t l e. mark_is_by m t.kind t.line l e) begins) (mark m line_one) line_one (mark_has m line_one))
      (mark_reads m) (λ M ts l r d h. reads_mark m M ts l r d) (λ a t h. h) (λ t h. h)

  pub word_part : (w : Word) {S : Symbol → Type 0} → ((l : Line) → S (word w l)) → Part limit (want (word_at w)) (WordAt w) Any S
  word_part w {S = S} begins =
      restate limit (WordAt w) Any S
      (reads_part limit (word_at w) S (any_begins S (word_at w) (word w) (λ t l e. word_is_by w t.kind t.line l e) begins) (word w line_one) line_one (word_has w line_one))
      (word_reads w) (λ M ts l r d h. reads_word w M ts l r d) (λ a t h. h) (λ t h. h)

  pub ident_part : {S : Symbol → Type 0} → ((n : ℕ) (l : Line) → S (name n l)) → Part limit (want ident_at) IdentAt Any S
  ident_part {S = S} begins =
      restate limit IdentAt Any S
      (reads_part limit ident_at S (λ t i e. subst S (sym (ident_is_by t.kind t.line i e)) (begins i.name i.line)) (name 0 line_one) (record { line = line_one; name = 0 }) refl)
      ident_reads (λ M ts i r d h. reads_ident M ts i r d) (λ a t h. h) (λ t h. h)

  pub number_part : {S : Symbol → Type 0} → ((n : ℤ) (l : Line) → S (number n l)) → (n : ℤ) → Part limit (want number_at) NumberAt Any S
  number_part {S = S} begins n =
      restate limit NumberAt Any S
      (reads_part limit number_at S (λ t k e. subst S (sym (number_is_by t.kind t.line k e)) (begins k t.line)) (number n line_one) n refl)
      number_reads (λ M ts k r d h. reads_number M ts k r d) (λ a t h. h) (λ t h. h)

  -- where nothing is asked of the token

  pub mark_any : (m : Mark) → Part limit (want (mark_at m)) (MarkAt m) Any AnyToken
  mark_any m = mark_part m (λ l. tt)

  pub word_any : (w : Word) → Part limit (want (word_at w)) (WordAt w) Any AnyToken
  word_any w = word_part w (λ l. tt)

  pub ident_any : Part limit (want ident_at) IdentAt Any AnyToken
  ident_any = ident_part (λ n l. tt)

  pub number_any : Part limit (want number_at) NumberAt Any AnyToken
  number_any = number_part (λ n l. tt) (pos 0)

  -- ---- a form that has the line of its first token

  abbrev LocatedBy : {A : Type 0} → (Line → Form Symbol A) → Option Line → Form Symbol A
  LocatedBy E None = Void
  LocatedBy E (Some l) = E l

  module _ {A : Type 0} (f : Line → P A) (E : Line → Form Symbol A) (D : Form Symbol A) (F : Follow Symbol A) (S : Symbol → Type 0)
      (to : (M : May Symbol) (t : Symbol) (us : Symbols) (a : A) (r : Symbols) → E t.line M (t ∷ us) a r → D M (t ∷ us) a r)
      (back : (M : May Symbol) (ts : Symbols) (a : A) (r : Symbols) → D M ts a r → (t : Symbol) × (us : Symbols) × (ts ≡ t ∷ us) × E t.line M ts a r)
      (parts : (l : Line) → Part limit (f l) (E l) F S) where
    located_branches : (k : Option Line) → Branch limit (located_by f k) (LocatedBy E k) F S
    located_branches None = refuses limit
    located_branches (Some l) = branch limit (parts l)

    located_back : (M : May Symbol) (ts : Symbols) (a : A) (r : Symbols) → D M ts a r → LocatedBy E (line_next (next ts)) M ts a r
    located_back M ts a r d =
        let (t, us, e, h) = back M ts a r d in
        subst (λ z. LocatedBy E (line_next (next z)) M z a r) (sym e) (subst (λ z. E t.line M z a r) e h)

    pub located_part : Completes limit D F [] [] → Part limit (located f) D F S
    located_part whole =
        dispatch limit line_next (located_by f) (LocatedBy E) D F S to (λ M ts a r d h. located_back M ts a r d) located_branches whole refl
        (λ M a r d h. let (t, us, e, i) = back M [] a r d in nil_cons e)
