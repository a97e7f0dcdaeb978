-- The example: its parser, and that this is the grammar.
use Rattle.std.proofs.Common.{◌≡◌, ℕ, zero, suc, ◌+◌, ◌<◌, ◌≤◌, ◌⊎◌, inl, inr, Bool, true, false, Option, Some, None, List, [], ◌∷◌, ◌++◌, refl, sym, ap, subst, ◌∙◌, arith}
use Rattle.parse_law.specs.tools.Parsing.{unexpected, deep, Answer, done, fault, Parser, ◌>>=◌, ◌>>◌, ◌<$>◌, pure, peek, skip, expect, refuse, level, binary, whole, turns, repeat, accept, finish}
use Rattle.parse_law.specs.Nesting.{May, Anywhere}
use Rattle.parse_law.specs.FirstFault.{Continues}
use Rattle.parse_law.specs.Tells.{Tells, HasOneAnswer}
use Rattle.parse_law.specs.BracketSums.{Token, Number, Plus, Open, Close, Tree, Leaf, Sum, IsSum, sum, IsMore, no_more, plus, IsTerm, term, IsInside, number, bracket, Sums}
use Rattle.parse_law.proofs.Forms.{Form, Follow, Completes, Judge, Law}
use Rattle.parse_law.proofs.Bind.{Seq}
use Rattle.parse_law.proofs.Steps.{Any, Nothing, Pure, pure_law, Map, map_law, Before, before_law, convert, IsTestOf, some_is, none_some, false_true}
use Rattle.parse_law.proofs.FirstTokens.{taken, refused, wants, heads, Starts, not_started, not_empty, level_law}
use Rattle.parse_law.proofs.Binary.{binary_law}
use Rattle.parse_law.proofs.Verdicts.{All, Whole, whole_law, tells, continues_prefix}
use Rattle.parse_law.proofs.OneAnswer.{one_answer, Bounded, one_tree}

-- ---- the parser

abbrev pub operator : Token → Option (Tree → Tree → Tree)
operator Plus = Some Sum
operator _ = None

abbrev pub begins : Token → Bool
begins (Number n) = true
begins Open = true
begins _ = false

abbrev pub is_close : Token → Bool
is_close Close = true
is_close _ = false

module _ (limit : ℕ) (inner : ℕ → Parser Token Tree) where
  abbrev pub counted : ℕ → Parser Token (Tree × ℕ)
  counted c = (λ a. (a, c)) <$> inner c

  abbrev pub sums : ℕ → Parser Token Tree
  sums c = (λ v. v.0) <$> binary limit operator counted c

  abbrev pub inside_by : ℕ → Option Token → Parser Token Tree
  inside_by c (Some (Number n)) = skip >> pure (Leaf n)
  inside_by c (Some Open) = skip >> (sums c >>= (λ a. expect is_close >> pure a))
  inside_by c _ = refuse unexpected

  abbrev pub inside : ℕ → Parser Token Tree
  inside c = peek >>= inside_by c

unfoldable pub terms : ℕ → ℕ → ℕ → Parser Token Tree
terms limit zero c = level begins limit c (λ d. refuse unexpected)
terms limit (suc n) c = level begins limit c (inside limit (terms limit n))

abbrev pub parse : ℕ → Parser Token Tree
parse limit = whole (sums limit (terms limit limit) 0)

-- ---- what may follow

abbrev NoPlus : Token → Type 0
NoPlus Plus = ⊥
NoPlus _ = Unit {0}

abbrev AfterSum : Follow Token Tree
AfterSum a = NoPlus

-- ---- the laws

module _ (limit : ℕ) where
  abbrev Term : ℕ → Form Token Tree
  Term c M ts a r = IsTerm M c ts a r

  abbrev Counted : ℕ → Form Token (Tree × ℕ)
  Counted c = Map (λ a. (a, c)) (Term c)

  abbrev More : (Tree × ℕ) → Form Token (Tree × ℕ)
  More v M ts z r = IsMore M v.1 v.0 ts z.0 r z.1

  abbrev Inside : ℕ → Form Token Tree
  Inside c M ts a r = IsInside M c ts a r

  abbrev Total : ℕ → Form Token Tree
  Total c M ts a r = IsSum M c ts a r

  more_go : (M : May Token) (v w z : Tree × ℕ) (f : Tree → Tree → Tree) (t : Token) (us m r : List Token) → operator t ≡ Some f → M v.1 (t ∷ us)
      → Counted (suc v.1) M us w m → More (f v.0 w.0, w.1) M m z r → More v M (t ∷ us) z r
  more_go M v w z f Plus us m r e may (a, g, d) ds =
      let here : IsMore M w.1 (f v.0 w.0) m z.0 r z.1 = ds in
      let tree : f v.0 w.0 ≡ Sum v.0 a = ap (λ h. h v.0 w.0) (sym (some_is e)) ∙ ap (λ u. Sum v.0 u.0) (sym g) in
      let next : w.1 ≡ suc v.1 = ap (λ u. u.1) (sym g) in
      plus may d (subst (λ u. IsMore M u (Sum v.0 a) m z.0 r z.1) next (subst (λ u. IsMore M w.1 u m z.0 r z.1) tree here))
  more_go M v w z f (Number n) us m r e may d ds = none_some e
  more_go M v w z f Open us m r e may d ds = none_some e
  more_go M v w z f Close us m r e may d ds = none_some e

  more_split : (M : May Token) (v z : Tree × ℕ) (ts r : List Token) → More v M ts z r
      → ((v ≡ z) × (ts ≡ r)) ⊎ ((t : Token) × (us : List Token) × (f : Tree → Tree → Tree) × (w : Tree × ℕ) × (m : List Token)
      × (ts ≡ t ∷ us) × (operator t ≡ Some f) × M v.1 (t ∷ us) × Counted (suc v.1) M us w m × More (f v.0 w.0, w.1) M m z r)
  more_split M v z ts r d = split_by v.1 v.0 ts z.0 r z.1 d
    where
      split_by : (c : ℕ) (a : Tree) (us : List Token) (b : Tree) (rest : List Token) (d : ℕ) → IsMore M c a us b rest d
          → ((◌≡◌ {A = Tree × ℕ} (a, c) (b, d)) × (us ≡ rest)) ⊎ ((t : Token) × (vs : List Token) × (f : Tree → Tree → Tree) × (w : Tree × ℕ) × (m : List Token)
          × (us ≡ t ∷ vs) × (operator t ≡ Some f) × M c (t ∷ vs) × Counted (suc c) M vs w m × More (f a w.0, w.1) M m (b, d) rest)
      split_by c a us b rest d no_more = inl (refl, refl)
      split_by c a us b rest d (plus {ts = vs} {m = m} {b = x} may t ds) = inr (Plus, vs, Sum, (x, suc c), m, refl, refl, may, (x, refl, t), ds)

  counted_rises : (M : May Token) (c : ℕ) (ts : List Token) (w : Tree × ℕ) (r : List Token) → Counted c M ts w r → c ≤ w.1
  counted_rises M c ts w r (a, e, d) = let h : c ≡ w.1 = ap (λ u. u.1) e in omega arith

  term_completes : (c : ℕ) → Completes limit (Term c) Any [] []
  term_completes c = record { tokens = Number 0 ∷ []; value = Leaf 0; holds = λ M l r free h. term (free c _ (omega arith)) number }

  counted_completes : (c : ℕ) → Completes limit (Counted c) Any [] []
  counted_completes c = record { tokens = Number 0 ∷ []; value = (Leaf 0, c); holds = λ M l r free h. (Leaf 0, refl, term (free c _ (omega arith)) number) }

  plus_alone : (t : Token) → NoPlus t → operator t ≡ None
  plus_alone Plus h = absurd h
  plus_alone (Number n) h = refl
  plus_alone Open h = refl
  plus_alone Close h = refl

  total_back : (M : May Token) (c : ℕ) (ts : List Token) (b : Tree) (r : List Token) → Total c M ts b r → Map (λ v. v.0) (Seq (Counted c) More) M ts b r
  total_back M c ts b r (sum {d = d} {a = a} t ds) = ((b, d), refl, ((a, c), _, (a, refl, t), ds))

  total_to : (M : May Token) (c : ℕ) (ts : List Token) (b : Tree) (r : List Token) → Map (λ v. v.0) (Seq (Counted c) More) M ts b r → Total c M ts b r
  total_to M c ts b r (v, e, (w, m, (a, f, t), ds)) =
      subst (λ z. IsSum M c ts z r) e (sum t (subst (λ u. IsMore M u.1 u.0 m v.0 r v.1) (sym f) ds))

  inside_starts : (c : ℕ) → Starts begins (Inside c)
  inside_starts c M ts a r number = (_, _, refl, refl)
  inside_starts c M ts a r (bracket d) = (_, _, refl, refl)

  inside_completes : (c : ℕ) → Completes limit (Inside c) Any [] []
  inside_completes c = record { tokens = Number 0 ∷ []; value = Leaf 0; holds = λ M l r free h. number }

  inside_one : (c : ℕ) (t : Token) → begins t ≡ true → Completes limit (Inside c) Any [] (t ∷ [])
  inside_one c (Number n) e = record { tokens = []; value = Leaf n; holds = λ M l r free h. number }
  inside_one c Open e = record {
    tokens = Number 0 ∷ Close ∷ [];
    value = Leaf 0;
    holds = λ M l r free h. bracket (sum (term (free c _ (omega arith)) number) no_more);
  }
  inside_one c Plus e = false_true e
  inside_one c Close e = false_true e

  close_alone : IsTestOf Close is_close
  close_alone = (refl, λ t e. alone t e)
    where
      alone : (t : Token) → is_close t ≡ true → t ≡ Close
      alone Close e = refl
      alone (Number n) e = false_true e
      alone Plus e = false_true e
      alone Open e = false_true e

  module _ (inner : ℕ → Parser Token Tree) (Good : ℕ → Type 0) (up : (c d : ℕ) → c ≤ d → Good c → Good d)
      (law : (c : ℕ) → Good c → Law limit (inner c) (Term c) Any) where
    sums_law : (c : ℕ) → Good c → Law limit (sums limit inner c) (Total c) AfterSum
    sums_law c g =
        convert limit (sums limit inner c) (Map (λ v. v.0) (Seq (Counted c) More)) AfterSum (Total c) AfterSum
        (λ M ts b r d. total_to M c ts b r d) (λ M ts b r d h. total_back M c ts b r d) (λ a t h. h)
        (map_law limit (λ v. v.0) (binary limit operator (counted limit inner) c) (Seq (Counted c) More) AfterSum
        (binary_law limit operator (counted limit inner) Counted More (λ t. Unit {0}) NoPlus (λ M v ts. no_more) more_go more_split plus_alone
        (λ t h. tt) (λ t f e. tt) counted_completes Good up counted_rises
        (λ d h. map_law limit (λ a. (a, d)) (inner d) (Term d) Any (law d h)) c g))

    number_back : (M : May Token) (c n : ℕ) (ts : List Token) (a : Tree) (r : List Token) → Inside c M (Number n ∷ ts) a r → Pure (Leaf n) M ts a r
    number_back M c n ts a r number = (refl, refl)

    bracket_back : (M : May Token) (c : ℕ) (ts : List Token) (a : Tree) (r : List Token) → Inside c M (Open ∷ ts) a r
        → Map (λ b. b) (Before (Total c) Close) M ts a r
    bracket_back M c ts a r (bracket d) = (a, refl, d)

    inside_law : (c : ℕ) → Good c → Law limit (inside limit inner c) (Inside c) Any
    unfolding peek skip
    inside_law c g =
        let p : Parser Token Tree = inside limit inner c in
        let by : (t : Token) (ts : List Token) → Judge limit p (Inside c) Any (t ∷ ts) (p (t ∷ ts)) = elim [
          | Number n ↦ taken limit p (pure (Leaf n)) (Inside c) (Pure (Leaf n)) Any (Number n)
              (λ M ts a r e. subst (λ z. IsInside M c (Number n ∷ ts) z r) e.0 (subst (λ z. IsInside M c (Number n ∷ ts) (Leaf n) z) e.1 number))
              (λ M ts a r d h. number_back M c n ts a r d) (λ ts. refl) (pure_law limit (Leaf n) Any)
          | Open ↦ taken limit p (sums limit inner c >>= (λ a. expect is_close >> pure a)) (Inside c) (Map (λ b. b) (Before (Total c) Close)) Any Open
              (λ M ts a r (b, e, d). subst (λ z. IsInside M c (Open ∷ ts) z r) e (bracket d))
              (λ M ts a r d h. bracket_back M c ts a r d) (λ ts. refl)
              (before_law limit (λ b. b) (sums limit inner c) (Total c) AfterSum Close is_close close_alone (λ a. tt) Any (sums_law c g))
          | t ↦ refused limit p (Inside c) Any t (λ ts. refl) (λ M ts b m d h. not_started begins (Inside c) (inside_starts c) t refl M ts b m d)
        ] in
        heads limit p (Inside c) Any by (wants limit p (Inside c) Any refl (inside_completes c) (λ M b m d h. not_empty begins (Inside c) (inside_starts c) M b m d))

  level_of : (c : ℕ) (q : ℕ → Parser Token Tree) → (c < limit → Law limit (q (suc c)) (Inside (suc c)) Any) → Law limit (level begins limit c q) (Term c) Any
  level_of c q law =
      level_law limit c begins q (Term c) (Inside (suc c)) Any (λ M ts a r may d. term may d) (λ M ts a r d. term_back M c ts a r d)
      (inside_starts (suc c)) (inside_one (suc c)) (Number 0) refl law
    where
      term_back : (M : May Token) (c : ℕ) (ts : List Token) (a : Tree) (r : List Token) → Term c M ts a r → M c ts × Inside (suc c) M ts a r
      term_back M c ts a r (term may d) = (may, d)

  terms_law : (n c : ℕ) → limit ≤ c + n → Law limit (terms limit n c) (Term c) Any
  unfolding terms
  terms_law zero c top = level_of c (λ d. refuse unexpected) (λ less. absurd (omega arith))
  terms_law (suc n) c top =
      level_of c (inside limit (terms limit n)) (λ less.
      inside_law (terms limit n) (λ d. limit ≤ d + n) (λ d e l g. omega arith) (λ d g. terms_law n d g) (suc c) (omega arith))

  parse_law : Law limit (parse limit) (All (Whole (Total 0))) Nothing
  parse_law =
      whole_law limit (sums limit (terms limit limit) 0) (Total 0) AfterSum
      (sums_law (terms limit limit) (λ d. limit ≤ d + limit) (λ d e l g. omega arith) (λ d g. terms_law limit d g) 0 (omega arith))

-- the answer of the parser is the tree, or the first fault
pub parse_tells : (limit : ℕ) (ts : List Token) → Tells Sums limit ts (parse limit ts)
parse_tells limit ts = tells limit Sums (parse limit) (parse_law limit) ts

pub sums_answer : (limit : ℕ) (ts : List Token) → HasOneAnswer Sums limit ts
sums_answer limit ts = (parse limit ts, parse_tells limit ts, λ other t. one_answer Sums limit ts (parse limit ts) other (parse_tells limit ts) t)

-- ---- each derivation keeps to some limit

mutual
  sum_bounded : {c : ℕ} {ts r : List Token} {a : Tree} → IsSum Anywhere c ts a r → Bounded (λ M. IsSum M c ts a r)
  sum_bounded (sum t ds) = let (m, f) = term_bounded t in let (n, g) = more_bounded ds in
      (m + n, λ M l. sum (f M (λ d us h. l d us (omega arith))) (g M (λ d us h. l d us (omega arith))))

  more_bounded : {c d : ℕ} {ts r : List Token} {a b : Tree} → IsMore Anywhere c a ts b r d → Bounded (λ M. IsMore M c a ts b r d)
  more_bounded no_more = (0, λ M l. no_more)
  more_bounded {c} (plus may t ds) = let (m, f) = term_bounded t in let (n, g) = more_bounded ds in
      (suc c + m + n, λ M l. plus (l c _ (omega arith)) (f M (λ d us h. l d us (omega arith))) (g M (λ d us h. l d us (omega arith))))

  term_bounded : {c : ℕ} {ts r : List Token} {a : Tree} → IsTerm Anywhere c ts a r → Bounded (λ M. IsTerm M c ts a r)
  term_bounded {c} (term may d) = let (m, f) = inside_bounded d in (suc c + m, λ M l. term (l c _ (omega arith)) (f M (λ e us h. l e us (omega arith))))

  inside_bounded : {c : ℕ} {ts r : List Token} {a : Tree} → IsInside Anywhere c ts a r → Bounded (λ M. IsInside M c ts a r)
  inside_bounded number = (0, λ M l. number)
  inside_bounded (bracket d) = let (m, f) = sum_bounded d in (m, λ M l. bracket (f M l))

pub sums_one_tree : (ts : List Token) (a b : Tree) → Sums Anywhere ts a → Sums Anywhere ts b → a ≡ b
sums_one_tree ts a b = one_tree Sums parse parse_law (λ ts a d. sum_bounded d) ts a b

pub sums_prefix : (ts us : List Token) → Continues Sums (ts ++ us) → Continues Sums ts
sums_prefix = continues_prefix Sums

-- ---- rows

unfoldable row : ℕ → List Token → Answer Token Tree
unfolding terms turns repeat peek skip expect accept finish
row limit ts = parse limit ts

two_numbers : row 2 (Number 1 ∷ Plus ∷ Number 2 ∷ []) ≡ done (Sum (Leaf 1) (Leaf 2)) []
unfolding row
two_numbers = refl

second_too_deep : row 1 (Number 1 ∷ Plus ∷ Number 2 ∷ []) ≡ fault deep 1
unfolding row
second_too_deep = refl

-- unexpected before deep at one token
unexpected_first : row 1 (Number 1 ∷ Plus ∷ Close ∷ []) ≡ fault unexpected 1
unfolding row
unexpected_first = refl

ends_too_soon : row 2 (Open ∷ Number 1 ∷ []) ≡ fault unexpected 0
unfolding row
ends_too_soon = refl
