-- A format beside the text of each of its values: how texts are joined.
use Rattle.std.proofs.Common.{◌≡◌, ℕ, zero, suc, ◌+◌, ◌^◌, ◌<◌, ◌≤◌, Bool, false, List, [], ◌∷◌, ◌++◌, length, refl, sym, ap, subst, ◌∙◌, append_assoc, length-append, arith}
use Rattle.std.specs.Prelude.{ℤ}
use Rattle.std.specs.Fmt.{decimal, signed_decimal}
use Rattle.line_format.specs.Lines.{greatest, IsInt, Fit, numbers_text}
use Rattle.line_format.specs.tools.Format.{Next, more, last, Format, give, byte, chain, loop, Loop, again, stop, Has, read}
use Rattle.line_format.specs.tools.Number.{is_digit, number_and}
use Rattle.line_format.specs.tools.Words.{word}
use Rattle.line_format.specs.tools.Signed.{signed_and}
use Rattle.line_format.specs.tools.Members.{AreMarks, members, any_members}
use Rattle.line_format.specs.tools.Times.{one_on, next_one, times}
use Rattle.line_format.proofs.Laws.{Completes}
use Rattle.line_format.proofs.Formats.{more_last, last_is, Good, GoodTurns, exact}
use Rattle.line_format.proofs.Digits.{more_is}
use Rattle.line_format.proofs.Spelling.{word_text, word_is, word_good, and_good, and_text, and_is}
use Rattle.line_format.proofs.Integers.{signed_good, signed_has, signed_is}
use Rattle.line_format.proofs.Listing.{any_good, any_has, any_is, members_good, members_has, members_is}

-- each value that may stand is read from its text, whatever follows, and nothing else is
pub record Spells {A : Type 0} (f : Format A) (Is : A → Type 0) (put : A → List ℕ → List ℕ) : Type 1 where
  pub good : Good f
  pub has : (a : A) → Is a → (r : List ℕ) → Has f (put a r) a r
  pub is : (ts : List ℕ) (a : A) (r : List ℕ) → Has f ts a r → Is a × (ts ≡ put a r)

pub number_spells : (c lo hi : ℕ) → is_digit c ≡ false → lo ≤ hi → hi < 2 ^ 64 → Spells (number_and c lo hi) (λ n. (lo ≤ n) × (n ≤ hi)) (λ n r. decimal n ++ c ∷ r)
number_spells c lo hi plain le small = record {
  good = and_good c lo hi plain small le;
  has = λ n (low, high) r. and_text c lo hi plain small n low high r;
  is = λ ts n r h. let (low, high, w) = and_is c lo hi plain small ts n r h in ((low, high), w);
}

pub signed_spells : (c : ℕ) → is_digit c ≡ false → Spells (signed_and c) IsInt (λ z r. signed_decimal z ++ c ∷ r)
signed_spells c plain = record { good = signed_good c plain; has = signed_has c plain; is = signed_is c plain }

pub any_spells : (lead : List ℕ) (between end : ℕ) (rising : Bool) → AreMarks between end → Spells (any_members lead between end rising) (Fit rising 0) (λ xs r. numbers_text lead between end xs r)
any_spells lead between end rising marks = record {
  good = any_good between end rising marks lead;
  has = any_has between end rising marks lead;
  is = any_is between end rising marks lead;
}

module _ {A : Type 0} {f : Format A} {Is : A → Type 0} {put : A → List ℕ → List ℕ} (s : Spells f Is put) where
  -- behind a word
  pub behind : (cs : List ℕ) → Spells (chain (word cs) (λ u. f)) Is (λ a r. cs ++ put a r)
  behind cs = record {
    good = (word_good cs, λ u g. s.good);
    has = λ a i r. (tt, put a r, word_text cs (put a r), s.has a i r);
    is = λ ts a r (u, m, w, h).
        let (i, e) = s.is m a r h in
        (i, word_is cs ts u m w ∙ ap (λ z. cs ++ z) e);
  }

  -- the same as values of another kind
  pub mapped : {B : Type 0} (Fits : B → Type 0) (to : A → B) (from : B → A) → ((b : B) → Fits b → Is (from b) × (to (from b) ≡ b)) → ((a : A) → Is a → Fits (to a) × (from (to a) ≡ a))
      → Spells (chain f (λ a. give (to a))) Fits (λ b r. put (from b) r)
  mapped {B = B} Fits to from back forth = record {
    good = (s.good, λ a g. tt);
    has = λ b i r. let (j, e) = back b i in (from b, r, s.has (from b) j r, (e, refl));
    is = λ ts b r (a, m, h, (e, w)).
        let (i, t) = s.is ts a m h in
        let (j, same) = forth a i in
        (subst Fits e j, t ∙ (λ k. put (same' e same k) (w k)));
  }
    where
      same' : {a : A} {b : B} → to a ≡ b → from (to a) ≡ a → a ≡ from b
      same' e same = sym same ∙ ap from e

  -- and then a second one
  pub paired : {B : Type 0} {g : A → Format B} {Next : A → B → Type 0} {next : A → B → List ℕ → List ℕ} → ((a : A) → Is a → Spells (g a) (Next a) (next a))
      → Spells {A = A × B} (chain f (λ a. chain (g a) (λ b. give (a, b)))) (λ p. Is p.0 × Next p.0 p.1) (λ p r. put p.0 (next p.0 p.1 r))
  paired {B} {g} {Next} {next} second = record {
    good = (s.good, λ a (ts, r, h). let (i, e) = s.is ts a r h in ((second a i).good, λ b g. tt));
    has = λ (a, b) (i, j) r. (a, next a b r, s.has a i (next a b r), (b, r, (second a i).has b j r, (refl, refl)));
    is = λ ts p r (a, m, h, (b, n, k, (e, w))).
        let (i, t) = s.is ts a m h in
        let (j, u) = (second a i).is m b n k in
        (subst (λ q. Is q.0 × Next q.0 q.1) e (i, j), t ∙ ap (λ z. put a z) u ∙ (λ x. put (e x).0 (next (e x).0 (e x).1 (w x))));
  }

  -- ---- so many

  abbrev pub All : List A → Type 0
  All [] = Unit {0}
  All (a ∷ xs) = Is a × All xs

  abbrev pub puts : List A → List ℕ → List ℕ
  puts [] r = r
  puts (a ∷ xs) r = put a (puts xs r)

  abbrev Many : List A × ℕ → List ℕ → List A → List ℕ → Type 0
  Many t ts xs r = Has (loop (next_one f) t) ts xs r

  many_has : (xs found : List A) (a : A) (n : ℕ) → length xs ≡ n → Is a → All xs → (r : List ℕ) → Many (found, n) (put a (puts xs r)) (found ++ a ∷ xs) r
  many_has [] found a zero count i is r = stop (a, r, s.has a i r, (refl, refl))
  many_has [] found a (suc n) count i is r = absurd (omega arith)
  many_has (b ∷ bs) found a zero count i is r = absurd (omega arith)
  many_has (b ∷ bs) found a (suc n) count i (j, is) r =
      subst (λ z. Many (found, suc n) (put a (puts (b ∷ bs) r)) z r) (append_assoc found (a ∷ []) (b ∷ bs))
      (again (a, puts (b ∷ bs) r, s.has a i (puts (b ∷ bs) r), (refl, refl)) (many_has bs (found ++ a ∷ []) b n (omega arith) j is r))

  one_more : (found : List A) (n : ℕ) (y : List A × ℕ) (ts r : List ℕ) → Has (next_one f (found, n)) ts (more y) r
      → (a : A) × (k : ℕ) × (n ≡ suc k) × Is a × (ts ≡ put a r) × ((found ++ a ∷ [], k) ≡ y)
  one_more found zero y ts r (a, m, h, (e, w)) = absurd (more_last (sym e))
  one_more found (suc k) y ts r (a, m, h, (e, w)) =
      let (i, t) = s.is ts a m h in
      (a, k, refl, i, t ∙ ap (λ z. put a z) w, more_is (found ++ a ∷ [], k) e)

  one_last : (found : List A) (n : ℕ) (xs : List A) (ts r : List ℕ) → Has (next_one f (found, n)) ts (last xs) r
      → (a : A) × (n ≡ 0) × Is a × (ts ≡ put a r) × (found ++ a ∷ [] ≡ xs)
  one_last found (suc k) xs ts r (a, m, h, (e, w)) = absurd (more_last e)
  one_last found zero xs ts r (a, m, h, (e, w)) =
      let (i, t) = s.is ts a m h in
      (a, refl, i, t ∙ ap (λ z. put a z) w, last_is (found ++ a ∷ []) e)

  AreMany : List A × ℕ → List ℕ → List A → List ℕ → Type 0
  AreMany t ts all r = (a : A) × (xs : List A) × (all ≡ t.0 ++ a ∷ xs) × (length xs ≡ t.1) × Is a × All xs × (ts ≡ put a (puts xs r))

  many_are : {t : List A × ℕ} {ts : List ℕ} {all : List A} {r : List ℕ} → Many t ts all r → AreMany t ts all r
  unfolding AreMany
  many_are (stop {x = t} {ts = ts} {r = r} {a = all} h) =
      let (a, none, i, w, same) = one_last t.0 t.1 all ts r h in
      (a, [], sym same, sym none, i, tt, w)
  many_are (again {x = t} {y = u} {ts = ts} {m = m} {r = r} {a = all} h rest) =
      let (a, k, owed, i, w, same) = one_more t.0 t.1 u ts m h in
      let (b, bs, e, count, j, js, v) = many_are rest in
      let left : k ≡ u.1 = ap (λ p. p.1) same in
      (a, b ∷ bs, e ∙ (ap (λ p. p.0 ++ b ∷ bs) (sym same) ∙ append_assoc t.0 (a ∷ []) (b ∷ bs)), omega arith, i, (j, js), w ∙ ap (λ z. put a z) v)

  -- each takes a byte
  module _ (takes : (a : A) (r : List ℕ) → Is a → length r < length (put a r)) where
    first : Completes (Has f) []
    first = (exact f s.good).alive

    many_alive : (n : ℕ) (found : List A) → Completes (Many (found, n)) []
    many_alive zero found = record { bytes = first.bytes; value = found ++ first.value ∷ []; holds = λ x. stop (first.value, x, first.holds x, (refl, refl)) }
    many_alive (suc n) found =
        let c : Completes (Many (found ++ first.value ∷ [], n)) [] = many_alive n (found ++ first.value ∷ []) in
        record {
          bytes = first.bytes ++ c.bytes;
          value = c.value;
          holds = λ x.
              subst (λ z. Many (found, suc n) z c.value x) (sym (append_assoc first.bytes c.bytes x))
              (again (first.value, c.bytes ++ x, first.holds (c.bytes ++ x), (refl, refl)) (c.holds x));
        }

    many_turns : GoodTurns (next_one f) (λ t. Unit {0})
    many_turns = record {
      keeps = λ x y ts r i h. tt;
      takes = λ x ts r v i (a, m, h, (e, w)). let (j, t) = s.is ts a m h in omega (arith, takes a m j, ap length t, ap length w);
      alive = λ t i. many_alive t.1 t.0;
    }

    times_good : (n : ℕ) → Good (times f n)
    times_good zero = tt
    times_good (suc n) = ((λ t. Unit {0}), tt, many_turns, λ y i. (s.good, λ a g. tt))

    times_has : (n : ℕ) (xs : List A) → (length xs ≡ n) × All xs → (r : List ℕ) → Has (times f n) (puts xs r) xs r
    times_has zero [] i r = (refl, refl)
    times_has zero (x ∷ xs) i r = absurd (omega (arith, i.0))
    times_has (suc n) [] i r = absurd (omega (arith, i.0))
    times_has (suc n) (x ∷ xs) i r = many_has xs [] x n (omega (arith, i.0)) i.1.0 i.1.1 r

    times_is : (n : ℕ) (ts : List ℕ) (xs : List A) (r : List ℕ) → Has (times f n) ts xs r → ((length xs ≡ n) × All xs) × (ts ≡ puts xs r)
    unfolding AreMany
    times_is zero ts xs r (e, w) = subst (λ z. ((length z ≡ 0) × All z) × (ts ≡ puts z r)) e ((refl, tt), w)
    times_is (suc n) ts xs r h =
        let (b, bs, e, count, j, js, v) = many_are h in
        subst (λ z. ((length z ≡ suc n) × All z) × (ts ≡ puts z r)) (sym e) ((ap suc count, (j, js)), v)

    -- so many of them
    pub many : (n : ℕ) → Spells (times f n) (λ xs. (length xs ≡ n) × All xs) puts
    many n = record { good = times_good n; has = times_has n; is = times_is n }
