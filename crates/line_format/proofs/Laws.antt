-- What reading tells.
use Rattle.std.proofs.Common.{◌≡◌, ℕ, zero, suc, ◌+◌, ◌<◌, ◌≤◌, List, [], ◌∷◌, ◌++◌, length, Option, Some, None, refl, sym, ap, subst, ◌∙◌, append_assoc, length-append, arith}
use Rattle.line_format.specs.tools.Format.{Next, more, last, Format, give, byte, chain, loop, Loop, again, stop, Has, Answer, done, fault, and_then, taken, read_byte, turn_on, turns, read}

abbrev pub Form : Type 0 → Type 1
Form A = List ℕ → A → List ℕ → Type 0

abbrev pub Seq : {A B : Type 0} → Form A → (A → Form B) → Form B
Seq {A} D E ts b r = (a : A) × (m : List ℕ) × D ts a m × E a m b r

-- some bytes complete it behind `before`, whatever follows
pub record Completes {A : Type 0} (D : Form A) (before : List ℕ) : Type 0 where
  pub bytes : List ℕ
  pub value : A
  pub holds : (x : List ℕ) → D (before ++ (bytes ++ x)) value x

module _ {A : Type 0} (D : Form A) (ts : List ℕ) where
  pub record Done (a : A) (r : List ℕ) : Type 0 where
    pub front : List ℕ
    pub whole : ts ≡ front ++ r
    pub derived : (x : List ℕ) → D (front ++ x) a x

  pub record Failed (n : ℕ) : Type 0 where
    pub front : List ℕ
    pub token : ℕ
    pub rest : List ℕ
    pub whole : ts ≡ front ++ token ∷ rest
    pub place : length rest ≡ n
    pub reaches : Completes D front
    pub none : (x : List ℕ) (a : A) (m : List ℕ) → D (front ++ token ∷ x) a m → ⊥

  pub record Wants : Type 0 where
    pub completes : Completes D ts
    pub none : (a : A) (m : List ℕ) → D ts a m → ⊥

  abbrev pub Judge : Answer A → Type 0
  Judge (done a r) = Done a r
  Judge (fault zero) = Wants
  Judge (fault (suc n)) = Failed n

abbrev pub Only : {A : Type 0} → Form A → Type 0
Only {A} D = (ts : List ℕ) (a b : A) (r q : List ℕ) → D ts a r → D ts b q → (a ≡ b) × (r ≡ q)

pub record Law {A : Type 0} (D : Form A) (p : List ℕ → Answer A) : Type 0 where
  pub only : Only D
  pub alive : Completes D []
  pub judge : (ts : List ℕ) → Judge D ts (p ts)

-- ---- one after another

module _ {A B : Type 0} (D : Form A) (E : A → Form B) (only : Only D) where
  module _ (ts : List ℕ) (a : A) (r : List ℕ) (d : Done D ts a r) where
    moved : (w : List ℕ) (b : B) (n : List ℕ) → Seq D E (d.front ++ w) b n → E a w b n
    moved w b n (a', m', d', e') =
        let q : (a' ≡ a) × (m' ≡ w) = only _ a' a m' w d' (d.derived w) in
        subst (λ z. E z w b n) q.0 (subst (λ z. E a' z b n) q.1 e')

    after : (before : List ℕ) → Completes (E a) before → Completes (Seq D E) (d.front ++ before)
    after before j = record {
      bytes = j.bytes;
      value = j.value;
      holds = λ x.
          let y : List ℕ = before ++ (j.bytes ++ x) in
          (a, y, subst (λ u. D u a y) (sym (append_assoc d.front before (j.bytes ++ x))) (d.derived y), j.holds x);
    }

    pub seq_done : (o : Answer B) → Judge (E a) r o → Judge (Seq D E) ts o
    seq_done (done b m) j = record {
      front = d.front ++ j.front;
      whole = d.whole ∙ (ap (λ z. d.front ++ z) j.whole ∙ sym (append_assoc d.front j.front m));
      derived = λ x. (a, j.front ++ x, subst (λ z. D z a (j.front ++ x)) (sym (append_assoc d.front j.front x)) (d.derived (j.front ++ x)), j.derived x);
    }
    seq_done (fault zero) j = record {
      completes = subst (Completes (Seq D E)) (sym d.whole) (after r j.completes);
      none = λ b m e. j.none b m (moved r b m (subst (λ z. Seq D E z b m) d.whole e));
    }
    seq_done (fault (suc n)) j = record {
      front = d.front ++ j.front;
      token = j.token;
      rest = j.rest;
      whole = d.whole ∙ (ap (λ z. d.front ++ z) j.whole ∙ sym (append_assoc d.front j.front (j.token ∷ j.rest)));
      place = j.place;
      reaches = after j.front j.reaches;
      none = λ x b m e. j.none x b m (moved (j.front ++ j.token ∷ x) b m (subst (λ z. Seq D E z b m) (append_assoc d.front j.front (j.token ∷ x)) e));
    }

  -- the first alone; what it gives is known, and so can be gone on from
  module _ (alive : (a : A) (ts r : List ℕ) → D ts a r → Completes (E a) []) where
    completes_then : (before : List ℕ) → Completes D before → Completes (Seq D E) before
    completes_then before j =
        let w : Completes (E j.value) [] = alive j.value _ _ (j.holds []) in
        record {
          bytes = j.bytes ++ w.bytes;
          value = w.value;
          holds = λ x. subst (λ u. Seq D E (before ++ u) w.value x) (sym (append_assoc j.bytes w.bytes x)) (j.value, w.bytes ++ x, j.holds (w.bytes ++ x), w.holds x);
        }

    pub seq_at : (ts : List ℕ) (o : Answer A) → Judge D ts o → (q : A → List ℕ → Answer B)
        → ((a : A) (r : List ℕ) → o ≡ done a r → Done D ts a r → Judge (E a) r (q a r)) → Judge (Seq D E) ts (and_then o q)
    seq_at ts (done a r) j q next = seq_done ts a r j (q a r) (next a r refl j)
    seq_at ts (fault zero) j q next = record {
      completes = completes_then ts j.completes;
      none = λ b m (a, v, d, e). j.none a v d;
    }
    seq_at ts (fault (suc n)) j q next = record {
      front = j.front;
      token = j.token;
      rest = j.rest;
      whole = j.whole;
      place = j.place;
      reaches = completes_then j.front j.reaches;
      none = λ x b m (a, v, d, e). j.none x a v d;
    }

    pub seq_alive : Completes D [] → Completes (Seq D E) []
    seq_alive = completes_then []

  pub seq_only : ((a : A) (ts r : List ℕ) → D ts a r → Only (E a)) → Only (Seq D E)
  seq_only each ts b c r q (a, m, d, e) (a', m', d', e') =
      let s : (a' ≡ a) × (m' ≡ m) = only ts a' a m' m d' d in
      each a ts m d m b c r q e (subst (λ z. E z m c q) s.0 (subst (λ z. E a' z c q) s.1 e'))

-- ---- the same relation, told otherwise

module _ {A : Type 0} (D E : Form A) (to : (ts : List ℕ) (a : A) (r : List ℕ) → D ts a r → E ts a r) (from : (ts : List ℕ) (a : A) (r : List ℕ) → E ts a r → D ts a r) where
  convert_completes : (before : List ℕ) → Completes D before → Completes E before
  convert_completes before j = record { bytes = j.bytes; value = j.value; holds = λ x. to _ _ _ (j.holds x) }

  pub convert : (ts : List ℕ) (o : Answer A) → Judge D ts o → Judge E ts o
  convert ts (done a r) j = record { front = j.front; whole = j.whole; derived = λ x. to _ _ _ (j.derived x) }
  convert ts (fault zero) j = record { completes = convert_completes ts j.completes; none = λ a m e. j.none a m (from _ _ _ e) }
  convert ts (fault (suc n)) j = record {
    front = j.front;
    token = j.token;
    rest = j.rest;
    whole = j.whole;
    place = j.place;
    reaches = convert_completes j.front j.reaches;
    none = λ x a m e. j.none x a m (from _ _ _ e);
  }

-- what is derived is read
pub reads_it : {A : Type 0} (D : Form A) (p : List ℕ → Answer A) → Law D p → (ts : List ℕ) (a : A) (r : List ℕ) → D ts a r → p ts ≡ done a r
reads_it {A} D p law ts a r d = by (p ts) (law.judge ts)
  where
    by : (o : Answer A) → Judge D ts o → o ≡ done a r
    by (done b m) j =
        let s : (b ≡ a) × (m ≡ r) = law.only ts b a m r (subst (λ z. D z b m) (sym j.whole) (j.derived m)) d in
        λ i. done (s.0 i) (s.1 i)
    by (fault zero) j = absurd (j.none a r d)
    by (fault (suc n)) j = absurd (j.none j.rest a r (subst (λ z. D z a r) j.whole d))
