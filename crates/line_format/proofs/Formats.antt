-- Each good format is read exactly.
use Rattle.std.proofs.Common.{◌≡◌, ℕ, zero, suc, ◌+◌, ◌<◌, ◌≤◌, List, [], ◌∷◌, ◌++◌, length, Option, Some, None, refl, sym, ap, subst, ◌∙◌, append_assoc, length-append, arith}
use Rattle.line_format.specs.tools.Format.{Next, more, last, Format, give, byte, chain, loop, Loop, again, stop, Has, Answer, done, fault, and_then, taken, read_byte, turn_on, turns, read}
use Rattle.line_format.proofs.Laws.{Form, Seq, Completes, Done, Failed, Wants, Judge, Only, Law, seq_done, seq_at, seq_alive, seq_only, convert}

pub some_is : {A : Type 0} {a b : A} → Some a ≡ Some b → a ≡ b
some_is {a = a} e = ap (λ o. elim o as (λ p. _) [ Some x ↦ x | None ↦ a ]) e

pub none_some : {A : Type 0} {a : A} {B : Type 0} → None ≡ Some a → B
none_some e = absurd (subst (λ o. elim o as (λ p. Type 0) [ Some x ↦ ⊥ | None ↦ Unit {0} ]) e tt)

-- ---- one byte

module _ {A : Type 0} (value : ℕ → Option A) where
  abbrev pub Byte : Form A
  Byte ts a r = (c : ℕ) × (ts ≡ c ∷ r) × (value c ≡ Some a)

  head_is : {b c : ℕ} {r q : List ℕ} → b ∷ r ≡ c ∷ q → b ≡ c
  head_is {b = b} e = ap (λ l. elim l as (λ p. ℕ) [ [] ↦ b | x ∷ xs ↦ x ]) e

  tail_is : {b c : ℕ} {r q : List ℕ} → b ∷ r ≡ c ∷ q → r ≡ q
  tail_is e = ap (λ l. elim l as (λ p. List ℕ) [ [] ↦ [] | x ∷ xs ↦ xs ]) e

  nil_cons : {B : Type 0} {c : ℕ} {q : List ℕ} → [] ≡ c ∷ q → B
  nil_cons e = absurd (subst (λ l. elim l as (λ p. Type 0) [ [] ↦ Unit {0} | x ∷ xs ↦ ⊥ ]) e tt)

  byte_only : Only Byte
  byte_only ts a b r q (c, e, v) (d, f, w) =
      let same = sym e ∙ f in
      (some_is (sym v ∙ (ap value (head_is same) ∙ w)), tail_is same)

  module _ (b : ℕ) (a : A) (v : value b ≡ Some a) where
    byte_completes : Completes Byte []
    byte_completes = record { bytes = b ∷ []; value = a; holds = λ x. (b, refl, v) }

    byte_judge_by : (c : ℕ) (bs : List ℕ) (o : Option A) → value c ≡ o → Judge Byte (c ∷ bs) (taken (suc (length bs)) o bs)
    byte_judge_by c bs (Some d) e = record { front = c ∷ []; whole = refl; derived = λ x. (c, refl, e) }
    byte_judge_by c bs None e = record {
      front = [];
      token = c;
      rest = bs;
      whole = refl;
      place = refl;
      reaches = byte_completes;
      none = λ x d m (c', f, w). none_some (sym e ∙ (ap value (head_is f) ∙ w));
    }

    byte_judge : (ts : List ℕ) → Judge Byte ts (read_byte value ts)
    unfolding read_byte
    byte_judge [] = record { completes = byte_completes; none = λ d m (c, e, w). nil_cons e }
    byte_judge (c ∷ bs) = byte_judge_by c bs (value c) refl

-- ---- turns

pub more_last : {X A : Type 0} {x : X} {a : A} → more x ≡ last a → ⊥
more_last e = subst (λ v. elim v as (λ p. Type 0) [ more x ↦ Unit {0} | last a ↦ ⊥ ]) e tt

pub last_is : {X A : Type 0} (a : A) {b : A} → ◌≡◌ {A = Next X A} (last a) (last b) → a ≡ b
last_is {X} {A} a e = ap (λ v. elim v as (λ p. A) [ more x ↦ a | last c ↦ c ]) e

module _ {X A : Type 0} (R : X → Form (Next X A)) where
  abbrev Onward : Next X A → Form A
  Onward (more y) ts b r = Loop R y ts b r
  Onward (last a) ts b r = (a ≡ b) × (ts ≡ r)

  loop_to : (x : X) (ts : List ℕ) (a : A) (r : List ℕ) → Seq (R x) Onward ts a r → Loop R x ts a r
  loop_to x ts a r (more y, m, d, e) = again d e
  loop_to x ts a r (last b, m, d, (e, f)) = stop (subst (λ z. R x ts (last a) z) f (subst (λ z. R x ts (last z) m) e d))

  loop_from : (x : X) (ts : List ℕ) (a : A) (r : List ℕ) → Loop R x ts a r → Seq (R x) Onward ts a r
  loop_from x ts a r (again {y = y} {m = m} d e) = (more y, m, d, e)
  loop_from x ts a r (stop d) = (last a, r, d, (refl, refl))

  loop_to_completes : (x : X) (before : List ℕ) → Completes (Seq (R x) Onward) before → Completes (Loop R x) before
  loop_to_completes x before j = record { bytes = j.bytes; value = j.value; holds = λ y. loop_to x _ _ _ (j.holds y) }

  module _ (step : X → List ℕ → Answer (Next X A)) (I : X → Type 0)
      (known : (x : X) → I x → Law (R x) (step x))
      (keeps : (x y : X) (ts r : List ℕ) → I x → R x ts (more y) r → I y)
      (takes : (x : X) (ts r : List ℕ) (v : Next X A) → I x → R x ts v r → length r < length ts)
      (alive : (x : X) → I x → Completes (Loop R x) []) where
    onward_alive : (x : X) → I x → (v : Next X A) (ts r : List ℕ) → R x ts v r → Completes (Onward v) []
    onward_alive x i (more y) ts r d = alive y (keeps x y ts r i d)
    onward_alive x i (last a) ts r d = record { bytes = []; value = a; holds = λ z. (refl, refl) }

    next_judge : (n : ℕ) → ((y : X) (r : List ℕ) → I y → length r < n → Judge (Loop R y) r (turns step n y r)) → (x : X) (ts : List ℕ) → I x → length ts < suc n
        → (v : Next X A) (r : List ℕ) → Done (R x) ts v r → Judge (Onward v) r (turn_on (λ y m. turns step n y m) v r)
    next_judge n go x ts i h (more y) r d =
        let here : R x ts (more y) r = subst (λ z. R x z (more y) r) (sym d.whole) (d.derived r) in
        let less : length r < length ts = takes x ts r (more y) i here in
        go y r (keeps x y ts r i here) (omega arith)
    next_judge n go x ts i h (last a) r d = record { front = []; whole = refl; derived = λ z. (refl, refl) }

    loop_judge : (n : ℕ) (x : X) (ts : List ℕ) → I x → length ts < n → Judge (Loop R x) ts (turns step n x ts)
    unfolding turns
    loop_judge zero x ts i h = absurd (omega arith)
    loop_judge (suc n) x ts i h =
        convert (Seq (R x) Onward) (Loop R x) (loop_to x) (loop_from x) ts (and_then (step x ts) (turn_on (λ y r. turns step n y r)))
        (seq_at (R x) Onward (known x i).only (onward_alive x i) ts (step x ts) ((known x i).judge ts) (turn_on (λ y r. turns step n y r))
        (λ v r e d. next_judge n (λ y m. loop_judge n y m) x ts i h v r d))

    after_more : (x y : X) (ts m : List ℕ) → I x → R x ts (more y) m → (a b : A) (r q : List ℕ) → ((b : A) (q : List ℕ) → Loop R y m b q → (a ≡ b) × (r ≡ q))
        → Seq (R x) Onward ts b q → (a ≡ b) × (r ≡ q)
    after_more x y ts m i d a b r q go (more z, n, g, h) =
        let s = (known x i).only ts (more z) (more y) n m g d in
        go b q (subst (λ u. Onward u m b q) s.0 (subst (λ u. Loop R z u b q) s.1 h))
    after_more x y ts m i d a b r q go (last c, n, g, h) = absurd (more_last ((known x i).only ts (more y) (last c) m n d g).0)

    after_last : (x : X) (ts r : List ℕ) (a : A) → I x → R x ts (last a) r → (b : A) (q : List ℕ) → Seq (R x) Onward ts b q → (a ≡ b) × (r ≡ q)
    after_last x ts r a i d b q (more z, n, g, h) = absurd (more_last (sym ((known x i).only ts (last a) (more z) r n d g).0))
    after_last x ts r a i d b q (last c, n, g, h) =
        let s = (known x i).only ts (last a) (last c) r n d g in
        (last_is a s.0 ∙ h.0, s.1 ∙ h.1)

    loop_only : (x : X) → I x → (ts : List ℕ) (a b : A) (r q : List ℕ) → Loop R x ts a r → Loop R x ts b q → (a ≡ b) × (r ≡ q)
    loop_only x i ts a b r q (again {y = y} {m = m} d e) f =
        after_more x y ts m i d a b r q (λ c p g. loop_only y (keeps x y ts m i d) m a c r p e g) (loop_from x ts b q f)
    loop_only x i ts a b r q (stop d) f = after_last x ts r a i d b q (loop_from x ts b q f)

    pub loop_law : (x : X) → I x → Law (Loop R x) (λ ts. turns step (suc (length ts)) x ts)
    loop_law x i = record { only = loop_only x i; alive = alive x i; judge = λ ts. loop_judge (suc (length ts)) x ts i (omega arith) }

-- ---- all formats

abbrev pub Gives : {A : Type 0} → Format A → A → Type 0
Gives f a = (ts : List ℕ) × (r : List ℕ) × Has f ts a r

pub record GoodTurns {X A : Type 0} (step : X → Format (Next X A)) (I : X → Type 0) : Type 0 where
  pub keeps : (x y : X) (ts r : List ℕ) → I x → Has (step x) ts (more y) r → I y
  pub takes : (x : X) (ts r : List ℕ) (v : Next X A) → I x → Has (step x) ts v r → length r < length ts
  pub alive : (x : X) → I x → Completes (Has (loop step x)) []

-- each choice that it offers leaves some way to its end
abbrev pub Good : {A : Type 0} → Format A → Type 1
Good (give a) = Unit {1}
Good (byte {A = A} value) = (b : ℕ) × (a : A) × (value b ≡ Some a) × Unit {1}
Good (chain {A = A} f g) = Good f × ((a : A) → Gives f a → Good (g a))
Good (loop {X = X} step x) = (I : X → Type 0) × I x × GoodTurns step I × ((y : X) → I y → Good (step y))

pub exact : {A : Type 0} (f : Format A) → Good f → Law (Has f) (read f)
exact (give a) g = record {
  only = λ ts b c r q d e. (sym d.0 ∙ e.0, sym d.1 ∙ e.1);
  alive = record { bytes = []; value = a; holds = λ x. (refl, refl) };
  judge = λ ts. record { front = []; whole = refl; derived = λ x. (refl, refl) };
}
exact (byte value) (b, a, e, u) = record { only = byte_only value; alive = byte_completes value b a e; judge = byte_judge value b a e }
exact (chain f g) (h, k) =
    let first = exact f h in
    record {
      only = seq_only (Has f) (λ a. Has (g a)) first.only (λ a ts r d. (exact (g a) (k a (ts, r, d))).only);
      alive = seq_alive (Has f) (λ a. Has (g a)) first.only (λ a ts r d. (exact (g a) (k a (ts, r, d))).alive) first.alive;
      judge = λ ts. seq_at (Has f) (λ a. Has (g a)) first.only (λ a us r d. (exact (g a) (k a (us, r, d))).alive) ts (read f ts) (first.judge ts)
          (λ a r. read (g a) r) (λ a r e d. (exact (g a) (k a (d.front ++ r, r, d.derived r))).judge r);
    }
exact (loop step x) (I, i, t, k) =
    loop_law (λ y. Has (step y)) (λ y r. read (step y) r) I (λ y j. exact (step y) (k y j)) t.keeps t.takes t.alive x i
