-- What one entry more does to the lives of threads: who begins, whose entry it is, and who has ended. (Exported.)
use Rattle.std.proofs.Common.{◌≡◌, ℕ, ◌+◌, ◌*◌, ◌/◌, ◌%◌, ◌≤◌, ◌<◌, List, [], ◌∷◌, Bool, true, false, refl, arith, sym, ◌∙◌, ap, subst}
use Rattle.std.specs.Prelude.{nat_eq, nat_lt, nat_le, ◌&&◌}
use Rattle.std.proofs.lemmas.Bool.{eqb-true, eq-eqb, ne_eqb, ltb-true, leb-true, lt-ltb, le-leb}
use Rattle.dfi_base.specs.Names.{Below}
use Rattle.dfi_base.specs.Names.Below.{itself, branch}
use Rattle.dfi_base.specs.Lives.{Kind, is_start_of, own, BeginsIn, branches_after, EndedIn}
use Rattle.dfi_base.specs.Lives.EndedIn.{ended}
use Rattle.dfi_base.specs.Grown.{IsGrown, AreFew}
use Rattle.dfi_base.proofs.Names.{low_below}

first_of : (a b : Bool) → (a && b) ≡ true → a ≡ true
first_of true b h = refl
first_of false b h = h

second_of : (a b : Bool) → (a && b) ≡ true → b ≡ true
second_of true b h = h
second_of false b h = cc

-- an entry and the entries before it, by whether it starts the thread, and is the thread's
abbrev pub own_by : {E : Type 0} → E → List E → Bool → Bool → List E
own_by e rest start mine = elim start [ true ↦ [] | false ↦ elim mine [ true ↦ e ∷ rest | false ↦ rest ] ]

module _ {E S W : Type 0} (k : Kind E S W) where
  -- the thread is started by the entry
  pub record IsStarted (n : ℕ) (e : E) : Type 0 where
    pub parent : k.name_of e ≡ n / 16
    pub from : 0 < n % 16
    pub to : n % 16 ≤ k.branches_of e

  pub started_is : (n : ℕ) (e : E) → is_start_of k n e ≡ true → IsStarted n e
  started_is n e h =
      let rest = second_of (nat_eq (k.name_of e) (n / 16)) _ h in
      record {
        parent = eqb-true (k.name_of e) (n / 16) (first_of (nat_eq (k.name_of e) (n / 16)) _ h);
        from = ltb-true 0 (n % 16) (first_of (nat_lt 0 (n % 16)) _ rest);
        to = leb-true (n % 16) (k.branches_of e) (second_of (nat_lt 0 (n % 16)) _ rest);
      }

  pub is_started : (n : ℕ) (e : E) → IsStarted n e → is_start_of k n e ≡ true
  is_started n e h =
      ap (λ b. b && (nat_lt 0 (n % 16) && nat_le (n % 16) (k.branches_of e))) (eq-eqb (k.name_of e) (n / 16) h.parent)
      ∙ ap (λ b. b && nat_le (n % 16) (k.branches_of e)) (lt-ltb 0 (n % 16) h.from) ∙ le-leb (n % 16) (k.branches_of e) h.to

  pub not_started : (n : ℕ) (e : E) → (IsStarted n e → ⊥) → is_start_of k n e ≡ false
  not_started n e none = by (is_start_of k n e) refl
    where
      by : (b : Bool) → is_start_of k n e ≡ b → b ≡ false
      by true is = absurd (none (started_is n e is))
      by false is = refl

  -- nobody starts itself
  pub not_itself : (n : ℕ) (e : E) → k.name_of e ≡ n → is_start_of k n e ≡ false
  not_itself n e name = not_started n e (λ s. omega (arith, name, s.parent, s.from))

  -- an entry that starts nobody
  pub starts_none : (n : ℕ) (e : E) → k.branches_of e ≡ 0 → is_start_of k n e ≡ false
  starts_none n e none = not_started n e (λ s. omega (arith, s.from, s.to, none))

  -- branch i of a thread that starts more than i - 1
  pub starts_branch : (n i : ℕ) (e : E) → k.name_of e ≡ n → 0 < i → i ≤ k.branches_of e → i ≤ 15 → is_start_of k (16 * n + i) e ≡ true
  starts_branch n i e name low high few = is_started (16 * n + i) e (record { parent = omega (arith, name, few); from = omega (arith, low, few); to = omega (arith, high, few) })

  -- Entries of one's own.

  pub own_started : (n : ℕ) (e : E) (h : List E) → is_start_of k n e ≡ true → own k n (e ∷ h) ≡ []
  unfolding own
  own_started n e h s = ap (λ b. own_by e (own k n h) b (nat_eq (k.name_of e) n)) s

  pub own_mine : (n : ℕ) (e : E) (h : List E) → k.name_of e ≡ n → own k n (e ∷ h) ≡ e ∷ own k n h
  unfolding own
  own_mine n e h name =
      ap (λ b. own_by e (own k n h) b (nat_eq (k.name_of e) n)) (not_itself n e name)
      ∙ ap (λ b. own_by e (own k n h) false b) (eq-eqb (k.name_of e) n name)

  pub own_other : (n : ℕ) (e : E) (h : List E) → is_start_of k n e ≡ false → (k.name_of e ≡ n → ⊥) → own k n (e ∷ h) ≡ own k n h
  unfolding own
  own_other n e h s name =
      ap (λ b. own_by e (own k n h) b (nat_eq (k.name_of e) n)) s
      ∙ ap (λ b. own_by e (own k n h) false b) (ne_eqb (k.name_of e) n name)

  pub few_branches : (h : List E) → AreFew k h → (n : ℕ) → branches_after k (own k n h) ≤ 15
  unfolding AreFew own
  few_branches [] few n = omega arith
  few_branches (e ∷ h) few n = go (is_start_of k n e) (nat_eq (k.name_of e) n) (few_branches h few.1 n)
    where
      go : (start mine : Bool) → branches_after k (own k n h) ≤ 15 → branches_after k (own_by e (own k n h) start mine) ≤ 15
      go true mine old = omega arith
      go false true old = few.0
      go false false old = old

  -- Beginnings, where thread r is the first, and began as s0.

  module _ (r : ℕ) (s0 : S) where
    -- how a life began, by whether the newest entry started it
    abbrev pub begins_by : List E → ℕ → S → Bool → Type 0
    begins_by h n s start =
        elim start [
          | false ↦ BeginsIn k r s0 h n s
          | true ↦ (parent : S) × BeginsIn k r s0 h (n / 16) parent × k.Branch parent (own k (n / 16) h) n s
        ]

    pub begins_same : (e : E) (h : List E) (n : ℕ) (s : S) → is_start_of k n e ≡ false → BeginsIn k r s0 h n s → BeginsIn k r s0 (e ∷ h) n s
    unfolding BeginsIn
    begins_same e h n s none b = subst (begins_by h n s) (sym none) b

    pub begun_same : (e : E) (h : List E) (n : ℕ) (s : S) → is_start_of k n e ≡ false → BeginsIn k r s0 (e ∷ h) n s → BeginsIn k r s0 h n s
    unfolding BeginsIn
    begun_same e h n s none b = subst (begins_by h n s) none b

    pub begins_branch : (e : E) (h : List E) (n : ℕ) (s parent : S) → is_start_of k n e ≡ true → BeginsIn k r s0 h (n / 16) parent
        → k.Branch parent (own k (n / 16) h) n s → BeginsIn k r s0 (e ∷ h) n s
    unfolding BeginsIn
    begins_branch e h n s parent start b forked = subst (begins_by h n s) (sym start) (parent, b, forked)

    pub begun_branch : (e : E) (h : List E) (n : ℕ) (s : S) → is_start_of k n e ≡ true → BeginsIn k r s0 (e ∷ h) n s
        → (parent : S) × BeginsIn k r s0 h (n / 16) parent × k.Branch parent (own k (n / 16) h) n s
    unfolding BeginsIn
    begun_branch e h n s start b = subst (begins_by h n s) start b

    -- who has begun is below the first
    pub begun_below : (h : List E) (n : ℕ) (s : S) → BeginsIn k r s0 h n s → Below r n
    unfolding BeginsIn
    begun_below [] n s b = itself n b.0
    begun_below (e ∷ h) n s b = go (is_start_of k n e) refl b (begun_below h n s) (begun_below h (n / 16))
      where
        go : (t : Bool) → is_start_of k n e ≡ t → begins_by h n s t → (BeginsIn k r s0 h n s → Below r n)
            → ((p : S) → BeginsIn k r s0 h (n / 16) p → Below r (n / 16)) → Below r n
        go false is b same up = same b
        go true is b same up = branch n (started_is n e is).from (up b.0 b.1)

    -- no thread has the name 0, where the first has not
    pub never_zero : 0 < r → (h : List E) (s : S) → BeginsIn k r s0 h 0 s → ⊥
    never_zero some h s b = let low = low_below r 0 (begun_below h 0 s b) in omega (arith, low, some)

    -- the first thread is never started again
    pub first_begins : (Fits : List E → W → E → Type 0) (h : List E) → IsGrown k Fits r s0 h → BeginsIn k r s0 h r s0
    unfolding IsGrown BeginsIn
    first_begins Fits [] grown = (refl, refl)
    first_begins Fits (e ∷ h) grown =
        let low = low_below r (k.name_of e) (begun_below h (k.name_of e) grown.0.start grown.0.next.begins) in
        begins_same e h r s0 (not_started r e (λ s. omega (arith, low, s.parent, s.from))) (first_begins Fits h grown.1)

    -- who has ended stays so, where the entry is that of a thread that has not, and does not start it anew
    pub ended_same : (e : E) (h : List E) → (EndedIn k r s0 h (k.name_of e) → ⊥) → ((i : ℕ) → branches_after k (own k i h) ≤ 15) → (n : ℕ)
        → is_start_of k n e ≡ false → EndedIn k r s0 h n → EndedIn k r s0 (e ∷ h) n
    ended_same e h lives few n none (ended i s begins stops joined) =
        let other : k.name_of e ≡ i → ⊥ = λ q. lives (subst (EndedIn k r s0 h) (sym q) (ended i s begins stops joined)) in
        let same = own_other i e h none other in
        ended i s (begins_same e h i s none begins) (subst (k.Stops s) (sym same) stops)
        (λ x low high.
        (let within : x ≤ branches_after k (own k i h) = omega (arith, high, ap (λ o. branches_after k o) same) in
        let most = few i in
        ended_same e h lives few (16 * i + x) (not_started (16 * i + x) e (λ q. other (omega (arith, q.parent, within, most, low)))) (joined x low within)))
