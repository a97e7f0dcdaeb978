-- The small parsers, and a form in other words.
use Rattle.std.proofs.Common.{◌≡◌, ℕ, suc, Bool, true, false, if◌then◌else◌, Option, Some, None, List, [], ◌∷◌, ◌++◌, length, refl, sym, ap, subst, ◌∙◌, arith}
use Rattle.parse_law.specs.tools.Parsing.{unexpected, done, fault, Parser, ◌>>=◌, ◌>>◌, ◌<$>◌, pure, expect, accept, accept_by, finish}
use Rattle.parse_law.specs.Nesting.{May}
use Rattle.parse_law.proofs.Forms.{Form, Follow, Fits, Completes, Judge, Law}
use Rattle.parse_law.proofs.Bind.{Seq, bind}
use Rattle.parse_law.proofs.Carry.{carried}

abbrev pub Any : {T A : Type 0} → Follow T A
Any a t = Unit {0}

abbrev pub Nothing : {T A : Type 0} → Follow T A
Nothing a t = ⊥

pub fits_any : {T A : Type 0} (a : A) (ts : List T) → Fits (Any a) ts
fits_any a [] = tt
fits_any a (t ∷ ts) = tt

-- ---- the same form in other words, with fewer tokens behind it

pub convert : {T A : Type 0} (limit : ℕ) (p : Parser T A) (D : Form T A) (S : Follow T A) (D' : Form T A) (S' : Follow T A)
    → ((M : May T) (ts : List T) (a : A) (r : List T) → D M ts a r → D' M ts a r)
    → ((M : May T) (ts : List T) (a : A) (r : List T) → D' M ts a r → Fits (S' a) r → D M ts a r)
    → ((a : A) (t : T) → S' a t → S a t) → Law limit p D S → Law limit p D' S'
convert limit p D S D' S' to back fewer law = record {
  at = λ ts.
      carried limit p p D' D S' S [] (λ w. Unit {0}) (λ w r x a on al. tt) (λ w t r x on. tt) (λ w x on. tt)
      (λ M l w on a r d. to M w a r d) (λ M w on a r d h. back M w a r d h) (λ w on. refl) fewer ts tt (law.at ts);
}

-- ---- nothing, the end, a token

abbrev pub Pure : {T A : Type 0} → A → Form T A
Pure a M ts b r = (a ≡ b) × (ts ≡ r)

pub pure_law : {T A : Type 0} (limit : ℕ) (a : A) (S : Follow T A) → Law limit (pure a) (Pure a) S
pure_law limit a S = record {
  at = λ ts. record {
    front = [];
    whole = refl;
    stays = λ x al. refl;
    derived = λ x al M l. (refl, refl);
    only = λ x al M b m d h. d;
  };
}

abbrev pub End : {T : Type 0} → Form T (Unit {0})
End M ts u r = (ts ≡ []) × (r ≡ [])

pub nil_cons {ℓ} : {P : Type ℓ} {T : Type 0} {t : T} {ts : List T} → ◌≡◌ {A = List T} [] (t ∷ ts) → P
nil_cons e = absurd (cc)

pub cons_nil {ℓ} : {P : Type ℓ} {T : Type 0} {t : T} {ts : List T} → ◌≡◌ {A = List T} (t ∷ ts) [] → P
cons_nil e = absurd (cc)

pub head_is : {T : Type 0} {t u : T} {ts us : List T} → ◌≡◌ {A = List T} (t ∷ ts) (u ∷ us) → t ≡ u
head_is e = cc

pub tail_is : {T : Type 0} {t u : T} {ts us : List T} → ◌≡◌ {A = List T} (t ∷ ts) (u ∷ us) → ts ≡ us
tail_is e = cc

pub false_true {ℓ} : {P : Type ℓ} → false ≡ true → P
false_true e = absurd (cc)

pub none_some {ℓ} : {P : Type ℓ} {A : Type 0} {a : A} → ◌≡◌ {A = Option A} None (Some a) → P
none_some e = absurd (cc)

pub some_is : {A : Type 0} {a b : A} → ◌≡◌ {A = Option A} (Some a) (Some b) → a ≡ b
some_is e = cc

pub at_end : {T : Type 0} (x : List T) → Fits (λ t. ⊥) x → x ≡ []
at_end [] h = refl
at_end (t ∷ x) h = absurd h

pub finish_law : {T : Type 0} (limit : ℕ) → Law {T = T} limit finish End Nothing
unfolding finish
finish_law {T} limit = record { at = finish_at }
  where
    finish_at : (ts : List T) → Judge limit finish End Nothing ts (finish ts)
    finish_at [] = record {
      front = [];
      whole = refl;
      stays = λ x al. ap finish (at_end x al) ∙ ap (done tt) (sym (at_end x al));
      derived = λ x al M l. (at_end x al, at_end x al);
      only = λ x al M b m d h. (refl, at_end x al ∙ sym d.1);
    }
    finish_at (t ∷ ts) = record {
      at = record { front = []; token = t; rest = ts; whole = refl; place = refl };
      stays = λ x. refl;
      none = λ x M b c m d h. cons_nil d.0;
      reaches = tt;
    }

-- a token that has a value
abbrev pub Token : {T A : Type 0} → (T → Option A) → Form T A
Token {T} value M ts a r = (t : T) × (ts ≡ t ∷ r) × (value t ≡ Some a)

module _ {T A : Type 0} (limit : ℕ) (value : T → Option A) (S : Follow T A) (t₀ : T) (a₀ : A) (has : value t₀ ≡ Some a₀) where
  accept_head : (t : T) (ts : List T) (o : Option A) → value t ≡ o → Judge limit (accept value) (Token value) S (t ∷ ts) (accept_by ts o)
  unfolding accept
  accept_head t ts None e = record {
    at = record { front = []; token = t; rest = ts; whole = refl; place = refl };
    stays = λ x. ap (accept_by x) e;
    none = λ x M b c m (u, f, g) h. none_some (sym e ∙ (ap value (head_is f) ∙ g));
    reaches = tt;
  }
  accept_head t ts (Some a) e = record {
    front = t ∷ [];
    whole = refl;
    stays = λ x al. ap (accept_by x) e;
    derived = λ x al M l. (t, refl, e);
    only = λ x al M b m (u, f, g) h. (some_is (sym e ∙ (ap value (head_is f) ∙ g)), tail_is f);
  }

  pub token_completes : Completes limit (Token value) S [] []
  token_completes = record { tokens = t₀ ∷ []; value = a₀; holds = λ M l r free h. (t₀, refl, has) }

  accept_at : (ts : List T) → Judge limit (accept value) (Token value) S ts (accept value ts)
  unfolding accept
  accept_at [] = record { completes = token_completes; none = λ M b m (u, f, g) h. nil_cons f }
  accept_at (t ∷ ts) = accept_head t ts (value t) refl

  pub accept_law : Law limit (accept value) (Token value) S
  accept_law = record { at = accept_at }

-- the token k
abbrev pub Mark : {T : Type 0} → T → Form T (Unit {0})
Mark k M ts u r = ts ≡ k ∷ r

-- the test holds of k alone
abbrev pub IsTestOf : {T : Type 0} → T → (T → Bool) → Type 0
IsTestOf {T} k test = (test k ≡ true) × ((t : T) → test t ≡ true → t ≡ k)

module _ {T : Type 0} (limit : ℕ) (k : T) (test : T → Bool) (is : IsTestOf k test) (S : Follow T (Unit {0})) where
  expect_head : (t : T) (ts : List T) (b : Bool) → test t ≡ b
      → Judge limit (expect test) (Mark k) S (t ∷ ts) (if b then done tt ts else fault unexpected (suc (length ts)))
  unfolding expect
  expect_head t ts true e = record {
    front = t ∷ [];
    whole = refl;
    stays = λ x al. ap (λ b. if b then done tt x else fault unexpected (suc (length x))) e;
    derived = λ x al M l. ap (λ z. z ∷ x) (is.1 t e);
    only = λ x al M b m d h. (refl, tail_is d);
  }
  expect_head t ts false e = record {
    at = record { front = []; token = t; rest = ts; whole = refl; place = refl };
    stays = λ x. ap (λ b. if b then done tt x else fault unexpected (suc (length x))) e;
    none = λ x M b c m d h. false_true (sym e ∙ (ap test (head_is d) ∙ is.0));
    reaches = tt;
  }

  expect_at : (ts : List T) → Judge limit (expect test) (Mark k) S ts (expect test ts)
  unfolding expect
  expect_at [] = record {
    completes = record { tokens = k ∷ []; value = tt; holds = λ M l r free h. refl };
    none = λ M b m d h. nil_cons d;
  }
  expect_at (t ∷ ts) = expect_head t ts (test t) refl

  pub expect_law : Law limit (expect test) (Mark k) S
  expect_law = record { at = expect_at }

-- ---- a value made of the one that was read; a form before a mark, and behind one

abbrev pub Map : {T A B : Type 0} → (A → B) → Form T A → Form T B
Map {T} {A} g D M ts b r = (a : A) × (g a ≡ b) × D M ts a r

abbrev pub Before : {T A : Type 0} → Form T A → T → Form T A
Before D k M ts a r = D M ts a (k ∷ r)

abbrev pub Behind : {T A : Type 0} → T → Form T A → Form T A
Behind {T} k D M ts a r = (m : List T) × (ts ≡ k ∷ m) × D M m a r

pub map_law : {T A B : Type 0} (limit : ℕ) (g : A → B) (p : Parser T A) (D : Form T A) (F : Follow T B) → Law limit p D (λ a. F (g a))
    → Law limit (g <$> p) (Map g D) F
map_law limit g p D F law =
    convert limit (g <$> p) (Seq D (λ a. Pure (g a))) F (Map g D) F
    (λ M ts b r (a, m, d, e). (a, e.0, subst (λ z. D M ts a z) e.1 d))
    (λ M ts b r (a, e, d) h. (a, r, d, (e, refl)))
    (λ a t h. h)
    (bind limit p D (λ a. F (g a)) (λ a. pure (g a)) (λ a. Pure (g a)) F (λ a M m b r e h. subst (Fits (F (g a))) (sym e.1) (subst (λ z. Fits (F z) r) (sym e.0) h))
    (λ a. record { tokens = []; value = g a; holds = λ M l r free h. (refl, refl) }) law (λ a. pure_law limit (g a) F))

-- a mark, and then the form
pub behind_law : {T A : Type 0} (limit : ℕ) (k : T) (test : T → Bool) → IsTestOf k test → (q : Parser T A) (E : Form T A) (F : Follow T A)
    → Completes limit E F [] []
    → Law limit q E F → Law limit (expect test >> q) (Behind k E) F
behind_law limit k test is q E F whole law =
    convert limit (expect test >> q) (Seq (Mark k) (λ u. E)) F (Behind k E) F
    (λ M ts a r (u, m, e, d). (m, e, d)) (λ M ts a r (m, e, d) h. (tt, m, e, d)) (λ a t h. h)
    (bind limit (expect test) (Mark k) Any (λ u. q) (λ u. E) F (λ u M m b r e h. fits_any u m) (λ u. whole) (expect_law limit k test is Any) (λ u. law))

-- a form up to a mark, and what comes behind that
pub before_bind : {T A B : Type 0} (limit : ℕ) (p : Parser T A) (D : Form T A) (S : Follow T A) (k : T) (test : T → Bool) → IsTestOf k test → ((a : A) → S a k)
    → (f : A → Parser T B) (E : A → Form T B) (F : Follow T B) → ((a : A) → Completes limit (E a) F [] [])
    → Law limit p D S → ((a : A) → Law limit (f a) (E a) F) → Law limit (p >>= (λ a. expect test >> f a)) (Seq (Before D k) E) F
before_bind limit p D S k test is follows f E F whole law g =
    convert limit (p >>= (λ a. expect test >> f a)) (Seq D (λ a. Behind k (E a))) F (Seq (Before D k) E) F
    (λ M ts b r (a, m, d, (n, e, d')). (a, n, subst (λ z. D M ts a z) e d, d'))
    (λ M ts b r (a, n, d, d') h. (a, k ∷ n, d, (n, refl, d')))
    (λ a t h. h)
    (bind limit p D S (λ a. expect test >> f a) (λ a. Behind k (E a)) F (λ a M m b r (n, e, d) h. subst (Fits (S a)) (sym e) (follows a))
    (λ a. let w : Completes limit (E a) F [] [] = whole a in
    record { tokens = k ∷ w.tokens; value = w.value; holds = λ M l r free h. (w.tokens ++ r, refl, w.holds M l r (λ c us i. free c us (omega arith)) h) })
    law (λ a. behind_law limit k test is (f a) (E a) F (whole a) (g a)))

-- and nothing more
pub before_law : {T A B : Type 0} (limit : ℕ) (g : A → B) (p : Parser T A) (D : Form T A) (S : Follow T A) (k : T) (test : T → Bool) → IsTestOf k test
    → ((a : A) → S a k) → (F : Follow T B)
    → Law limit p D S → Law limit (p >>= (λ a. expect test >> pure (g a))) (Map g (Before D k)) F
before_law limit g p D S k test is follows F law =
    convert limit (p >>= (λ a. expect test >> pure (g a))) (Seq (Before D k) (λ a. Pure (g a))) F (Map g (Before D k)) F
    (λ M ts b r (a, m, d, e). (a, e.0, subst (λ z. D M ts a (k ∷ z)) e.1 d))
    (λ M ts b r (a, e, d) h. (a, r, d, (e, refl)))
    (λ a t h. h)
    (before_bind limit p D S k test is follows (λ a. pure (g a)) (λ a. Pure (g a)) F
    (λ a. record { tokens = []; value = g a; holds = λ M l r free h. (refl, refl) }) law (λ a. pure_law limit (g a) F))
