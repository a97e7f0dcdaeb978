-- Alternatives by the next token.
use Rattle.std.proofs.Common.{◌≡◌, ℕ, zero, suc, ◌<◌, ◌≤◌, nat_lt, Bool, true, false, if◌then◌else◌, List, [], ◌∷◌, ◌++◌, length, refl, sym, ap, subst, ◌∙◌, arith}
use Rattle.std.proofs.lemmas.Bool.{ltb-true, ltb-false}
use Rattle.parse_law.specs.tools.Parsing.{Fault, unexpected, deep, Answer, done, fault, Parser, level, peek, rising, refuse}
use Rattle.parse_law.specs.Nesting.{May, Anywhere, Within}
use Rattle.parse_law.proofs.Forms.{Form, Follow, Fits, Alike, Lenient, Completes, Barred, Done, Failed, Wants, Judge, Law}
use Rattle.parse_law.proofs.Bind.{alike_self}
use Rattle.parse_law.proofs.Carry.{carried}
use Rattle.parse_law.proofs.Steps.{nil_cons, head_is, false_true}

-- ---- behind the token t the parser q takes over

pub taken : {T : Type 0} (limit : ℕ) {A : Type 0} (p q : Parser T A) (D D' : Form T A) (S : Follow T A) (t : T)
    → ((M : May T) (ts : List T) (a : A) (r : List T) → D' M ts a r → D M (t ∷ ts) a r)
    → ((M : May T) (ts : List T) (a : A) (r : List T) → D M (t ∷ ts) a r → Fits (S a) r → D' M ts a r)
    → ((ts : List T) → q ts ≡ p (t ∷ ts)) → Law limit q D' S → (ts : List T) → Judge limit p D S (t ∷ ts) (p (t ∷ ts))
taken limit p q D D' S t to back goes law ts =
    carried limit p q D D' S S (t ∷ []) (λ w. Unit {0}) (λ w r x a on al. tt) (λ w u r x on. tt) (λ w x on. tt)
    (λ M l w on a r d. to M w a r d) (λ M w on a r d h. back M w a r d h) (λ w on. goes w) (λ a u h. h) ts tt (law.at ts)

-- ---- at the token t the parser q takes over

abbrev Begins : {T : Type 0} → T → List T → Type 0
Begins {T} t w = (y : List T) × (w ≡ t ∷ y)

-- what is alike begins alike
begins_done : {T : Type 0} (S : T → Type 0) (t : T) (w r x : List T) → Begins t (w ++ r) → Alike S r x → Begins t (w ++ x)
begins_done S t (v ∷ w) r x (y, e) al = (w ++ x, ap (λ z. z ∷ (w ++ x)) (head_is e))
begins_done S t [] [] x (y, e) al = nil_cons e
begins_done S t [] (u ∷ r) [] (y, e) al = absurd al
begins_done S t [] (u ∷ r) (v ∷ x) (y, e) al = (x, ap (λ z. z ∷ x) (sym al ∙ head_is e))

begins_fault : {T : Type 0} (t : T) (w : List T) (u : T) (r x : List T) → Begins t (w ++ u ∷ r) → Begins t (w ++ u ∷ x)
begins_fault t (v ∷ w) u r x (y, e) = (w ++ u ∷ x, ap (λ z. z ∷ (w ++ u ∷ x)) (head_is e))
begins_fault t [] u r x (y, e) = (x, ap (λ z. z ∷ x) (head_is e))

begins_more : {T : Type 0} (t : T) (w x : List T) → Begins t w → Begins t (w ++ x)
begins_more t w x (y, e) = (y ++ x, ap (λ z. z ++ x) e)

pub kept_at : {T : Type 0} (limit : ℕ) {A : Type 0} (p q : Parser T A) (D D' : Form T A) (S : Follow T A) (t : T)
    → ((M : May T) → Lenient limit M → (ts : List T) (a : A) (r : List T) → D' M (t ∷ ts) a r → D M (t ∷ ts) a r)
    → ((M : May T) (ts : List T) (a : A) (r : List T) → D M (t ∷ ts) a r → Fits (S a) r → D' M (t ∷ ts) a r)
    → ((ts : List T) → q (t ∷ ts) ≡ p (t ∷ ts)) → (ts : List T) → Judge limit q D' S (t ∷ ts) (q (t ∷ ts)) → Judge limit p D S (t ∷ ts) (p (t ∷ ts))
kept_at limit p q D D' S t to back goes ts j =
    carried limit p q D D' S S [] (Begins t) (λ w r x a on al. begins_done (S a) t w r x on al) (begins_fault t) (begins_more t)
    (λ M l w (y, e) a r d. subst (λ z. D M z a r) (sym e) (to M l y a r (subst (λ z. D' M z a r) e d)))
    (λ M w (y, e) a r d h. subst (λ z. D' M z a r) (sym e) (back M y a r (subst (λ z. D M z a r) e d) h))
    (λ w (y, e). ap q e ∙ (goes y ∙ ap p (sym e))) (λ a u h. h) (t ∷ ts) (ts, refl) j

pub kept : {T : Type 0} (limit : ℕ) {A : Type 0} (p q : Parser T A) (D D' : Form T A) (S : Follow T A) (t : T)
    → ((M : May T) (ts : List T) (a : A) (r : List T) → D' M (t ∷ ts) a r → D M (t ∷ ts) a r)
    → ((M : May T) (ts : List T) (a : A) (r : List T) → D M (t ∷ ts) a r → Fits (S a) r → D' M (t ∷ ts) a r)
    → ((ts : List T) → q (t ∷ ts) ≡ p (t ∷ ts)) → Law limit q D' S → (ts : List T) → Judge limit p D S (t ∷ ts) (p (t ∷ ts))
kept limit p q D D' S t to back goes law ts = kept_at limit p q D D' S t (λ M l. to M) back goes ts (law.at (t ∷ ts))

-- ---- nothing begins with the token t

pub refused : {T : Type 0} (limit : ℕ) {A : Type 0} (p : Parser T A) (D : Form T A) (S : Follow T A) (t : T)
    → ((ts : List T) → fault unexpected (suc (length ts)) ≡ p (t ∷ ts))
    → ((M : May T) (ts : List T) (b : A) (m : List T) → D M (t ∷ ts) b m → Fits (S b) m → ⊥)
    → (ts : List T) → Judge limit p D S (t ∷ ts) (p (t ∷ ts))
refused limit p D S t goes none ts =
    let j : Failed limit p D S (t ∷ ts) unexpected (length ts) = record {
      at = record { front = []; token = t; rest = ts; whole = refl; place = refl };
      stays = λ x. sym (goes x);
      none = λ x M b c m d h. none M x c m d h;
      reaches = tt;
    } in
    subst (Judge limit p D S (t ∷ ts)) (goes ts) j

-- such a test holds of the first token of the form
abbrev pub Starts : {T A : Type 0} → (T → Bool) → Form T A → Type 1
Starts {T} {A} begins D = (M : May T) (ts : List T) (a : A) (r : List T) → D M ts a r → (t : T) × (us : List T) × (ts ≡ t ∷ us) × (begins t ≡ true)

pub not_started : {T A : Type 0} (begins : T → Bool) (D : Form T A) → Starts begins D → (t : T) → begins t ≡ false
    → (M : May T) (ts : List T) (a : A) (r : List T) → D M (t ∷ ts) a r → ⊥
not_started begins D starts t e M ts a r d = let (u, us, f, g) = starts M (t ∷ ts) a r d in false_true (sym e ∙ (ap begins (head_is f) ∙ g))

pub not_empty : {T A : Type 0} (begins : T → Bool) (D : Form T A) → Starts begins D → (M : May T) (a : A) (r : List T) → D M [] a r → ⊥
not_empty begins D starts M a r d = let (u, us, f, g) = starts M [] a r d in nil_cons f

-- ---- the form is empty before the token t

pub stopped : {T : Type 0} (limit : ℕ) {A : Type 0} (p : Parser T A) (D : Form T A) (S : Follow T A) (t : T) (a : A)
    → ((ts : List T) → done a (t ∷ ts) ≡ p (t ∷ ts))
    → ((M : May T) (ts : List T) → D M (t ∷ ts) a (t ∷ ts))
    → ((M : May T) (ts : List T) (b : A) (m : List T) → D M (t ∷ ts) b m → Fits (S b) m → (a ≡ b) × ((t ∷ ts) ≡ m))
    → (ts : List T) → Judge limit p D S (t ∷ ts) (p (t ∷ ts))
stopped {T} limit p D S t a goes derived only ts =
    let begins : (x : List T) → Alike (S a) (t ∷ ts) x → Begins t x = λ x al. begins_done (S a) t [] (t ∷ ts) x (ts, refl) al in
    let j : Done limit p D S (t ∷ ts) a (t ∷ ts) = record {
      front = [];
      whole = refl;
      stays = λ x al. let b = begins x al in ap p b.1 ∙ (sym (goes b.0) ∙ ap (done a) (sym b.1));
      derived = λ x al M l. let b = begins x al in subst (λ z. D M z a z) (sym b.1) (derived M b.0);
      only = λ x al M c m d h. let b = begins x al in
          let q = only M b.0 c m (subst (λ z. D M z c m) b.1 d) h in (q.0, b.1 ∙ q.1);
    } in
    subst (Judge limit p D S (t ∷ ts)) (goes ts) j

-- ---- the tokens end

pub wants : {T : Type 0} (limit : ℕ) {A : Type 0} (p : Parser T A) (D : Form T A) (S : Follow T A) → fault unexpected 0 ≡ p [] → Completes limit D S [] []
    → ((M : May T) (b : A) (m : List T) → D M [] b m → Fits (S b) m → ⊥) → Judge limit p D S [] (p [])
wants limit p D S goes whole none =
    let j : Wants limit p D S [] = record { completes = whole; none = none } in subst (Judge limit p D S []) goes j

pub done_fault : {P T A : Type 0} {a : A} {x : List T} {k : Fault} {n : ℕ} → ◌≡◌ {A = Answer T A} (done a x) (fault k n) → P
done_fault e = absurd (cc)

module _ {T : Type 0} (limit : ℕ) {A : Type 0} (p : Parser T A) (D : Form T A) (S : Follow T A)
    (by : (t : T) (ts : List T) → Judge limit p D S (t ∷ ts) (p (t ∷ ts))) where
  heads_at : Judge limit p D S [] (p []) → (ts : List T) → Judge limit p D S ts (p ts)
  heads_at end [] = end
  heads_at end (t ∷ ts) = by t ts

  pub heads : Judge limit p D S [] (p []) → Law limit p D S
  heads end = record { at = heads_at end }

  -- where the form can be empty, it is before what may follow
  module _ (a : A) (goes : done a [] ≡ p []) (empty : (M : May T) (ts : List T) → Fits (S a) ts → D M ts a ts)
      (only : (M : May T) (b : A) (m : List T) → D M [] b m → Fits (S b) m → (a ≡ b) × ([] ≡ m)) where
    barring : (k : Fault) (x : List T) → Barred limit k x (Within limit (length x))
    barring unexpected x = tt
    barring deep x = λ c us h may. may h

    empty_failed : {Q : Type 0} (ts : List T) (k : Fault) (n : ℕ) → Fits (S a) ts → Failed limit p D S ts k n → Q
    empty_failed ts k n h j =
        let M : May T = Within limit (length j.at.rest) in
        absurd (j.none j.at.rest M (barring k j.at.rest) a ts (subst (λ z. D M z a ts) j.at.whole (empty M ts h)) h)

    empty_by : (ts : List T) → Fits (S a) ts → (o : Answer T A) → Judge limit p D S ts o → o ≡ done a ts
    empty_by ts h (done b m) j =
        let q : (b ≡ a) × (m ≡ ts) = j.only m (alike_self (S b) m) Anywhere a ts (subst (λ z. D Anywhere z a ts) j.whole (empty Anywhere ts h)) h in
        ap (λ z. done z m) q.0 ∙ ap (done a) q.1
    empty_by ts h (fault unexpected zero) j = absurd (j.none Anywhere a ts (empty Anywhere ts h) h)
    empty_by ts h (fault unexpected (suc n)) j = empty_failed ts unexpected n h j
    empty_by ts h (fault deep zero) j = absurd (j tt)
    empty_by ts h (fault deep (suc n)) j = empty_failed ts deep n h j

    empty_stays : (x : List T) → Fits (S a) x → p x ≡ done a x
    empty_stays [] h = sym goes
    empty_stays (t ∷ x) h = empty_by (t ∷ x) h (p (t ∷ x)) (by t x)

    empty_only : (x : List T) → Fits (S a) x → (M : May T) (b : A) (m : List T) → D M x b m → Fits (S b) m → (a ≡ b) × (x ≡ m)
    empty_only [] h M b m d s = only M b m d s
    empty_only (t ∷ x) h M b m d s =
        let j : Done limit p D S (t ∷ x) a (t ∷ x) = subst (Judge limit p D S (t ∷ x)) (empty_stays (t ∷ x) h) (by t x) in
        j.only (t ∷ x) refl M b m (subst (λ z. D M z b m) j.whole d) s

    pub heads_or_empty : Law limit p D S
    heads_or_empty = heads (
        let j : Done limit p D S [] a [] = record {
          front = [];
          whole = refl;
          stays = empty_stays;
          derived = λ x al M l. empty M x al;
          only = empty_only;
        } in
        subst (Judge limit p D S []) goes j)

-- ---- the counter rises at the token t, and q goes on

module _ {T : Type 0} (limit c : ℕ) {A : Type 0} (p q : Parser T A) (D D' : Form T A) (S : Follow T A) (t : T)
    (to : (M : May T) (ts : List T) (a : A) (r : List T) → M c (t ∷ ts) → D' M (t ∷ ts) a r → D M (t ∷ ts) a r)
    (back : (M : May T) (ts : List T) (a : A) (r : List T) → D M (t ∷ ts) a r → Fits (S a) r → M c (t ∷ ts) × D' M (t ∷ ts) a r)
    (goes : (ts : List T) → (if nat_lt c limit then q (t ∷ ts) else fault deep (suc (length ts))) ≡ p (t ∷ ts))
    (one : Completes limit D' S [] (t ∷ [])) where
  rise_by : (b : Bool) → nat_lt c limit ≡ b → (c < limit → Law limit q D' S) → (ts : List T) → Judge limit p D S (t ∷ ts) (p (t ∷ ts))
  rise_by true e law ts =
      let less : c < limit = ltb-true c limit e in
      kept_at limit p q D D' S t (λ M l us a r d. to M us a r (l c (t ∷ us) less) d) (λ M us a r d h. (back M us a r d h).1)
      (λ us. ap (λ b. if b then q (t ∷ us) else fault deep (suc (length us))) (sym e) ∙ goes us) ts ((law less).at (t ∷ ts))
  rise_by false e law ts =
      let at_limit : limit ≤ c = ltb-false c limit e in
      let stays : (x : List T) → p (t ∷ x) ≡ fault deep (suc (length x)) =
      λ x. sym (goes x) ∙ ap (λ b. if b then q (t ∷ x) else fault deep (suc (length x))) e in
      let j : Failed limit p D S (t ∷ ts) deep (length ts) = record {
        at = record { front = []; token = t; rest = ts; whole = refl; place = refl };
        stays = stays;
        none = λ x M strict b m d h. let less : c < limit = strict c (t ∷ x) (omega arith) (back M x b m d h).0 in omega arith;
        reaches = record {
          tokens = one.tokens;
          value = one.value;
          holds = λ M l r free h. to M _ one.value r (free c _ (omega arith)) (one.holds M l r free h);
        };
      } in
      subst (Judge limit p D S (t ∷ ts)) (sym (stays ts)) j

  pub rise : (c < limit → Law limit q D' S) → (ts : List T) → Judge limit p D S (t ∷ ts) (p (t ∷ ts))
  rise law ts = rise_by (nat_lt c limit) refl law ts

-- ---- a form at whose first token the counter rises

module _ {T : Type 0} (limit c : ℕ) (begins : T → Bool) {A : Type 0} (q : ℕ → Parser T A) (D D' : Form T A) (S : Follow T A)
    (to : (M : May T) (ts : List T) (a : A) (r : List T) → M c ts → D' M ts a r → D M ts a r)
    (back : (M : May T) (ts : List T) (a : A) (r : List T) → D M ts a r → M c ts × D' M ts a r)
    (starts : Starts begins D')
    (one : (t : T) → begins t ≡ true → Completes limit D' S [] (t ∷ []))
    (first : T) (is_first : begins first ≡ true) where
  pub level_completes : Completes limit D S [] []
  level_completes = let w = one first is_first in record {
    tokens = first ∷ w.tokens;
    value = w.value;
    holds = λ M l r free h. to M _ w.value r (free c _ (omega arith)) (w.holds M l r free h);
  }

  level_head : (law : c < limit → Law limit (q (suc c)) D' S) → (t : T) (b : Bool) → begins t ≡ b → (ts : List T)
      → Judge limit (level begins limit c q) D S (t ∷ ts) (level begins limit c q (t ∷ ts))
  unfolding peek
  level_head law t true e ts =
      rise limit c (level begins limit c q) (q (suc c)) D D' S t (λ M us a r. to M (t ∷ us) a r) (λ M us a r d h. back M (t ∷ us) a r d)
      (λ us. ap (λ b. (if b then rising limit c q else refuse unexpected) (t ∷ us)) (sym e)) (one t e) law ts
  level_head law t false e ts =
      refused limit (level begins limit c q) D S t (λ us. ap (λ b. (if b then rising limit c q else refuse unexpected) (t ∷ us)) (sym e))
      (λ M us b m d h. not_started begins D' starts t e M us b m (back M (t ∷ us) b m d).1) ts

  pub level_law : (c < limit → Law limit (q (suc c)) D' S) → Law limit (level begins limit c q) D S
  unfolding peek
  level_law law = heads limit (level begins limit c q) D S (λ t ts. level_head law t (begins t) refl ts)
      (wants limit (level begins limit c q) D S refl level_completes (λ M b m d h. not_empty begins D' starts M b m (back M [] b m d).1))
