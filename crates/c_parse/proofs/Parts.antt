-- A form with its parser, as one part of a larger form.
use Rattle.std.proofs.Common.{◌≡◌, ℕ, Option, Some, None, List, [], ◌∷◌, ◌++◌, refl, sym, subst, ◌∙◌, append_assoc}
use Rattle.parse_law.specs.tools.Parsing.{unexpected, done, fault, Parser, ◌>>=◌, pure, refuse, accept, accept_by, skip}
use Rattle.parse_law.specs.Nesting.{May, Anywhere}
use Rattle.parse_law.proofs.Forms.{Form, Follow, Fits, Free, Completes, Judge, Law}
use Rattle.parse_law.proofs.Bind.{Seq, Leads, free_last, bind, bind_good}
use Rattle.parse_law.proofs.Carry.{fits_fewer}
use Rattle.parse_law.proofs.Steps.{Any, convert, pure_law, Pure, Token, accept_law}
use Rattle.parse_law.proofs.Repeat.{Takes, takes_first, takes_accept}
use Rattle.parse_law.proofs.FirstTokens.{kept_at, refused, wants, heads, heads_or_empty}
use Rattle.c_parse.specs.tools.Tokens.{next, want, want_by}

module _ {T : Type 0} where
  -- nothing is read
  pub data Gives {A : Type 0} (a : A) (M : May T) : List T → A → List T → Type 0 where
    gives : {ts : List T} → Gives a M ts a ts

  -- what holds of the value that is given holds of the value
  pub given : {A : Type 0} {a b : A} {M : May T} {ts r : List T} → Gives a M ts b r → (Q : A → List T → Type 0) → Q a ts → Q b r
  given gives Q h = h

  pure_gives : {A : Type 0} (a : A) (M : May T) (ts : List T) (b : A) (r : List T) → (a ≡ b) × (ts ≡ r) → Gives a M ts b r
  pure_gives a M ts b r e = subst (λ z. Gives a M ts z r) e.0 (subst (λ z. Gives a M ts a z) e.1 gives)

  gives_pure : {A : Type 0} {a b : A} {M : May T} {ts r : List T} → Gives a M ts b r → (a ≡ b) × (ts ≡ r)
  gives_pure gives = (refl, refl)

  gives_fits : {A : Type 0} {a b : A} (F : Follow T A) {M : May T} {ts r : List T} → Gives a M ts b r → Fits (F b) r → Fits (F a) ts
  gives_fits F gives h = h

  -- a token that has a value
  pub data Reads {A : Type 0} (value : T → Option A) (M : May T) : List T → A → List T → Type 0 where
    reads : {t : T} {a : A} {ts : List T} → value t ≡ Some a → Reads value M (t ∷ ts) a ts

  token_reads : {A : Type 0} (value : T → Option A) (M : May T) (ts : List T) (a : A) (r : List T) → Token value M ts a r → Reads value M ts a r
  token_reads value M ts a r (t, e, v) = subst (λ z. Reads value M z a r) (sym e) (reads v)

  reads_token : {A : Type 0} {value : T → Option A} {M : May T} {ts r : List T} {a : A} → Reads value M ts a r → Token value M ts a r
  reads_token (reads v) = (_, refl, v)

  reads_leads : {A : Type 0} {value : T → Option A} (S : T → Type 0) → ((t : T) (a : A) → value t ≡ Some a → S t)
      → {M : May T} {ts r : List T} {a : A} → Reads value M ts a r → Fits S ts
  reads_leads S h (reads v) = h _ _ v

  wanted : {A : Type 0} (t : T) (ts : List T) (o : Option A) → accept_by ts o ≡ want_by o (t ∷ ts)
  unfolding skip
  wanted t ts None = refl
  wanted t ts (Some a) = refl

  pub accepts : {A : Type 0} (value : T → Option A) (ts : List T) → accept value ts ≡ want value ts
  unfolding accept want
  accepts value [] = refl
  accepts value (t ∷ ts) = wanted t ts (value t)

  pub takes_want : {A : Type 0} (value : T → Option A) → Takes (want value)
  takes_want value ts a r e = takes_accept value ts a r (accepts value ts ∙ e)

  abbrev pub Void : {A : Type 0} → Form T A
  Void M ts a r = ⊥

module _ {T : Type 0} (limit : ℕ) where
  -- the parser p is the form D, where F holds of what follows; S holds of what it begins with, and some tokens complete it
  pub record Part {A : Type 0} (p : Parser T A) (D : Form T A) (F : Follow T A) (S : T → Type 0) : Type 1 where
    pub law : Law limit p D F
    pub leads : Leads D F S
    pub whole : Completes limit D F [] []

  pub seq_whole : {A B : Type 0} (D : Form T A) (G : Follow T A) (E : A → Form T B) (F : Follow T B) → Completes limit D G [] []
      → ((a : A) → Completes limit (E a) F [] []) → ((a : A) → Leads (E a) F (G a)) → Completes limit (Seq D E) F [] []
  seq_whole D G E F x g leads =
      let w : Completes limit (E x.value) F [] [] = g x.value in
      record {
        tokens = x.tokens ++ w.tokens;
        value = w.value;
        holds = λ M l z free h.
            let y : List T = w.tokens ++ z in
            let same : (x.tokens ++ w.tokens) ++ z ≡ x.tokens ++ y = append_assoc x.tokens w.tokens z in
            let free' : Free (x.tokens ++ y) M = subst (λ u. Free u M) same free in
            let e : E x.value M y w.value z = w.holds M l z (free_last [] x.tokens y M free') h in
            subst (λ u. Seq D E M u w.value z) (sym same) (x.value, y, x.holds M l y free' (leads x.value M y w.value z e h), e);
      }

  module _ {A B : Type 0} {p : Parser T A} {D : Form T A} {G : Follow T A} {R : T → Type 0} {f : A → Parser T B} {E : A → Form T B} {F : Follow T B} where
    pub seq : Part p D G R → ((a : A) → Part (f a) (E a) F (G a)) → Part (p >>= f) (Seq D E) F R
    seq x g = record {
      law = bind limit p D G f E F (λ a. (g a).leads) (λ a. (g a).whole) x.law (λ a. (g a).law);
      leads = λ M ts b r (a, m, d, e) h. x.leads M ts a m d ((g a).leads M m b r e h);
      whole = seq_whole D G E F x.whole (λ a. (g a).whole) (λ a. (g a).leads);
    }

    -- where what comes behind is known for some values alone, and the first form gives no others
    pub seq_good : (Good : A → Type 0) → ((ts : List T) (a : A) (r : List T) → D Anywhere ts a r → Good a) → Part p D G R
        → ((a : A) → Leads (E a) F (G a)) → ((a : A) → Completes limit (E a) F [] []) → ((a : A) → Good a → Law limit (f a) (E a) F)
        → Part (p >>= f) (Seq D E) F R
    seq_good Good good x leads whole g = record {
      law = bind_good limit p D G f E F leads whole Good good x.law g;
      leads = λ M ts b r (a, m, d, e) h. x.leads M ts a m d (leads a M m b r e h);
      whole = seq_whole D G E F x.whole whole leads;
    }

  pub takes_seq : {A B : Type 0} {p : Parser T A} {f : A → Parser T B} {E : A → Form T B} {F : Follow T B} {G : A → T → Type 0}
      → Takes p → ((a : A) → Part (f a) (E a) F (G a)) → Takes (p >>= f)
  takes_seq {p = p} {f = f} {E = E} {F = F} takes g = takes_first limit p f E F takes (λ a. (g a).law)

  -- the same form in other words, with fewer tokens behind it
  module _ {A : Type 0} {p : Parser T A} {D : Form T A} {F : Follow T A} {S : T → Type 0} where
    pub restate : (D' : Form T A) (F' : Follow T A) (S' : T → Type 0) → Part p D F S
        → ((M : May T) (ts : List T) (a : A) (r : List T) → D M ts a r → D' M ts a r)
        → ((M : May T) (ts : List T) (a : A) (r : List T) → D' M ts a r → Fits (F' a) r → D M ts a r)
        → ((a : A) (t : T) → F' a t → F a t) → ((t : T) → S t → S' t) → Part p D' F' S'
    restate D' F' S' x to back fewer wider = record {
      law = convert limit p D F D' F' to back fewer x.law;
      leads = λ M ts a r d h. fits_fewer wider ts (x.leads M ts a r (back M ts a r d h) (fits_fewer (fewer a) r h));
      whole = record { tokens = x.whole.tokens; value = x.whole.value; holds = λ M l r free h. to M _ x.whole.value r (x.whole.holds M l r free (fits_fewer (fewer x.whole.value) r h)) };
    }

    -- with fewer tokens behind it
    pub narrow : Part p D F S → {F' : Follow T A} → ((a : A) (t : T) → F' a t → F a t) → Part p D F' S
    narrow x {F' = F'} fewer = restate D F' S x (λ M ts a r d. d) (λ M ts a r d h. d) fewer (λ t h. h)

    -- where less is asked of what it begins with
    pub widen : Part p D F S → {S' : T → Type 0} → ((t : T) → S t → S' t) → Part p D F S'
    widen x {S' = S'} wider = restate D F S' x (λ M ts a r d. d) (λ M ts a r d h. d) (λ a t h. h) wider

    -- where more is known of what it begins with
    pub relead : Part p D F S → {S' : T → Type 0} → Leads D F S' → Part p D F S'
    relead x leads = record { law = x.law; leads = leads; whole = x.whole }

  pub gives_part : {A : Type 0} {F : Follow T A} (a : A) → Part (pure a) (Gives a) F (F a)
  gives_part {F = F} a = record {
    law = convert limit (pure a) (Pure a) F (Gives a) F (pure_gives a) (λ M ts b r d h. gives_pure d) (λ b t h. h) (pure_law limit a F);
    leads = λ M ts b r d h. gives_fits F d h;
    whole = record { tokens = []; value = a; holds = λ M l r free h. gives };
  }

  pub reads_part : {A : Type 0} (value : T → Option A) (S : T → Type 0) → ((t : T) (a : A) → value t ≡ Some a → S t) → (t : T) (a : A)
      → value t ≡ Some a → Part (want value) (Reads value) Any S
  reads_part value S begins t a e = record {
    law = convert limit (want value) (Token value) Any (Reads value) Any (token_reads value) (λ M ts b r d h. reads_token d) (λ b t h. h)
        (subst (λ p. Law limit p (Token value) Any) (λ i ts. accepts value ts i) (accept_law limit value Any t a e));
    leads = λ M ts b r d h. reads_leads S begins d;
    whole = record { tokens = t ∷ []; value = a; holds = λ M l r free h. reads e };
  }

  -- ---- alternatives by the next token

  -- what an alternative is at the tokens
  pub record Branch {A : Type 0} (p : Parser T A) (D : Form T A) (F : Follow T A) (S : T → Type 0) : Type 1 where
    pub at : (t : T) (ts : List T) → Judge limit p D F (t ∷ ts) (p (t ∷ ts))
    pub leads : Leads D F S

  pub branch : {A : Type 0} {p : Parser T A} {D : Form T A} {F : Follow T A} {S : T → Type 0} → Part p D F S → Branch p D F S
  branch x = record { at = λ t ts. x.law.at (t ∷ ts); leads = x.leads }

  -- nothing is read here
  pub refuses : {A : Type 0} {F : Follow T A} {S : T → Type 0} → Branch {A = A} (refuse unexpected) Void F S
  refuses {F = F} = record {
    at = λ t ts. refused limit (refuse unexpected) Void F t (λ us. refl) (λ M us b m d h. d) ts;
    leads = λ M ts a r d h. absurd d;
  }

  module _ {A K : Type 0} (sort : Option T → K) (by : K → Parser T A) (E : K → Form T A) (D : Form T A) (F : Follow T A) (S : T → Type 0)
      (to : (M : May T) (t : T) (us : List T) (a : A) (r : List T) → E (sort (Some t)) M (t ∷ us) a r → D M (t ∷ us) a r)
      (back : (M : May T) (ts : List T) (a : A) (r : List T) → D M ts a r → Fits (F a) r → E (sort (next ts)) M ts a r)
      (branches : (k : K) → Branch (by k) (E k) F S) where
    abbrev pub chosen : Parser T A
    chosen ts = by (sort (next ts)) ts

    by_head : (t : T) (ts : List T) → Judge limit chosen D F (t ∷ ts) (chosen (t ∷ ts))
    by_head t ts =
        kept_at limit chosen (by (sort (Some t))) D (E (sort (Some t))) F t (λ M l us a r. to M t us a r)
        (λ M us a r. back M (t ∷ us) a r) (λ us. refl) ts ((branches (sort (Some t))).at t ts)

    chosen_leads : Leads D F S
    chosen_leads M ts a r d h = (branches (sort (next ts))).leads M ts a r (back M ts a r d h) h

    -- the form is not empty
    pub dispatch : Completes limit D F [] [] → fault unexpected 0 ≡ by (sort None) []
        → ((M : May T) (a : A) (r : List T) → D M [] a r → Fits (F a) r → ⊥) → Part chosen D F S
    dispatch complete stuck none = record {
      law = heads limit chosen D F by_head (wants limit chosen D F stuck complete none);
      leads = chosen_leads;
      whole = complete;
    }

    -- the form can be empty
    pub dispatch_empty : (a : A) → done a [] ≡ by (sort None) [] → ((M : May T) (ts : List T) → Fits (F a) ts → D M ts a ts)
        → ((M : May T) (b : A) (m : List T) → D M [] b m → Fits (F b) m → (a ≡ b) × ([] ≡ m)) → Part chosen D F S
    dispatch_empty a goes empty only = record {
      law = heads_or_empty limit chosen D F by_head a goes empty only;
      leads = chosen_leads;
      whole = record { tokens = []; value = a; holds = λ M l r free h. empty M r h };
    }
