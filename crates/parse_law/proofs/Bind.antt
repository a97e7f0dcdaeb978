-- One form after another.
use Rattle.std.proofs.Common.{◌≡◌, ℕ, zero, suc, ◌+◌, List, [], ◌∷◌, ◌++◌, length, refl, sym, ap, subst, ◌∙◌, append_assoc, length-append, arith}
use Rattle.parse_law.specs.tools.Parsing.{Fault, unexpected, deep, Answer, done, fault, and_then, Parser, ◌>>=◌}
use Rattle.parse_law.specs.Nesting.{May, Anywhere}
use Rattle.parse_law.proofs.Forms.{Form, Follow, Fits, Alike, Free, Completes, Reaches, Done, Failed, Judge, Law}

abbrev pub Seq : {T A B : Type 0} → Form T A → (A → Form T B) → Form T B
Seq {T} {A} D E M ts b r = (a : A) × (m : List T) × D M ts a m × E a M m b r

-- what E begins with may follow
abbrev pub Leads : {T A : Type 0} → Form T A → Follow T A → (T → Type 0) → Type 1
Leads {T} {A} E F S = (M : May T) (ts : List T) (a : A) (r : List T) → E M ts a r → Fits (F a) r → Fits S ts

-- the same tokens up to t
pub alike_to : {T : Type 0} (S : T → Type 0) (w : List T) (t : T) (x y r : List T) → r ≡ w ++ t ∷ x → Alike S r (w ++ t ∷ y)
alike_to S [] t x y r e = subst (λ z. Alike S z (t ∷ y)) (sym e) refl
alike_to S (v ∷ w) t x y r e = subst (λ z. Alike S z (v ∷ (w ++ t ∷ y))) (sym e) refl

-- more tokens behind these
alike_more : {T : Type 0} (S : T → Type 0) (r x : List T) → Fits S (r ++ x) → Alike S r (r ++ x)
alike_more S [] x h = h
alike_more S (t ∷ r) x h = refl

pub alike_self : {T : Type 0} (S : T → Type 0) (r : List T) → Alike S r r
alike_self S [] = tt
alike_self S (t ∷ r) = refl

-- the same tokens w, and then what is alike
alike_behind : {T : Type 0} (S F : T → Type 0) (w m x r : List T) → r ≡ w ++ m → (Fits F x → Fits S (w ++ x)) → Alike F m x → Alike S r (w ++ x)
alike_behind S F (v ∷ w) m x r e h a = subst (λ z. Alike S z (v ∷ (w ++ x))) (sym e) refl
alike_behind S F [] [] x r e h a = subst (λ z. Alike S z x) (sym e) (h a)
alike_behind S F [] (t ∷ m) [] r e h a = absurd a
alike_behind S F [] (t ∷ m) (u ∷ x) r e h a = subst (λ z. Alike S z (u ∷ x)) (sym e) a

-- the last of these tokens alone
pub free_last : {T : Type 0} (spare s x : List T) (M : May T) → Free (spare ++ (s ++ x)) M → Free x M
free_last spare s x M h c us l =
    let a : length (spare ++ (s ++ x)) ≡ length spare + length (s ++ x) = length-append spare (s ++ x) in
    let b : length (s ++ x) ≡ length s + length x = length-append s x in
    h c us (omega arith)

module _ {T : Type 0} (limit : ℕ) {A B : Type 0} (p : Parser T A) (D : Form T A) (S : Follow T A) (f : A → Parser T B) (E : A → Form T B) (F : Follow T B)
    (leads : (a : A) → Leads (E a) F (S a)) where
  module _ (ts : List T) (a : A) (r : List T) (d : Done limit p D S ts a r) where
    -- what the second form says of the tokens behind the first
    moved : (x : List T) → Alike (S a) r x → (w : List T) → w ≡ d.front ++ x → (M : May T) (c : B) (n : List T) → Seq D E M w c n → Fits (F c) n → E a M x c n
    moved x al w e M c n (a', m', d', e') h =
        let q : (a ≡ a') × (x ≡ m') = d.only x al M a' m' (subst (λ z. D M z a' m') e d') (leads a' M m' c n e' h) in
        subst (λ z. E z M x c n) (sym q.0) (subst (λ z. E a' M z c n) (sym q.1) e')

    completes_after : (before spare : List T) → ((x : List T) → Fits (S a) (before ++ (spare ++ x)) → Alike (S a) r (before ++ (spare ++ x)))
        → Completes limit (E a) F before spare → Completes limit (Seq D E) F (d.front ++ before) spare
    completes_after before spare alike j = record {
      tokens = j.tokens;
      value = j.value;
      holds = λ M l z free h.
          let y : List T = spare ++ (j.tokens ++ z) in
          let e : E a M (before ++ y) j.value z = j.holds M l z free h in
          (a, before ++ y, subst (λ u. D M u a (before ++ y)) (sym (append_assoc d.front before y)) (d.derived (before ++ y) (alike (j.tokens ++ z) (leads a M _ _ _ e h)) M l), e);
    }

    reaches_after : (k : Fault) (w : List T) (t : T) → ((x : List T) → Alike (S a) r (w ++ t ∷ x)) → Reaches limit k (E a) F w t
        → Reaches limit k (Seq D E) F (d.front ++ w) t
    reaches_after unexpected w t alike j = tt
    reaches_after deep w t alike j = completes_after w (t ∷ []) (λ x h. alike x) j

    bind_failed : (k : Fault) (n : ℕ) → Failed limit (f a) (E a) F r k n → Failed limit (p >>= f) (Seq D E) F ts k n
    bind_failed k n j =
        let w : List T = j.at.front in
        let t : T = j.at.token in
        let alike : (x : List T) → Alike (S a) r (w ++ t ∷ x) = λ x. alike_to (S a) w t j.at.rest x r j.at.whole in
        let same : (x : List T) → (d.front ++ w) ++ t ∷ x ≡ d.front ++ (w ++ t ∷ x) = λ x. append_assoc d.front w (t ∷ x) in
        record {
          at = record { front = d.front ++ w; token = t; rest = j.at.rest; whole = d.whole ∙ (ap (λ z. d.front ++ z) j.at.whole ∙ sym (same j.at.rest)); place = j.at.place };
          stays = λ x. ap (λ z. and_then (p z) f) (same x) ∙ (ap (λ o. and_then o f) (d.stays (w ++ t ∷ x) (alike x)) ∙ j.stays x);
          none = λ x M b c m e h. j.none x M b c m (moved (w ++ t ∷ x) (alike x) _ (same x) M c m e h) h;
          reaches = reaches_after k w t alike j.reaches;
        }

    bind_done : (o : Answer T B) → Judge limit (f a) (E a) F r o → Judge limit (p >>= f) (Seq D E) F ts o
    bind_done (done b m) j =
        let w : List T = j.front in
        let alike : (x : List T) → Alike (F b) m x → Alike (S a) r (w ++ x) = λ x al.
        alike_behind (S a) (F b) w m x r j.whole (λ h. leads a Anywhere (w ++ x) b x (j.derived x al Anywhere (λ c us l. tt)) h) al in
        let same : (x : List T) → (d.front ++ w) ++ x ≡ d.front ++ (w ++ x) = λ x. append_assoc d.front w x in
        record {
          front = d.front ++ w;
          whole = d.whole ∙ (ap (λ z. d.front ++ z) j.whole ∙ sym (same m));
          stays = λ x al. ap (λ z. and_then (p z) f) (same x) ∙ (ap (λ o. and_then o f) (d.stays (w ++ x) (alike x al)) ∙ j.stays x al);
          derived = λ x al M l. (a, w ++ x, subst (λ z. D M z a (w ++ x)) (sym (same x)) (d.derived (w ++ x) (alike x al) M l), j.derived x al M l);
          only = λ x al M c n e h. j.only x al M c n (moved (w ++ x) (alike x al) _ (same x) M c n e h) h;
        }
    bind_done (fault unexpected zero) j = record {
      completes = subst (λ z. Completes limit (Seq D E) F z []) (sym d.whole) (completes_after r [] (alike_more (S a) r) j.completes);
      none = λ M c n e h. j.none M c n (moved r (alike_self (S a) r) ts d.whole M c n e h) h;
    }
    bind_done (fault unexpected (suc n)) j = bind_failed unexpected n j
    bind_done (fault deep zero) j = j
    bind_done (fault deep (suc n)) j = bind_failed deep n j

  module _ (whole : (a : A) → Completes limit (E a) F [] []) where
    pub completes_then : (before spare : List T) → Completes limit D S before spare → Completes limit (Seq D E) F before spare
    completes_then before spare j =
        let w : Completes limit (E j.value) F [] [] = whole j.value in
        record {
          tokens = j.tokens ++ w.tokens;
          value = w.value;
          holds = λ M l z free h.
              let y : List T = w.tokens ++ z in
              let same : (j.tokens ++ w.tokens) ++ z ≡ j.tokens ++ y = append_assoc j.tokens w.tokens z in
              let free' : Free (spare ++ (j.tokens ++ y)) M = subst (λ u. Free (spare ++ u) M) same free in
              let e : E j.value M y w.value z = w.holds M l z (free_last spare j.tokens y M free') h in
              subst (λ u. Seq D E M (before ++ (spare ++ u)) w.value z) (sym same) (j.value, y, j.holds M l y free' (leads j.value M y w.value z e h), e);
        }

    reaches_then : (k : Fault) (w : List T) (t : T) → Reaches limit k D S w t → Reaches limit k (Seq D E) F w t
    reaches_then unexpected w t j = tt
    reaches_then deep w t j = completes_then w (t ∷ []) j

    fails_first : (ts : List T) (k : Fault) (n : ℕ) → Failed limit p D S ts k n → Failed limit (p >>= f) (Seq D E) F ts k n
    fails_first ts k n j = record {
      at = j.at;
      stays = λ x. ap (λ o. and_then o f) (j.stays x);
      none = λ x M b c m (a, v, d, e) h. j.none x M b a v d (leads a M v c m e h);
      reaches = reaches_then k j.at.front j.at.token j.reaches;
    }

    bind_by : (ts : List T) (o : Answer T A) → Judge limit p D S ts o → ((a : A) (r : List T) → o ≡ done a r → Judge limit (f a) (E a) F r (f a r))
        → Judge limit (p >>= f) (Seq D E) F ts (and_then o f)
    bind_by ts (done a r) j g = bind_done ts a r j (f a r) (g a r refl)
    bind_by ts (fault unexpected zero) j g = record {
      completes = completes_then ts [] j.completes;
      none = λ M c m (a, v, d, e) h. j.none M a v d (leads a M v c m e h);
    }
    bind_by ts (fault unexpected (suc n)) j g = fails_first ts unexpected n j
    bind_by ts (fault deep zero) j g = j
    bind_by ts (fault deep (suc n)) j g = fails_first ts deep n j

    -- at one list
    pub bind_at : (ts : List T) → Judge limit p D S ts (p ts) → ((a : A) (r : List T) → p ts ≡ done a r → Judge limit (f a) (E a) F r (f a r))
        → Judge limit (p >>= f) (Seq D E) F ts ((p >>= f) ts)
    bind_at ts j g = bind_by ts (p ts) j g

    pub bind : Law limit p D S → ((a : A) → Law limit (f a) (E a) F) → Law limit (p >>= f) (Seq D E) F
    bind law g = record { at = λ ts. bind_at ts (law.at ts) (λ a r e. (g a).at r) }

    -- where the second form is judged only at what the first can leave
    pub bind_where : (Good : A → List T → Type 0) → ((ts : List T) (a : A) (r : List T) → D Anywhere ts a r → Good a r)
        → Law limit p D S → ((a : A) (r : List T) → Good a r → Judge limit (f a) (E a) F r (f a r)) → Law limit (p >>= f) (Seq D E) F
    bind_where Good good law g = record {
      at = λ ts. bind_at ts (law.at ts) (λ a r e.
          let d : Done limit p D S ts a r = subst (Judge limit p D S ts) e (law.at ts) in
          g a r (good (d.front ++ r) a r (d.derived r (alike_self (S a) r) Anywhere (λ c us l. tt))));
    }

    pub bind_good : (Good : A → Type 0) → ((ts : List T) (a : A) (r : List T) → D Anywhere ts a r → Good a)
        → Law limit p D S → ((a : A) → Good a → Law limit (f a) (E a) F) → Law limit (p >>= f) (Seq D E) F
    bind_good Good good law g = bind_where (λ a r. Good a) good law (λ a r h. (g a h).at r)
