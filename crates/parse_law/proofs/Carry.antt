-- What is judged of one parser carries over to another.
use Rattle.std.proofs.Common.{◌≡◌, ℕ, zero, suc, List, [], ◌∷◌, ◌++◌, sym, ap, subst, ◌∙◌, append_assoc}
use Rattle.parse_law.specs.tools.Parsing.{Fault, unexpected, deep, Answer, done, fault, Parser}
use Rattle.parse_law.specs.Nesting.{May}
use Rattle.parse_law.proofs.Forms.{Form, Follow, Fits, Alike, Lenient, Completes, Reaches, Failed, Judge}

pub fits_fewer : {T : Type 0} {S S' : T → Type 0} → ((t : T) → S' t → S t) → (ts : List T) → Fits S' ts → Fits S ts
fits_fewer fewer [] h = tt
fits_fewer fewer (t ∷ ts) h = fewer t h

alike_fewer : {T : Type 0} {S S' : T → Type 0} → ((t : T) → S' t → S t) → (r x : List T) → Alike S' r x → Alike S r x
alike_fewer fewer [] x h = fits_fewer fewer x h
alike_fewer fewer (t ∷ r) [] h = h
alike_fewer fewer (t ∷ r) (u ∷ x) h = h

-- q at w is p at the tokens `front` and w, for lists w of a kind
module _ {T A : Type 0} (limit : ℕ) (p q : Parser T A) (D D' : Form T A) (S S' : Follow T A) (front : List T) (On : List T → Type 0)
    (on_done : (w r x : List T) (a : A) → On (w ++ r) → Alike (S a) r x → On (w ++ x))
    (on_fault : (w : List T) (t : T) (r x : List T) → On (w ++ t ∷ r) → On (w ++ t ∷ x))
    (on_more : (w x : List T) → On w → On (w ++ x))
    (to : (M : May T) → Lenient limit M → (w : List T) → On w → (a : A) (r : List T) → D' M w a r → D M (front ++ w) a r)
    (back : (M : May T) (w : List T) → On w → (a : A) (r : List T) → D M (front ++ w) a r → Fits (S a) r → D' M w a r)
    (goes : (w : List T) → On w → q w ≡ p (front ++ w))
    (fewer : (a : A) (t : T) → S a t → S' a t) where
  carried_completes : (before spare : List T) → ((x : List T) → On (before ++ (spare ++ x))) → Completes limit D' S' before spare
      → Completes limit D S (front ++ before) spare
  carried_completes before spare on j = record {
    tokens = j.tokens;
    value = j.value;
    holds = λ M l r free h.
        subst (λ z. D M z j.value r) (sym (append_assoc front before (spare ++ (j.tokens ++ r))))
        (to M l _ (on (j.tokens ++ r)) j.value r (j.holds M l r free (fits_fewer (fewer j.value) r h)));
  }

  carried_reaches : (k : Fault) (w : List T) (t : T) → ((x : List T) → On (w ++ t ∷ x)) → Reaches limit k D' S' w t → Reaches limit k D S (front ++ w) t
  carried_reaches unexpected w t on j = tt
  carried_reaches deep w t on j = carried_completes w (t ∷ []) on j

  carried_failed : (ts : List T) → On ts → (k : Fault) (n : ℕ) → Failed limit q D' S' ts k n → Failed limit p D S (front ++ ts) k n
  carried_failed ts on k n j =
      let w : List T = j.at.front in
      let t : T = j.at.token in
      let on' : (x : List T) → On (w ++ t ∷ x) = λ x. on_fault w t j.at.rest x (subst On j.at.whole on) in
      let same : (x : List T) → (front ++ w) ++ t ∷ x ≡ front ++ (w ++ t ∷ x) = λ x. append_assoc front w (t ∷ x) in
      record {
        at = record { front = front ++ w; token = t; rest = j.at.rest; whole = ap (λ z. front ++ z) j.at.whole ∙ sym (same j.at.rest); place = j.at.place };
        stays = λ x. ap p (same x) ∙ (sym (goes _ (on' x)) ∙ j.stays x);
        none = λ x M b c m d h. j.none x M b c m (back M _ (on' x) c m (subst (λ z. D M z c m) (same x) d) h) (fits_fewer (fewer c) m h);
        reaches = carried_reaches k w t on' j.reaches;
      }

  carried_by : (ts : List T) → On ts → (o : Answer T A) → Judge limit q D' S' ts o → Judge limit p D S (front ++ ts) o
  carried_by ts on (done a r) j =
      let w : List T = j.front in
      let on' : (x : List T) → Alike (S a) r x → On (w ++ x) = λ x al. on_done w r x a (subst On j.whole on) al in
      let same : (x : List T) → (front ++ w) ++ x ≡ front ++ (w ++ x) = λ x. append_assoc front w x in
      record {
        front = front ++ w;
        whole = ap (λ z. front ++ z) j.whole ∙ sym (same r);
        stays = λ x al. ap p (same x) ∙ (sym (goes _ (on' x al)) ∙ j.stays x (alike_fewer (fewer a) r x al));
        derived = λ x al M l. subst (λ z. D M z a x) (sym (same x)) (to M l _ (on' x al) a x (j.derived x (alike_fewer (fewer a) r x al) M l));
        only = λ x al M b m d h.
            j.only x (alike_fewer (fewer a) r x al) M b m (back M _ (on' x al) b m (subst (λ z. D M z b m) (same x) d) h) (fits_fewer (fewer b) m h);
      }
  carried_by ts on (fault unexpected zero) j = record {
    completes = carried_completes ts [] (λ x. on_more ts x on) j.completes;
    none = λ M b m d h. j.none M b m (back M ts on b m d h) (fits_fewer (fewer b) m h);
  }
  carried_by ts on (fault unexpected (suc n)) j = carried_failed ts on unexpected n j
  carried_by ts on (fault deep zero) j = j
  carried_by ts on (fault deep (suc n)) j = carried_failed ts on deep n j

  pub carried : (ts : List T) → On ts → Judge limit q D' S' ts (q ts) → Judge limit p D S (front ++ ts) (p (front ++ ts))
  carried ts on j = subst (Judge limit p D S (front ++ ts)) (goes ts on) (carried_by ts on (q ts) j)
