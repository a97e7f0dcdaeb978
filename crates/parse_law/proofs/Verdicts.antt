-- The answer of a parser over a whole list is its tree, or its first fault.
use Rattle.std.proofs.Common.{◌≡◌, ℕ, zero, suc, ◌+◌, ◌-◌, ◌<◌, ◌≤◌, List, [], ◌∷◌, ◌++◌, length, take, refl, sym, ap, subst, ◌∙◌, append_assoc, append-nil, length-append, arith}
use Rattle.std.proofs.lemmas.List.{take_at, take_all}
use Rattle.parse_law.specs.tools.Parsing.{Fault, unexpected, deep, Answer, done, fault, Parser, ◌>>◌, pure, finish, whole}
use Rattle.parse_law.specs.Nesting.{May, Anywhere, Within, Grammar}
use Rattle.parse_law.specs.FirstFault.{Continues, ContinuesWithin, IsUnexpected, IsDeep}
use Rattle.parse_law.specs.Tells.{Tells}
use Rattle.parse_law.proofs.Forms.{Form, Follow, Fits, Lenient, Free, Completes, Barred, Done, Failed, Wants, Judge, Law}
use Rattle.parse_law.proofs.Bind.{Seq, bind, alike_self}
use Rattle.parse_law.proofs.Steps.{Nothing, at_end, convert, Map, map_law, End, finish_law}

-- all of the tokens
abbrev pub All : {T A : Type 0} → Grammar T A → Form T A
All D M ts a r = D M ts a × (r ≡ [])

-- the grammar of a form that ends with the tokens
abbrev pub Whole : {T A : Type 0} → Form T A → Grammar T A
Whole F M ts a = F M ts a []

pub whole_law : {T A : Type 0} (limit : ℕ) (p : Parser T A) (F : Form T A) (S : Follow T A) → Law limit p F S → Law limit (whole p) (All (Whole F)) Nothing
whole_law limit p F S law =
    convert limit (whole p) (Seq F (λ a. Map (λ u. a) End)) Nothing (All (Whole F)) Nothing
    (λ M ts a r (b, m, d, (u, e, f)). (subst (λ z. F M ts z []) e (subst (λ z. F M ts b z) f.0 d), f.1))
    (λ M ts a r (d, e) h. (a, [], d, (tt, refl, (refl, e))))
    (λ a t h. h)
    (bind limit p F S (λ a. finish >> pure a) (λ a. Map (λ u. a) End) Nothing (λ a M m b r (u, e, f) h. subst (Fits (S a)) (sym f.0) tt)
    (λ a. record { tokens = []; value = a; holds = λ M l r free h. (tt, refl, (at_end r h, at_end r h)) })
    law (λ a. map_law limit (λ u. a) finish End Nothing (finish_law limit)))

fault_left : {T A : Type 0} {j k : Fault} {m n : ℕ} → ◌≡◌ {A = Answer T A} (fault j m) (fault k n) → m ≡ n
fault_left e = cc

-- a list of which a beginning has a continuation has one
pub continues_prefix : {T A : Type 0} (D : Grammar T A) (ts us : List T) → Continues D (ts ++ us) → Continues D ts
continues_prefix D ts us (more, a, d) = (us ++ more, a, subst (λ z. D Anywhere z a) (append_assoc ts us more) d)

module _ {T A : Type 0} (limit : ℕ) (D : Grammar T A) where
  lenient_anywhere : Lenient limit (Anywhere {T = T})
  lenient_anywhere c us l = tt

  lenient_within : (n : ℕ) → Lenient limit (Within {T = T} limit n)
  lenient_within n c us l h = l

  free_within : (ts : List T) (n : ℕ) → length ts ≤ n → Free ts (Within limit n)
  free_within ts n l c us h i = absurd (omega arith)

  completed : (w spare : List T) (j : Completes limit (All D) Nothing w spare) (M : May T) → Lenient limit M → Free (spare ++ j.tokens) M
      → D M (w ++ (spare ++ j.tokens)) j.value
  completed w spare j M l free =
      subst (λ z. D M (w ++ (spare ++ z)) j.value) (append-nil j.tokens)
      (j.holds M l [] (subst (λ z. Free (spare ++ z) M) (sym (append-nil j.tokens)) free) tt).0

  goes_by : (w : List T) → Completes limit (All D) Nothing w [] → ContinuesWithin D limit 0 w
  goes_by w j = (
    j.tokens,
    j.value,
    length j.tokens,
    omega arith,
    completed w [] j Anywhere lenient_anywhere (λ c us h. tt),
    completed w [] j (Within limit (length j.tokens)) (lenient_within _) (free_within j.tokens _ (omega arith)),
  )

  module _ (p : Parser T A) (law : Law limit p (All D) Nothing) where
    done_derived : (ts : List T) (a : A) (r : List T) → Done limit p (All D) Nothing ts a r → (M : May T) → Lenient limit M → D M ts a
    done_derived ts a r j M l = subst (λ z. D M z a) (sym j.whole) (j.derived r (alike_self (λ t. ⊥) r) M l).0

    -- a fault at a token does not come earlier
    not_earlier : {Q : Type 0} (w : List T) (t : T) (rest : List T) (k : Fault) → p (w ++ t ∷ rest) ≡ fault k (suc (length rest))
        → (l : Fault) (n : ℕ) → Failed limit p (All D) Nothing w l n → Q
    not_earlier w t rest k e l n j =
        let y : List T = j.at.rest in
        let same : w ++ t ∷ rest ≡ j.at.front ++ j.at.token ∷ (y ++ t ∷ rest) = ap (λ z. z ++ t ∷ rest) j.at.whole ∙ append_assoc j.at.front (j.at.token ∷ y) (t ∷ rest) in
        let h : suc (length (y ++ t ∷ rest)) ≡ suc (length rest) = fault_left (sym (j.stays (y ++ t ∷ rest)) ∙ (ap p (sym same) ∙ e)) in
        let i : length (y ++ t ∷ rest) ≡ length y + length (t ∷ rest) = length-append y (t ∷ rest) in
        absurd (omega arith)

    goes_before : (w : List T) (t : T) (rest : List T) (k : Fault) → p (w ++ t ∷ rest) ≡ fault k (suc (length rest)) → (o : Answer T A)
        → Judge limit p (All D) Nothing w o → ContinuesWithin D limit 0 w
    goes_before w t rest k e (done a r) j =
        let at : (M : May T) → Lenient limit M → D M (w ++ []) a = λ M l. subst (λ z. D M z a) (sym (append-nil w)) (done_derived w a r j M l) in
        ([], a, 0, omega arith, at Anywhere lenient_anywhere, at (Within limit 0) (lenient_within 0))
    goes_before w t rest k e (fault unexpected zero) j = goes_by w j.completes
    goes_before w t rest k e (fault unexpected (suc n)) j = not_earlier w t rest k e unexpected n j
    goes_before w t rest k e (fault deep zero) j = absurd (j tt)
    goes_before w t rest k e (fault deep (suc n)) j = not_earlier w t rest k e deep n j

    -- the place of a fault, and the tokens before and up to it
    module _ (ts : List T) (k : Fault) (n : ℕ) (j : Failed limit p (All D) Nothing ts k n) where
      sizes : length ts ≡ length j.at.front + suc n
      sizes = ap length j.at.whole ∙ (length-append j.at.front (j.at.token ∷ j.at.rest) ∙ (let e = j.at.place in omega arith))

      before : take (length ts - suc n) ts ≡ j.at.front
      before = ap (take (length ts - suc n)) j.at.whole ∙ take_at j.at.front (j.at.token ∷ j.at.rest) (length ts - suc n) (let e = sizes in omega arith)

      up_to : take (suc (length ts - suc n)) ts ≡ j.at.front ++ j.at.token ∷ []
      up_to =
          let e : suc (length ts - suc n) ≡ length j.at.front + 1 = (let s = sizes in omega arith) in
          let v : List T = j.at.front ++ j.at.token ∷ [] in
          let s : ts ≡ v ++ j.at.rest = j.at.whole ∙ sym (append_assoc j.at.front (j.at.token ∷ []) j.at.rest) in
          ap (take (suc (length ts - suc n))) s ∙ take_at v j.at.rest (suc (length ts - suc n)) (length-append j.at.front (j.at.token ∷ []) ∙ sym e)

      spread : (x : List T) → take (suc (length ts - suc n)) ts ++ x ≡ j.at.front ++ j.at.token ∷ x
      spread x = ap (λ z. z ++ x) up_to ∙ append_assoc j.at.front (j.at.token ∷ []) x

      goes_there : ContinuesWithin D limit 0 (take (length ts - suc n) ts)
      goes_there = subst (ContinuesWithin D limit 0) (sym before) (goes_before j.at.front j.at.token j.at.rest k (j.stays j.at.rest) (p j.at.front) (law.at j.at.front))

      inside : length ts - suc n < length ts
      inside = let s = sizes in omega arith

      nothing_there : (M : May T) (x : List T) → Barred limit k x M → (a : A) → D M (take (suc (length ts - suc n)) ts ++ x) a → ⊥
      nothing_there M x b a d = j.none x M b a [] (subst (λ z. D M z a) (spread x) d, refl) tt

    unexpected_at : (ts : List T) (n : ℕ) → Failed limit p (All D) Nothing ts unexpected n → IsUnexpected D limit ts (length ts - suc n)
    unexpected_at ts n j = let inside' = inside ts unexpected n j in record {
      place = omega arith;
      before = goes_there ts unexpected n j;
      token = λ h (more, a, d). nothing_there ts unexpected n j Anywhere more tt a d;
      end = λ h. absurd (omega arith);
    }

    deep_at : (ts : List T) (n : ℕ) → Failed limit p (All D) Nothing ts deep n → IsDeep D limit ts (length ts - suc n)
    deep_at ts n j =
        let c : Completes limit (All D) Nothing j.at.front (j.at.token ∷ []) = j.reaches in
        let here : (M : May T) → Lenient limit M → Free (j.at.token ∷ c.tokens) M → D M (take (suc (length ts - suc n)) ts ++ c.tokens) c.value =
        λ M l free. subst (λ z. D M z c.value) (sym (spread ts deep n j c.tokens)) (completed j.at.front (j.at.token ∷ []) c M l free) in
        let size : ℕ = suc (length c.tokens) in
        record {
          place = inside ts deep n j;
          before = (
            c.tokens,
            c.value,
            size,
            omega arith,
            here Anywhere lenient_anywhere (λ c us h. tt),
            here (Within limit size) (lenient_within size) (free_within (j.at.token ∷ c.tokens) size (omega arith)),
          );
          each = λ (more, a, free, l, d, e). nothing_there ts deep n j (Within limit free) more (λ c us h may. may (omega arith)) a e;
        }

    ended_at : (ts : List T) (m : ℕ) → m ≡ length ts → Wants limit p (All D) Nothing ts → IsUnexpected D limit ts m
    ended_at ts m e j = record {
      place = omega arith;
      before = subst (ContinuesWithin D limit 0) (sym (take_all m ts (omega arith))) (goes_by ts j.completes);
      token = λ h. absurd (omega arith);
      end = λ h a d. j.none Anywhere a [] (d, refl) tt;
    }

    tells_by : (ts : List T) (o : Answer T A) → Judge limit p (All D) Nothing ts o → Tells D limit ts o
    tells_by ts (done a r) j = (
      record {
        derived = done_derived ts a r j Anywhere lenient_anywhere;
        within = done_derived ts a r j (Within limit 0) (lenient_within 0);
        only = λ b d. (j.only r (alike_self (λ t. ⊥) r) Anywhere b [] (subst (λ z. D Anywhere z b) j.whole d, refl) tt).0;
      },
      (j.derived r (alike_self (λ t. ⊥) r) Anywhere lenient_anywhere).1,
    )
    tells_by ts (fault unexpected zero) j = (omega arith, ended_at ts (length ts - 0) (omega arith) j)
    tells_by ts (fault unexpected (suc n)) j = (let s = sizes ts unexpected n j in omega arith, unexpected_at ts n j)
    tells_by ts (fault deep zero) j = absurd (j tt)
    tells_by ts (fault deep (suc n)) j = (let s = sizes ts deep n j in omega arith, deep_at ts n j)

    -- the answer is the tree, or tells the first fault
    pub tells : (ts : List T) → Tells D limit ts (p ts)
    tells ts = tells_by ts (p ts) (law.at ts)
