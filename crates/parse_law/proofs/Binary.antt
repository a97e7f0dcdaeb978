-- Operators of one level, from the left.
use Rattle.std.proofs.Common.{◌≡◌, ℕ, suc, ◌≤◌, ◌⊎◌, inl, inr, true, Option, Some, None, List, [], ◌∷◌, ◌++◌, refl, sym, ap, subst, arith}
use Rattle.std.specs.Prelude.{is_some}
use Rattle.parse_law.specs.tools.Parsing.{Parser, ◌>>=◌, ◌<$>◌, accept, joined, operand, operators, binary}
use Rattle.parse_law.specs.Nesting.{May}
use Rattle.parse_law.proofs.Forms.{Form, Fits, Completes, Judge, Law}
use Rattle.parse_law.proofs.Bind.{Seq, Leads, bind, bind_good}
use Rattle.parse_law.proofs.Steps.{Any, fits_any, Token, accept_law, Map, map_law, false_true}
use Rattle.parse_law.proofs.Carry.{fits_fewer}
use Rattle.parse_law.proofs.FirstTokens.{rise}
use Rattle.parse_law.proofs.Repeat.{repeat_law, Takes, takes_first, takes_accept, takes_rising}

some_true : {A : Type 0} (o : Option A) → is_some o ≡ true → (a : A) × (o ≡ Some a)
some_true (Some a) e = (a, refl)
some_true None e = false_true e

-- `Lower c` is an operand with the counter c before it, and a chain is what comes behind one; a value has the counter behind it
module _ {T A : Type 0} (limit : ℕ) (operator : T → Option (A → A → A)) (lower : ℕ → Parser T (A × ℕ))
    (Lower : ℕ → Form T (A × ℕ)) (Chain : (A × ℕ) → Form T (A × ℕ))
    (S F : T → Type 0)
    (stop : (M : May T) (v : A × ℕ) (ts : List T) → Chain v M ts v ts)
    (go : (M : May T) (v w z : A × ℕ) (f : A → A → A) (t : T) (us m r : List T) → operator t ≡ Some f → M v.1 (t ∷ us) → Lower (suc v.1) M us w m
    → Chain (f v.0 w.0, w.1) M m z r → Chain v M (t ∷ us) z r)
    (split : (M : May T) (v z : A × ℕ) (ts r : List T) → Chain v M ts z r
    → ((v ≡ z) × (ts ≡ r)) ⊎ ((t : T) × (us : List T) × (f : A → A → A) × (w : A × ℕ) × (m : List T)
    × (ts ≡ t ∷ us) × (operator t ≡ Some f) × M v.1 (t ∷ us) × Lower (suc v.1) M us w m × Chain (f v.0 w.0, w.1) M m z r))
    (apart : (t : T) → F t → operator t ≡ None)
    (wide : (t : T) → F t → S t) (follows : (t : T) (f : A → A → A) → operator t ≡ Some f → S t)
    (whole : (c : ℕ) → Completes limit (Lower c) (λ v. S) [] [])
    -- the counters at which the operands are known
    (Good : ℕ → Type 0) (up : (c d : ℕ) → c ≤ d → Good c → Good d)
    (rises : (M : May T) (c : ℕ) (ts : List T) (w : A × ℕ) (r : List T) → Lower c M ts w r → c ≤ w.1)
    (law : (c : ℕ) → Good c → Law limit (lower c) (Lower c) (λ v. S)) where
  abbrev Right : (A × ℕ) → ℕ → Form T (A × ℕ)
  Right v c = Seq (Token operator) (λ f. Map (joined v f) (Lower c))

  abbrev Operand : (A × ℕ) → Form T (A × ℕ)
  Operand v M ts w m = M v.1 ts × Right v (suc v.1) M ts w m

  abbrev right : (A × ℕ) → ℕ → Parser T (A × ℕ)
  right v c = accept operator >>= (λ f. joined v f <$> lower c)

  abbrev Known : (A × ℕ) → Type 0
  Known v = Good v.1

  right_completes : (v : A × ℕ) (c : ℕ) (t : T) (f : A → A → A) → operator t ≡ Some f → Completes limit (Right v c) (λ v. S) [] (t ∷ [])
  right_completes v c t f e = let w : Completes limit (Lower c) (λ v. S) [] [] = whole c in record {
    tokens = w.tokens;
    value = joined v f w.value;
    holds = λ M l r free h. (f, w.tokens ++ r, (t, refl, e), (w.value, refl, w.holds M l r (λ d us i. free d us (omega arith)) h));
  }

  mapped_completes : (v : A × ℕ) (c : ℕ) (f : A → A → A) → Completes limit (Map (joined v f) (Lower c)) (λ v. S) [] []
  mapped_completes v c f = let w : Completes limit (Lower c) (λ v. S) [] [] = whole c in record {
    tokens = w.tokens;
    value = joined v f w.value;
    holds = λ M l r free h. (w.value, refl, w.holds M l r free h);
  }

  right_law : (v : A × ℕ) (c : ℕ) → Good c → (t : T) (f : A → A → A) → operator t ≡ Some f → Law limit (right v c) (Right v c) (λ v. S)
  right_law v c g t f e =
      bind limit (accept operator) (Token operator) Any (λ f. joined v f <$> lower c) (λ f. Map (joined v f) (Lower c)) (λ v. S)
      (λ f M m b r d h. fits_any f m) (mapped_completes v c) (accept_law limit operator Any t f e) (λ f. map_law limit (joined v f) (lower c) (Lower c) (λ v. S) (law c g))

  operand_law : (v : A × ℕ) → Known v → (t : T) (us : List T) → is_some (operator t) ≡ true
      → Judge limit (operand limit operator lower v) (Operand v) (λ v. S) (t ∷ us) (operand limit operator lower v (t ∷ us))
  operand_law v g t us e =
      let (f, s) = some_true (operator t) e in
      rise limit v.1 (operand limit operator lower v) (right v (suc v.1)) (Operand v) (Right v (suc v.1)) (λ v. S) t
      (λ M vs a r may d. (may, d)) (λ M vs a r d h. d) (λ vs. refl) (right_completes v (suc v.1) t f s)
      (λ less. right_law v (suc v.1) (up v.1 (suc v.1) (omega arith) g) t f s) us

  operand_takes : (v : A × ℕ) → Known v → Takes (operand limit operator lower v)
  operand_takes v g =
      takes_rising limit v.1 (λ c. right v c)
      (takes_first limit (accept operator) (λ f. joined v f <$> lower (suc v.1)) (λ f. Map (joined v f) (Lower (suc v.1))) (λ v. S) (takes_accept operator)
      (λ f. map_law limit (joined v f) (lower (suc v.1)) (Lower (suc v.1)) (λ v. S) (law (suc v.1) (up v.1 (suc v.1) (omega arith) g))))

  chain_split : (M : May T) (v z : A × ℕ) (ts r : List T) → Chain v M ts z r → ((v ≡ z) × (ts ≡ r)) ⊎ Seq (Operand v) Chain M ts z r
  chain_split M v z ts r d = by_split (split M v z ts r d)
    where
      by_split : ((v ≡ z) × (ts ≡ r)) ⊎ ((t : T) × (us : List T) × (f : A → A → A) × (w : A × ℕ) × (m : List T)
          × (ts ≡ t ∷ us) × (operator t ≡ Some f) × M v.1 (t ∷ us) × Lower (suc v.1) M us w m × Chain (f v.0 w.0, w.1) M m z r)
          → ((v ≡ z) × (ts ≡ r)) ⊎ Seq (Operand v) Chain M ts z r
      by_split (inl q) = inl q
      by_split (inr (t, us, f, w, m, e, g, may, d, ds)) = inr (joined v f w, m, (subst (M v.1) (sym e) may, (f, us, (t, e, g), (w, refl, d))), ds)

  chain_go : (M : May T) (v y z : A × ℕ) (ts m r : List T) → Operand v M ts y m → Chain y M m z r → Chain v M ts z r
  chain_go M v y z ts m r (may, (f, us, (t, e, g), (w, q, d))) ds =
      subst (λ s. Chain v M s z r) (sym e)
      (go M v w z f t us m r g (subst (M v.1) e may) d (subst (λ u. Chain u M m z r) (sym q) ds))

  operand_good : (M : May T) (v y : A × ℕ) (ts m : List T) → Known v → Operand v M ts y m → Known y
  operand_good M v y ts m g (may, (f, us, t, (w, q, d))) =
      subst Known q (up v.1 w.1 (let h : suc v.1 ≤ w.1 = rises M (suc v.1) us w m d in omega arith) g)

  pub chain_leads : (v : A × ℕ) → Leads (Chain v) (λ v. F) S
  chain_leads v M ts z r d h = by_split (split M v z ts r d)
    where
      by_split : ((v ≡ z) × (ts ≡ r)) ⊎ ((t : T) × (us : List T) × (f : A → A → A) × (w : A × ℕ) × (m : List T)
          × (ts ≡ t ∷ us) × (operator t ≡ Some f) × M v.1 (t ∷ us) × Lower (suc v.1) M us w m × Chain (f v.0 w.0, w.1) M m z r) → Fits S ts
      by_split (inl q) = subst (Fits S) (sym q.1) (fits_fewer wide r h)
      by_split (inr (t, us, f, w, m, e, g, may, d, ds)) = subst (Fits S) (sym e) (follows t f g)

  pub chain_completes : (v : A × ℕ) → Completes limit (Chain v) (λ v. F) [] []
  chain_completes v = record { tokens = []; value = v; holds = λ M l r free h. stop M v r }

  pub operators_law : (v : A × ℕ) → Good v.1 → Law limit (operators limit operator lower v) (Chain v) (λ v. F)
  operators_law v g =
      repeat_law limit (λ t. is_some (operator t)) (operand limit operator lower) Operand Chain (λ v. S) (λ v. F)
      stop chain_go chain_split
      (λ M v y ts m (may, (f, us, (t, e, s), d)). (t, us, e, ap is_some s))
      (λ v t h. ap is_some (apart t h)) chain_leads Known operand_good operand_law operand_takes v g

  -- an operand and its chain
  pub binary_law : (c : ℕ) → Good c → Law limit (binary limit operator lower c) (Seq (Lower c) Chain) (λ v. F)
  binary_law c g =
      bind_good limit (lower c) (Lower c) (λ v. S) (operators limit operator lower) Chain (λ v. F) chain_leads chain_completes
      (λ v. c ≤ v.1) (λ ts v r d. rises _ c ts v r d) (law c g) (λ v h. operators_law v (up c v.1 h g))
