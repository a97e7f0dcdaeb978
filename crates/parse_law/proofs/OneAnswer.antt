-- A list of tokens has one answer, and one tree.
use Rattle.std.proofs.Common.{◌≡◌, ℕ, zero, suc, ◌+◌, ◌-◌, ◌<◌, ◌≤◌, Bool, true, false, nat_lt, List, [], ◌++◌, length, take, drop, refl, sym, ap, subst, ◌∙◌, append_assoc, length-append, arith}
use Rattle.std.proofs.lemmas.List.{take-take, take-append-drop, length-drop, length-take-le}
use Rattle.std.proofs.lemmas.Bool.{ltb-true, ltb-false}
use Rattle.parse_law.specs.tools.Parsing.{unexpected, deep, Answer, done, fault, Parser}
use Rattle.parse_law.specs.Nesting.{May, Anywhere, Within, Grammar}
use Rattle.parse_law.specs.FirstFault.{Continues, ContinuesWithin, IsParsed, IsUnexpected, IsDeep}
use Rattle.parse_law.specs.Tells.{Tells}
use Rattle.parse_law.proofs.Forms.{Lenient, Judge, Law}
use Rattle.parse_law.proofs.Bind.{alike_self}
use Rattle.parse_law.proofs.Steps.{Nothing}
use Rattle.parse_law.proofs.Verdicts.{All, continues_prefix}

-- fewer of the tokens
shorter : {T : Type 0} (ts : List T) (m n : ℕ) → m ≤ n → take n ts ≡ take m ts ++ drop m (take n ts)
shorter ts m n l = sym (take-append-drop m (take n ts)) ∙ ap (λ z. z ++ drop m (take n ts)) (take-take m n ts l)

same_number : (m n : ℕ) → (m < n → ⊥) → (n < m → ⊥) → m ≡ n
same_number m n below above = by_tests (nat_lt m n) (nat_lt n m) refl refl
  where
    by_tests : (b c : Bool) → nat_lt m n ≡ b → nat_lt n m ≡ c → m ≡ n
    by_tests true c e f = absurd (below (ltb-true m n e))
    by_tests false true e f = absurd (above (ltb-true n m f))
    by_tests false false e f = let h : n ≤ m = ltb-false m n e in let i : m ≤ n = ltb-false n m f in omega arith

less_or_equal : {Q : Type 0} (m n : ℕ) → (m < n → Q) → (n ≤ m → Q) → Q
less_or_equal {Q} m n below above = by_test (nat_lt m n) refl
  where
    by_test : (b : Bool) → nat_lt m n ≡ b → Q
    by_test true e = below (ltb-true m n e)
    by_test false e = above (ltb-false m n e)

module _ {T A : Type 0} (D : Grammar T A) (limit : ℕ) (ts : List T) where
  -- of fewer tokens none is late
  within_less : (last m n : ℕ) → m + last ≤ n → n ≤ length ts → ContinuesWithin D limit last (take n ts) → ContinuesWithin D limit 0 (take m ts)
  within_less last m n l o (more, a, free, h, d, e) =
      let v : List T = drop m (take n ts) in
      let same : take n ts ++ more ≡ take m ts ++ (v ++ more) = ap (λ z. z ++ more) (shorter ts m n (omega arith)) ∙ append_assoc (take m ts) v more in
      let i : length (v ++ more) ≡ length v + length more = length-append v more in
      let j : length v ≡ length (take n ts) - m = length-drop m (take n ts) in
      let k : length (take n ts) ≡ n = length-take-le n ts o in
      (v ++ more, a, free, omega arith, subst (λ z. D Anywhere z a) same d, subst (λ z. D (Within limit free) z a) same e)

  continues_less : (last m n : ℕ) → m ≤ n → ContinuesWithin D limit last (take n ts) → Continues D (take m ts)
  continues_less last m n l (more, a, free, h, d, e) =
      continues_prefix D (take m ts) (drop m (take n ts)) (more, a, subst (λ z. D Anywhere (z ++ more) a) (shorter ts m n l) d)

  parsed_unexpected : (a : A) (k : ℕ) → IsParsed D limit ts a → IsUnexpected D limit ts k → ⊥
  parsed_unexpected a k p u =
      less_or_equal k (length ts)
      (λ l. u.token l (drop (suc k) ts, a, subst (λ z. D Anywhere z a) (sym (take-append-drop (suc k) ts)) p.derived)) (λ l. u.end l a p.derived)

  parsed_deep : (a : A) (k : ℕ) → IsParsed D limit ts a → IsDeep D limit ts k → ⊥
  parsed_deep a k p d =
      let same : ts ≡ take (suc k) ts ++ drop (suc k) ts = sym (take-append-drop (suc k) ts) in
      d.each (drop (suc k) ts, a, 0, omega arith, subst (λ z. D Anywhere z a) same p.derived, subst (λ z. D (Within limit 0) z a) same p.within)

  unexpected_later : (k m : ℕ) → IsUnexpected D limit ts k → IsUnexpected D limit ts m → k < m → ⊥
  unexpected_later k m u v l = let h = v.place in u.token (omega arith) (continues_less 0 (suc k) m l v.before)

  unexpected_deep : (k m : ℕ) → IsUnexpected D limit ts k → IsDeep D limit ts m → ⊥
  unexpected_deep k m u d =
      less_or_equal m k (λ l. d.each (within_less 0 (suc m) k (omega arith) u.place u.before))
      (λ l. let h = d.place in u.token (omega arith) (continues_less 1 (suc k) (suc m) (omega arith) d.before))

  deep_later : (k m : ℕ) → IsDeep D limit ts k → IsDeep D limit ts m → k < m → ⊥
  deep_later k m d e l = d.each (within_less 1 (suc k) (suc m) (omega arith) e.place e.before)

  left_of : (m n : ℕ) → m ≤ length ts → n ≤ length ts → length ts - m ≡ length ts - n → m ≡ n
  left_of m n h i e = omega arith

  -- the definitions leave no choice of an answer
  pub one_answer : (o other : Answer T A) → Tells D limit ts o → Tells D limit ts other → o ≡ other
  one_answer (done a r) (done b s) (p, e) (q, f) = ap (λ z. done z r) (p.only b q.derived) ∙ ap (done b) (e ∙ sym f)
  one_answer (done a r) (fault unexpected n) (p, e) (l, u) = absurd (parsed_unexpected a _ p u)
  one_answer (done a r) (fault deep n) (p, e) (l, d) = absurd (parsed_deep a _ p d)
  one_answer (fault unexpected n) (done b s) (l, u) (p, e) = absurd (parsed_unexpected b _ p u)
  one_answer (fault unexpected n) (fault unexpected m) (l, u) (k, v) =
      ap (fault unexpected) (left_of n m l k (same_number _ _ (unexpected_later _ _ u v) (unexpected_later _ _ v u)))
  one_answer (fault unexpected n) (fault deep m) (l, u) (k, d) = absurd (unexpected_deep _ _ u d)
  one_answer (fault deep n) (done b s) (l, d) (p, e) = absurd (parsed_deep b _ p d)
  one_answer (fault deep n) (fault unexpected m) (l, d) (k, u) = absurd (unexpected_deep _ _ u d)
  one_answer (fault deep n) (fault deep m) (l, d) (k, e) =
      ap (fault deep) (left_of n m l k (same_number _ _ (deep_later _ _ d e) (deep_later _ _ e d)))

-- derived under some limit
abbrev pub Bounded : {T : Type 0} → (May T → Type 0) → Type 1
Bounded {T} D = (limit : ℕ) × ((M : May T) → Lenient limit M → D M)

-- where each derivation keeps to some limit, a list has one tree, however deep
module _ {T A : Type 0} (D : Grammar T A) (p : ℕ → Parser T A) (laws : (limit : ℕ) → Law limit (p limit) (All D) Nothing)
    (bounded : (ts : List T) (a : A) → D Anywhere ts a → Bounded (λ M. D M ts a)) where
  one_by : (limit : ℕ) (ts : List T) (a b : A) → D (Within limit 0) ts a → D (Within limit 0) ts b → (o : Answer T A)
      → Judge limit (p limit) (All D) Nothing ts o → a ≡ b
  one_by limit ts a b d e (done c r) j =
      let only : (x : A) → D (Within limit 0) ts x → c ≡ x = λ x g.
      (j.only r (alike_self (λ t. ⊥) r) (Within limit 0) x [] (subst (λ z. D (Within limit 0) z x) j.whole g, refl) tt).0 in
      sym (only a d) ∙ only b e
  one_by limit ts a b d e (fault unexpected zero) j = absurd (j.none (Within limit 0) a [] (d, refl) tt)
  one_by limit ts a b d e (fault unexpected (suc n)) j =
      absurd (j.none j.at.rest (Within limit 0) tt a [] (subst (λ z. D (Within limit 0) z a) j.at.whole d, refl) tt)
  one_by limit ts a b d e (fault deep zero) j = absurd (j tt)
  one_by limit ts a b d e (fault deep (suc n)) j =
      absurd (j.none j.at.rest (Within limit 0) (λ c us l may. may (omega arith)) a [] (subst (λ z. D (Within limit 0) z a) j.at.whole d, refl) tt)

  pub one_tree : (ts : List T) (a b : A) → D Anywhere ts a → D Anywhere ts b → a ≡ b
  one_tree ts a b d e =
      let (m, f) = bounded ts a d in
      let (n, g) = bounded ts b e in
      one_by (m + n) ts a b (f (Within (m + n) 0) (λ c us l h. omega arith)) (g (Within (m + n) 0) (λ c us l h. omega arith)) (p (m + n) ts) ((laws (m + n)).at ts)
