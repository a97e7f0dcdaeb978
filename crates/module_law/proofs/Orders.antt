-- The orders of keys and of points.
use Rattle.std.proofs.Common.{◌≡◌, ℕ, ◌<◌, ◌⊎◌, inl, inr, Bool, true, false, ◌&&◌, nat_eq, nat_lt, refl, sym, ap, ◌∙◌, arith}
use Rattle.std.specs.Prelude.{if◌then◌else◌}
use Rattle.std.proofs.lemmas.Bool.{cases_lt, eq-eqb, eqb-true, le-ltb, lt-ltb, ltb-true, ne_eqb}
use Rattle.dfi_base.specs.declared.numbers.Point.{Point}
use Rattle.tac_ir.specs.declared.module.Key.{Key}
use Rattle.tac_ir.specs.Module.{key_before, pair_before, point_before}
use Rattle.tac_ir.specs.Accesses.{is_same_key}
use Rattle.flow_rules.specs.Tables.{is_point}
use Rattle.module_law.proofs.Ascending.{both, never, not_both}

-- at the first place where they differ, the first has the lesser
abbrev pub IsBefore : ℕ → ℕ → ℕ → ℕ → Type 0
IsBefore a b c d = (a < c) ⊎ ((a ≡ c) × (b < d))

pub is_before : (a b c d : ℕ) → pair_before a b c d ≡ true → IsBefore a b c d
is_before a b c d h = by (nat_lt a c) refl h where
  by : (t : Bool) → nat_lt a c ≡ t → (if t then true else (nat_eq a c && nat_lt b d)) ≡ true → IsBefore a b c d
  by true is h = inl (ltb-true a c is)
  by false is h = let parts = both (nat_eq a c) (nat_lt b d) h in inr (eqb-true a c parts.0, ltb-true b d parts.1)

pub before_is : (a b c d : ℕ) → IsBefore a b c d → pair_before a b c d ≡ true
before_is a b c d (inl low) = ap (λ t. if t then true else (nat_eq a c && nat_lt b d)) (lt-ltb a c low)
before_is a b c d (inr (is, low)) =
    ap (λ t. if t then true else (nat_eq a c && nat_lt b d)) (le-ltb a c (omega (arith, is))) ∙ ap (λ t. t && nat_lt b d) (eq-eqb a c is) ∙ lt-ltb b d low

pub through : (a b c d e f : ℕ) → IsBefore a b c d → IsBefore c d e f → IsBefore a b e f
through a b c d e f (inl x) (inl y) = inl (omega (arith, x, y))
through a b c d e f (inl x) (inr (is, y)) = inl (omega (arith, x, is))
through a b c d e f (inr (is, x)) (inl y) = inl (omega (arith, is, y))
through a b c d e f (inr (is, x)) (inr (same, y)) = inr (is ∙ same, omega (arith, x, y))

pub pairs_differ : (a b c d : ℕ) → IsBefore a b c d → (nat_eq a c && nat_eq b d) ≡ false
pairs_differ a b c d before = never (nat_eq a c && nat_eq b d) (λ h. let parts = both (nat_eq a c) (nat_eq b d) h in let x = eqb-true a c parts.0 in let y = eqb-true b d parts.1 in clash before x y) where
  clash : IsBefore a b c d → a ≡ c → b ≡ d → ⊥
  clash (inl low) x y = omega (arith, low, x)
  clash (inr (is, low)) x y = omega (arith, low, y)

pub pairs_turned : (a b c d : ℕ) → IsBefore a b c d → (nat_eq c a && nat_eq d b) ≡ false
pairs_turned a b c d before = never (nat_eq c a && nat_eq d b) (λ h. let parts = both (nat_eq c a) (nat_eq d b) h in let x = eqb-true c a parts.0 in let y = eqb-true d b parts.1 in clash before x y) where
  clash : IsBefore a b c d → c ≡ a → d ≡ b → ⊥
  clash (inl low) x y = omega (arith, low, x)
  clash (inr (is, low)) x y = omega (arith, low, y)

pub pairs_total : (a b c d : ℕ) → IsBefore a b c d ⊎ ((a ≡ c) × (b ≡ d)) ⊎ IsBefore c d a b
pairs_total a b c d = elim (cases_lt a c) [
  | inl low ↦ inl (inl low)
  | inr high ↦ elim (cases_lt c a) [
    | inl low ↦ inr (inr (inl low))
    | inr more ↦ (let is : a ≡ c = omega (arith, high, more) in elim (cases_lt b d) [
      | inl low ↦ inl (inr (is, low))
      | inr up ↦ elim (cases_lt d b) [ inl low ↦ inr (inr (inr (sym is, low))) | inr down ↦ inr (inl (is, omega (arith, up, down))) ]
    ])
  ]
]

-- Points.

pub same_point : (p q : Point) → is_point p q ≡ true → p ≡ q
same_point p q h =
    let parts = both (nat_eq p.fun q.fun) (nat_eq p.at q.at) h in
    let f = eqb-true p.fun q.fun parts.0 in
    let a = eqb-true p.at q.at parts.1 in
    λ i. record { fun = f i; at = a i }

pub point_itself : (p : Point) → is_point p p ≡ true
point_itself p = ap (λ t. t && nat_eq p.at p.at) (eq-eqb p.fun p.fun refl) ∙ eq-eqb p.at p.at refl

pub point_after : (p q r : Point) → point_before p q ≡ true → point_before q r ≡ true → point_before p r ≡ true
point_after p q r x y = before_is p.fun p.at r.fun r.at (through p.fun p.at q.fun q.at r.fun r.at (is_before p.fun p.at q.fun q.at x) (is_before q.fun q.at r.fun r.at y))

pub points_apart : (p q : Point) → point_before p q ≡ true → (is_point p q ≡ false) × (is_point q p ≡ false)
points_apart p q x = (pairs_differ p.fun p.at q.fun q.at (is_before p.fun p.at q.fun q.at x), pairs_turned p.fun p.at q.fun q.at (is_before p.fun p.at q.fun q.at x))

pub points_total : (p q : Point) → (point_before p q ≡ true) ⊎ (p ≡ q) ⊎ (point_before q p ≡ true)
points_total p q = elim (pairs_total p.fun p.at q.fun q.at) [
  | inl low ↦ inl (before_is p.fun p.at q.fun q.at low)
  | inr (inl (f, a)) ↦ inr (inl (λ i. record { fun = f i; at = a i }))
  | inr (inr high) ↦ inr (inr (before_is q.fun q.at p.fun p.at high))
]

-- Keys.

pub same_key : (a b : Key) → is_same_key a b ≡ true → a ≡ b
same_key (Key.Temp f t) (Key.Temp g u) h =
    let parts = both (nat_eq f g) (nat_eq t u) h in
    let x = eqb-true f g parts.0 in
    let y = eqb-true t u parts.1 in
    λ i. Key.Temp (x i) (y i)
same_key (Key.Node n) (Key.Node k) h = ap Key.Node (eqb-true n k h)
same_key (Key.Temp f t) (Key.Node k) h = absurd (not_both h)
same_key (Key.Node n) (Key.Temp g u) h = absurd (not_both h)

pub key_itself : (a : Key) → is_same_key a a ≡ true
key_itself (Key.Temp f t) = ap (λ b. b && nat_eq t t) (eq-eqb f f refl) ∙ eq-eqb t t refl
key_itself (Key.Node n) = eq-eqb n n refl

pub key_after : (a b c : Key) → key_before a b ≡ true → key_before b c ≡ true → key_before a c ≡ true
key_after (Key.Temp f t) (Key.Temp g u) (Key.Temp h v) x y = before_is f t h v (through f t g u h v (is_before f t g u x) (is_before g u h v y))
key_after (Key.Temp f t) b (Key.Node k) x y = refl
key_after (Key.Temp f t) (Key.Node n) (Key.Temp h v) x y = absurd (not_both y)
key_after (Key.Node n) (Key.Temp g u) c x y = absurd (not_both x)
key_after (Key.Node n) (Key.Node k) (Key.Temp h v) x y = absurd (not_both y)
key_after (Key.Node n) (Key.Node k) (Key.Node l) x y = let p = ltb-true n k x in let q = ltb-true k l y in lt-ltb n l (omega (arith, p, q))

pub keys_apart : (a b : Key) → key_before a b ≡ true → (is_same_key a b ≡ false) × (is_same_key b a ≡ false)
keys_apart (Key.Temp f t) (Key.Temp g u) x = (pairs_differ f t g u (is_before f t g u x), pairs_turned f t g u (is_before f t g u x))
keys_apart (Key.Temp f t) (Key.Node k) x = (refl, refl)
keys_apart (Key.Node n) (Key.Temp g u) x = absurd (not_both x)
keys_apart (Key.Node n) (Key.Node k) x = let low = ltb-true n k x in (ne_eqb n k (λ e. omega (arith, low, e)), ne_eqb k n (λ e. omega (arith, low, e)))

pub keys_total : (a b : Key) → (key_before a b ≡ true) ⊎ (a ≡ b) ⊎ (key_before b a ≡ true)
keys_total (Key.Temp f t) (Key.Temp g u) = elim (pairs_total f t g u) [
  | inl low ↦ inl (before_is f t g u low)
  | inr (inl (x, y)) ↦ inr (inl (λ i. Key.Temp (x i) (y i)))
  | inr (inr high) ↦ inr (inr (before_is g u f t high))
]
keys_total (Key.Temp f t) (Key.Node k) = inl refl
keys_total (Key.Node n) (Key.Temp g u) = inr (inr refl)
keys_total (Key.Node n) (Key.Node k) = elim (cases_lt n k) [
  | inl low ↦ inl (lt-ltb n k low)
  | inr high ↦ elim (cases_lt k n) [ inl low ↦ inr (inr (lt-ltb k n low)) | inr more ↦ inr (inl (ap Key.Node (omega (arith, high, more)))) ]
]
