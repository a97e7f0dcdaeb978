-- A number of a range and its end are its decimal spelling and a byte that may end it.
use Rattle.std.proofs.Common.{◌≡◌, ℕ, zero, suc, ◌+◌, ◌-◌, ◌*◌, ◌/◌, ◌%◌, ◌^◌, ◌<◌, ◌≤◌, ◌⊎◌, inl, inr, Bool, true, false, ◌&&◌, List, [], ◌∷◌, ◌++◌, length, Option, Some, None, refl, sym, ap, subst, ◌∙◌, append_assoc, append-nil, arith}
use Rattle.std.specs.Prelude.{nat_le, nat_eq, nat_lt, if◌then◌else◌}
use Rattle.std.specs.Fmt.{decimal}
use Rattle.std.proofs.lemmas.Fmt.{decimal_step, decimal_digit}
use Rattle.std.proofs.lemmas.Bool.{leb-true, leb-false, le-leb, lt-leb, eqb-true, eq-eqb, ltb-true, cases_lt}
use Rattle.line_format.specs.tools.Format.{Next, more, last, Format, give, byte, chain, loop, Loop, again, stop, Has, read}
use Rattle.line_format.specs.tools.Number.{is_digit, meets, can, digit_after, first_digit, ended, next_digit, number}
use Rattle.line_format.proofs.Formats.{some_is, none_some, more_last, last_is}
use Rattle.line_format.proofs.Digits.{false_true, more_is, Goes, here, on, goes_le, digit_is, digits_text, nought_text, first_some, can_true, Digits, spelled}

goes_decimal : {v m : ℕ} {ds : List ℕ} → Goes v ds m → 0 < v → m < 2 ^ 64 → decimal m ≡ decimal v ++ ds
goes_decimal here some small = sym (append-nil (decimal _))
goes_decimal (on {v = v} {d = d} {c = c} {m = m} {ds = ds} less is g) some small =
    let n : ℕ = v * 10 + d in
    let front : n / 10 ≡ v = omega arith in
    let end : 48 + n % 10 ≡ c = omega arith in
    goes_decimal g (omega arith) small
    ∙ ap (λ x. x ++ ds) (decimal_step n (omega arith) (omega (arith, goes_le g)) ∙ (λ i. decimal (front i) ++ (end i ∷ [])))
    ∙ append_assoc (decimal v) (c ∷ []) ds

-- the digits of m are these
spelled_decimal : {d m : ℕ} {ds : List ℕ} → d < 10 → 0 < d → Goes d ds m → m < 2 ^ 64 → decimal m ≡ (48 + d) ∷ ds
spelled_decimal {d} {m} {ds} less some g small = goes_decimal g some small ∙ ap (λ x. x ++ ds) (decimal_digit d less)

module _ {E : Type 0} (lo hi : ℕ) (ends : ℕ → ℕ → Option E) where
  -- ts begin with m and a byte that ends it so
  pub record IsNumber (ts : List ℕ) (m : ℕ) (e : E) (r : List ℕ) : Type 0 where
    pub low : lo ≤ m
    pub high : m ≤ hi
    pub end : ℕ
    pub is : ts ≡ decimal m ++ end ∷ r
    pub ends_so : ends m end ≡ Some e
    pub no_digit : is_digit end ≡ false

  -- the same, behind the digits of v
  record Rest (v : ℕ) (ts : List ℕ) (m : ℕ) (e : E) (r : List ℕ) : Type 0 where
    low : lo ≤ m
    high : m ≤ hi
    digits : List ℕ
    end : ℕ
    goes : Goes v digits m
    is : ts ≡ digits ++ end ∷ r
    ends_so : ends m end ≡ Some e
    no_digit : is_digit end ≡ false
    alone : v ≡ 0 → digits ≡ []

  last_inv : (x b : ℕ) (z : ℕ × E) → next_digit lo hi ends x b ≡ Some (last z) → (x ≡ z.0) × (lo ≤ x) × (x ≤ hi) × (is_digit b ≡ false) × (ends x b ≡ Some z.1)
  last_inv x b z e = by (is_digit b) (digit_after lo hi x (b - 48)) (nat_le lo x) (nat_le x hi) (ends x b) refl refl refl refl e
    where
      by : (p q r s : Bool) (o : Option E) → is_digit b ≡ p → nat_le lo x ≡ r → nat_le x hi ≡ s → ends x b ≡ o
          → (if p then (if q then Some (more (x * 10 + (b - 48))) else None) else (if r && s then ended lo hi ends x o else None)) ≡ Some (last z)
          → (x ≡ z.0) × (lo ≤ x) × (x ≤ hi) × (is_digit b ≡ false) × (ends x b ≡ Some z.1)
      by true true r s o d l h i e = absurd (more_last (some_is e))
      by true false r s o d l h i e = none_some e
      by false q true true None d l h i e = none_some e
      by false q true true (Some u) d l h i e =
          let same = last_is (x, u) (some_is e) in
          (ap (λ p. p.0) same, leb-true lo x l, leb-true x hi h, d, i ∙ ap (λ p. Some p.1) same)
      by false q true false o d l h i e = none_some e
      by false q false s o d l h i e = none_some e

  more_inv : (x b y : ℕ) → next_digit lo hi ends x b ≡ Some (more y) → (0 < x) × (is_digit b ≡ true) × (x * 10 + (b - 48) ≡ y)
  more_inv x b y e = by (is_digit b) (digit_after lo hi x (b - 48)) (nat_le lo x && nat_le x hi) (ends x b) refl refl e
    where
      test : (x d : ℕ) (p : Bool) → nat_lt 0 x ≡ p → p && can lo hi (x * 10 + d) ≡ true → 0 < x
      test x d true e h = ltb-true 0 x e
      test x d false e h = false_true h

      positive : (x d : ℕ) → digit_after lo hi x d ≡ true → 0 < x
      positive x d h = test x d (nat_lt 0 x) refl h

      by : (p q r : Bool) (o : Option E) → is_digit b ≡ p → digit_after lo hi x (b - 48) ≡ q
          → (if p then (if q then Some (more (x * 10 + (b - 48))) else None) else (if r then ended lo hi ends x o else None)) ≡ Some (more y)
          → (0 < x) × (is_digit b ≡ true) × (x * 10 + (b - 48) ≡ y)
      by true true r o d h e = (positive x (b - 48) h, d, more_is (x * 10 + (b - 48)) (some_is e))
      by true false r o d h e = none_some e
      by false q true None d h e = none_some e
      by false q true (Some u) d h e = absurd (more_last (sym (some_is e)))
      by false q false o d h e = none_some e

  digit_range : (b : ℕ) → is_digit b ≡ true → (48 ≤ b) × (b ≤ 57)
  digit_range b e = by (nat_le 48 b) (nat_le b 57) refl refl e
    where
      by : (x y : Bool) → nat_le 48 b ≡ x → nat_le b 57 ≡ y → x && y ≡ true → (48 ≤ b) × (b ≤ 57)
      by true true p q e = (leb-true 48 b p, leb-true b 57 q)
      by true false p q e = false_true e
      by false y p q e = false_true e

  digits_rest : {v : ℕ} {ts r : List ℕ} {z : ℕ × E} → Digits lo hi ends v ts z r → Rest v ts z.0 z.1 r
  digits_rest {z = z} (stop {x = x} {ts = ts} {r = r} (c, w, e)) =
      let (same, low, high, d, s) = last_inv x c z e in
      subst (λ n. Rest x ts n z.1 r) same (record { low = low; high = high; digits = []; end = c; goes = here; is = w; ends_so = s; no_digit = d; alone = λ q. refl })
  digits_rest {z = z} (again {x = x} {y = y} {ts = ts} {r = r} (c, w, e) h) =
      let (some, d, same) = more_inv x c y e in
      let (low, high) = digit_range c d in
      let k : Rest y _ z.0 z.1 r = digits_rest h in
      record {
        low = k.low;
        high = k.high;
        digits = c ∷ k.digits;
        end = k.end;
        goes = on (let small : c - 48 < 10 = omega arith in small) (omega arith) (subst (λ n. Goes n k.digits z.0) (sym same) k.goes);
        is = w ∙ ap (λ l. c ∷ l) k.is;
        ends_so = k.ends_so;
        no_digit = k.no_digit;
        alone = λ q. absurd (omega arith);
      }

  pub first_range : (b v : ℕ) → first_digit lo hi b ≡ Some v → (v < 10) × (b ≡ 48 + v)
  first_range b v e = by (is_digit b) (can lo hi (b - 48)) refl e
    where
      by : (x y : Bool) → is_digit b ≡ x → (if x && y then Some (b - 48) else None) ≡ Some v → (v < 10) × (b ≡ 48 + v)
      by true true p e = let (l, h) = digit_range b p in let same : b - 48 ≡ v = some_is e in (omega arith, omega arith)
      by true false p e = none_some e
      by false y p e = none_some e

  module _ (small : hi < 2 ^ 64) where
    first_decimal : (v m : ℕ) (ds : List ℕ) → v < 10 → (v ≡ 0 → ds ≡ []) → Goes v ds m → m ≤ hi → decimal m ≡ (48 + v) ∷ ds
    first_decimal zero m [] less alone here high = decimal_digit 0 (omega arith)
    first_decimal zero m (d ∷ ds) less alone g high = absurd (subst (λ l. elim l as (λ p. Type 0) [ [] ↦ ⊥ | x ∷ xs ↦ Unit {0} ]) (alone refl) tt)
    first_decimal (suc v) m ds less alone g high = spelled_decimal less (omega arith) g (omega arith)

    pub number_is : (ts : List ℕ) (z : ℕ × E) (r : List ℕ) → Has (number lo hi ends) ts z r → IsNumber ts z.0 z.1 r
    number_is ts z r (v, m, (c, w, e), h) =
        let k : Rest v m z.0 z.1 r = digits_rest h in
        let (less, first) = first_range c v e in
        record {
          low = k.low;
          high = k.high;
          end = k.end;
          is = w ∙ (λ i. first i ∷ k.is i) ∙ ap (λ l. l ++ k.end ∷ r) (sym (first_decimal v z.0 k.digits less k.alone k.goes k.high));
          ends_so = k.ends_so;
          no_digit = k.no_digit;
        }

    text_by : (m : ℕ) (e : E) (c : ℕ) (n : ℕ) → m ≡ n → lo ≤ m → m ≤ hi → is_digit c ≡ false → ends m c ≡ Some e → (x : List ℕ) → Has (number lo hi ends) (decimal m ++ c ∷ x) (m, e) x
    text_by m e c zero z low high d s x =
        let w : decimal m ≡ 48 ∷ [] = ap decimal z ∙ decimal_digit 0 (omega arith) in
        let nil : lo ≡ 0 = omega arith in
        subst (λ l. Has (number lo hi ends) (l ++ c ∷ x) (m, e) x) (sym w) (
          0,
          c ∷ x,
          (48, refl, first_some lo hi ends 48 0 (omega arith) refl (eq-eqb lo 0 nil)),
          subst (λ n. Digits lo hi ends 0 (c ∷ x) (n, e) x) (sym z) (nought_text lo hi ends nil c e d (subst (λ n. ends n c ≡ Some e) z s) x),
        )
    text_by m e c (suc n) z low high d s x =
        let (v, ds, less, some, g) = spelled m (omega arith) in
        subst (λ l. Has (number lo hi ends) (l ++ c ∷ x) (m, e) x) (sym (spelled_decimal less some g (omega arith)))
        (v, ds ++ c ∷ x, (48 + v, refl, first_some lo hi ends (48 + v) v less refl (can_true lo hi v m ds some g low high)), digits_text lo hi ends v m ds some g low high c e d s x)

    pub number_text : (m : ℕ) (e : E) (c : ℕ) → lo ≤ m → m ≤ hi → is_digit c ≡ false → ends m c ≡ Some e → (x : List ℕ) → Has (number lo hi ends) (decimal m ++ c ∷ x) (m, e) x
    number_text m e c low high d s x = text_by m e c m refl low high d s x
