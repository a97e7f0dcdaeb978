-- Numbers of `int` are their texts.
use Rattle.std.proofs.Common.{◌≡◌, ℕ, zero, suc, ℤ, pos, negsuc, ◌+◌, ◌-◌, ◌^◌, ◌<◌, ◌≤◌, Bool, true, false, List, [], ◌∷◌, ◌++◌, length, Option, Some, None, refl, sym, ap, subst, ◌∙◌, arith}
use Rattle.std.specs.Prelude.{nat_eq, if◌then◌else◌}
use Rattle.std.specs.Fmt.{decimal, signed_decimal}
use Rattle.std.proofs.lemmas.Bool.{eqb-true, ne_eqb}
use Rattle.line_format.specs.Lines.{IsInt}
use Rattle.line_format.specs.tools.Format.{Format, give, byte, chain, loop, Has}
use Rattle.line_format.specs.tools.Number.{is_digit, first_digit, next_digit, byte_end, number, number_and}
use Rattle.line_format.specs.tools.Signed.{found, first_signed, signed_and, behind_first}
use Rattle.line_format.proofs.Formats.{some_is, none_some, Good}
use Rattle.line_format.proofs.Digits.{number_good}
use Rattle.line_format.proofs.Decimals.{IsNumber, number_is, number_text, first_range}
use Rattle.line_format.proofs.Spelling.{and_good, and_text, and_is, end_self, end_is}

abbrev most : ℕ
most = 2147483647

-- what the first byte says
first_inv : (b : ℕ) (f : Option ℕ) → first_signed b ≡ Some f → elim f as (λ p. Type 0) [ None ↦ b ≡ 45 | Some v ↦ first_digit 0 most b ≡ Some v ]
first_inv b f e = by (nat_eq b 45) (first_digit 0 most b) f refl refl e
  where
    by : (p : Bool) (o f : Option ℕ) → nat_eq b 45 ≡ p → first_digit 0 most b ≡ o → (if p then Some None else found o) ≡ Some f
        → elim f as (λ p. Type 0) [ None ↦ b ≡ 45 | Some v ↦ first_digit 0 most b ≡ Some v ]
    by true o None q h e = eqb-true b 45 q
    by true o (Some v) q h e = none_some (some_is e)
    by false None f q h e = none_some e
    by false (Some u) None q h e = none_some (sym (some_is e))
    by false (Some u) (Some v) q h e = h ∙ some_is e

digit_first : (b v : ℕ) → first_digit 0 most b ≡ Some v → first_signed b ≡ Some (Some v)
digit_first b v e =
    let (small, is) = first_range 0 most (byte_end 10) b v e in
    ap (λ p. if p then Some None else found (first_digit 0 most b)) (ne_eqb b 45 (λ h. let no : ⊥ = omega arith in no)) ∙ ap found e

module _ (c : ℕ) (no : is_digit c ≡ false) where
  number_end : (m : ℕ) → byte_end c m c ≡ Some true
  number_end m = end_self c 0 most no (omega arith) m

  pub signed_good : Good (signed_and c)
  signed_good = ((45, None, refl, tt), λ f (ts, r, (b, w, e)). by f b e)
    where
      by : (f : Option ℕ) (b : ℕ) → first_signed b ≡ Some f → Good (behind_first c f)
      by None b e = (and_good c 1 2147483648 no (omega arith) (omega arith), λ n g. tt)
      by (Some v) b e = ((number_good 0 most (byte_end c) (omega arith) (λ m p q. (c, true, no, number_end m))).1 v (b ∷ [], [], (b, refl, first_inv b (Some v) e)), λ z g. tt)

  pub signed_has : (z : ℤ) → IsInt z → (x : List ℕ) → Has (signed_and c) (signed_decimal z ++ c ∷ x) z x
  signed_has (pos n) fits x =
      let (v, m, (b, w, e), h) = number_text 0 most (byte_end c) (omega arith) n true c (omega arith) fits no (number_end n) x in
      (Some v, m, (b, w, digit_first b v e), ((n, true), x, h, (refl, refl)))
  signed_has (negsuc n) fits x = (
    None,
    decimal (suc n) ++ c ∷ x,
    (45, refl, refl),
    (suc n, x, and_text c 1 2147483648 no (omega arith) (suc n) (omega arith) (omega arith) x, (ap negsuc (let h : suc n - 1 ≡ n = omega arith in h), refl)),
  )

  pub signed_is : (ts : List ℕ) (z : ℤ) (r : List ℕ) → Has (signed_and c) ts z r → IsInt z × (ts ≡ signed_decimal z ++ c ∷ r)
  signed_is ts z r (f, m, (b, w, e), h) = by f e h
    where
      by : (f : Option ℕ) → first_signed b ≡ Some f → Has (behind_first c f) m z r → IsInt z × (ts ≡ signed_decimal z ++ c ∷ r)
      by None e (n, q, g, (is, same)) =
          let (low, high, t) = and_is c 1 2147483648 no (omega arith) m n q g in
          let back : suc (n - 1) ≡ n = omega arith in
          let fits : IsInt (negsuc (n - 1)) = omega arith in
          let text : ts ≡ signed_decimal (negsuc (n - 1)) ++ c ∷ r = w ∙ (λ i. first_inv b None e i ∷ (t ∙ (λ j. decimal (sym back j) ++ c ∷ same j)) i) in
          subst (λ y. IsInt y × (ts ≡ signed_decimal y ++ c ∷ r)) is (fits, text)
      by (Some v) e (y, q, g, (is, same)) =
          let k : IsNumber 0 most (byte_end c) ts y.0 y.1 q = number_is 0 most (byte_end c) (omega arith) ts y q (v, m, (b, w, first_inv b (Some v) e), g) in
          let text : ts ≡ decimal y.0 ++ c ∷ r = k.is ∙ (λ i. decimal y.0 ++ end_is c 0 most no (omega arith) y.0 k.end y.1 k.ends_so i ∷ same i) in
          subst (λ u. IsInt u × (ts ≡ signed_decimal u ++ c ∷ r)) is (k.high, text)
