-- Words, and a number with one byte behind it: their formats are their texts, and each of their choices leaves a way to an end.
use Rattle.std.proofs.Common.{◌≡◌, ℕ, zero, suc, ◌+◌, ◌^◌, ◌<◌, ◌≤◌, Bool, true, false, List, [], ◌∷◌, ◌++◌, length, Option, Some, None, refl, sym, ap, subst, ◌∙◌, length-append, arith}
use Rattle.std.specs.Prelude.{nat_eq, if◌then◌else◌}
use Rattle.std.specs.Fmt.{decimal}
use Rattle.std.proofs.lemmas.Bool.{eqb-true, eq-eqb}
use Rattle.line_format.specs.tools.Format.{Has}
use Rattle.line_format.specs.tools.Number.{is_digit, byte_end, number_and}
use Rattle.line_format.specs.tools.Words.{exactly, word}
use Rattle.line_format.proofs.Formats.{none_some, Good}
use Rattle.line_format.proofs.Digits.{number_good}
use Rattle.line_format.proofs.Decimals.{IsNumber, number_is, number_text}

-- ---- words

pub exactly_self : (c : ℕ) → exactly c c ≡ Some tt
exactly_self c = ap (λ b. if b then Some tt else None) (eq-eqb c c refl)

pub exactly_is : (c b : ℕ) (u : Unit {0}) → exactly c b ≡ Some u → b ≡ c
exactly_is c b u e = by (nat_eq b c) refl e
  where
    by : (x : Bool) → nat_eq b c ≡ x → (if x then Some tt else None) ≡ Some u → b ≡ c
    by true p e = eqb-true b c p
    by false p e = none_some e

pub word_text : (cs x : List ℕ) → Has (word cs) (cs ++ x) tt x
unfolding word
word_text [] x = (refl, refl)
word_text (c ∷ cs) x = (tt, cs ++ x, (c, refl, exactly_self c), word_text cs x)

pub word_is : (cs ts : List ℕ) (u : Unit {0}) (r : List ℕ) → Has (word cs) ts u r → ts ≡ cs ++ r
unfolding word
word_is [] ts u r (e, w) = w
word_is (c ∷ cs) ts u r (v, m, (b, w, e), h) = w ∙ (λ i. exactly_is c b v e i ∷ word_is cs m u r h i)

pub word_good : (cs : List ℕ) → Good (word cs)
unfolding word
word_good [] = tt
word_good (c ∷ cs) = ((c, tt, exactly_self c, tt), λ u g. word_good cs)

-- ---- a number and one byte

module _ (c lo hi : ℕ) (no : is_digit c ≡ false) (small : hi < 2 ^ 64) where
  pub end_self : (m : ℕ) → byte_end c m c ≡ Some true
  end_self m = ap (λ b. if b then Some true else None) (eq-eqb c c refl)

  pub end_is : (m b : ℕ) (x : Bool) → byte_end c m b ≡ Some x → b ≡ c
  end_is m b x e = by (nat_eq b c) refl e
    where
      by : (y : Bool) → nat_eq b c ≡ y → (if y then Some true else None) ≡ Some x → b ≡ c
      by true p e = eqb-true b c p
      by false p e = none_some e

  pub and_good : lo ≤ hi → Good (number_and c lo hi)
  and_good le = (number_good lo hi (byte_end c) le (λ m p q. (c, true, no, end_self m)), λ z g. tt)

  pub and_text : (m : ℕ) → lo ≤ m → m ≤ hi → (x : List ℕ) → Has (number_and c lo hi) (decimal m ++ c ∷ x) m x
  and_text m low high x = ((m, true), x, number_text lo hi (byte_end c) small m true c low high no (end_self m) x, (refl, refl))

  pub and_is : (ts : List ℕ) (m : ℕ) (r : List ℕ) → Has (number_and c lo hi) ts m r → (lo ≤ m) × (m ≤ hi) × (ts ≡ decimal m ++ c ∷ r)
  and_is ts m r (z, n, h, (e, w)) =
      let k : IsNumber lo hi (byte_end c) ts z.0 z.1 n = number_is lo hi (byte_end c) small ts z n h in
      subst (λ y. (lo ≤ y) × (y ≤ hi) × (ts ≡ decimal y ++ c ∷ r)) e
      (k.low, k.high, k.is ∙ (λ i. decimal z.0 ++ end_is z.0 k.end z.1 k.ends_so i ∷ w i))

pub decimal_end : (x c : ℕ) (ts r : List ℕ) → ts ≡ decimal x ++ c ∷ r → length r < length ts
decimal_end x c ts r e = omega (arith, ap length e, length-append (decimal x) (c ∷ r))
