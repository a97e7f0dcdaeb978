-- One turn of the search for a number that begins so.
use Rattle.std.proofs.Common.{◌≡◌, ℕ, zero, suc, ◌+◌, ◌-◌, ◌*◌, ◌<◌, ◌≤◌, Bool, true, false, refl, sym, ap, ◌∙◌, arith}
use Rattle.std.specs.Prelude.{nat_le}
use Rattle.std.proofs.lemmas.Bool.{le-leb, lt-leb}
use Rattle.line_format.specs.tools.Number.{meets, can}
use Rattle.line_format.proofs.Digits.{meets_step}

module _ (lo hi : ℕ) (whole : Bool) (end at a b : ℕ) (is : whole ≡ meets lo hi (end - at) a b) where
  one_more : at < end → whole ≡ meets lo hi (suc (end - (at + 1))) a b
  one_more l = is ∙ ap (λ n. meets lo hi n a b) (let h : end - at ≡ suc (end - (at + 1)) = omega arith in h)

  pub past : at < end → hi < a → whole ≡ false
  past l h = one_more l ∙ meets_step lo hi (end - (at + 1)) a b false (nat_le lo b) (lt-leb a hi h) refl

  pub found : at < end → a ≤ hi → lo ≤ b → whole ≡ true
  found l h k = one_more l ∙ meets_step lo hi (end - (at + 1)) a b true true (le-leb a hi h) (le-leb lo b k)

  pub goes_on : at < end → a ≤ hi → b < lo → whole ≡ meets lo hi (end - (at + 1)) (a * 10) (b * 10 + 9)
  goes_on l h k = one_more l ∙ meets_step lo hi (end - (at + 1)) a b true false (le-leb a hi h) (lt-leb lo b k)

  pub used_up : (at < end → ⊥) → whole ≡ false
  unfolding meets
  used_up l = is ∙ ap (λ n. meets lo hi n a b) (let h : end - at ≡ 0 = omega arith in h)

pub can_is : (lo hi v : ℕ) → 0 < v → can lo hi v ≡ meets lo hi (suc hi) v v
can_is lo hi zero h = absurd (omega arith)
can_is lo hi (suc v) h = refl
