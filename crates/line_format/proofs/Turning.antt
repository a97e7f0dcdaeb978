-- One turn of a loop.
use Rattle.std.proofs.Common.{◌≡◌, ℕ, zero, suc, ◌+◌, ◌-◌, ◌<◌, List, length, refl, sym, ap, ◌∙◌, arith}
use Rattle.line_format.specs.tools.Format.{Next, more, last, Answer, done, fault, and_then, turn_on, turns}

module _ {X A : Type 0} (step : X → List ℕ → Answer (Next X A)) where
  module _ (whole : Answer A) (end at : ℕ) (x : X) (ts : List ℕ) (is : whole ≡ turns step (end - at) x ts) where
    turned : at < end → whole ≡ and_then (step x ts) (turn_on (λ y r. turns step (end - (at + 1)) y r))
    unfolding turns
    turned l = is ∙ ap (λ n. turns step n x ts) (let h : end - at ≡ suc (end - (at + 1)) = omega arith in h)

    pub turned_to : at < end → (o : Answer (Next X A)) → step x ts ≡ o → whole ≡ and_then o (turn_on (λ y r. turns step (end - (at + 1)) y r))
    turned_to l o e = turned l ∙ ap (λ z. and_then z (turn_on (λ y r. turns step (end - (at + 1)) y r))) e

    pub turns_used : (at < end → ⊥) → whole ≡ fault (length ts)
    unfolding turns
    turns_used l = is ∙ ap (λ n. turns step n x ts) (let h : end - at ≡ 0 = omega arith in h)

  pub turn_first : (end : ℕ) (x : X) (ts : List ℕ) → end ≡ length ts + 1 → turns step (suc (length ts)) x ts ≡ turns step (end - 0) x ts
  turn_first end x ts e = ap (λ n. turns step n x ts) (let h : suc (length ts) ≡ end - 0 = omega arith in h)
