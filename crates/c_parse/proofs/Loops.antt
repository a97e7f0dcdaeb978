-- A loop of the code takes the turns of its definition one by one.
use Rattle.std.proofs.Common.{◌≡◌, ℕ, suc, ◌+◌, ◌-◌, ◌<◌, Bool, false, if◌then◌else◌, Option, None, [], ◌∷◌, length, refl, sym, ap, ◌∙◌, arith}
use Rattle.c_lex.specs.declared.token.Kind.{Kind}
use Rattle.parse_law.specs.tools.Parsing.{unexpected, Answer, fault, ◌>>=◌, pure, turns, repeat, peek}
use Rattle.c_parse.specs.Symbol.{Symbol, Symbols}
use Rattle.c_parse.specs.tools.Tokens.{P, next, kind_of, goes}

module _ {X : Type 0} (sort : Option Kind → Bool) (none : sort None ≡ false) (part : X → P X) where
  abbrev pub by_test : ℕ → X → Symbols → Bool → Answer Symbol X
  by_test n x ts b = (if b then part x >>= turns (goes sort) part n else pure x) ts

  one_turn : (n : ℕ) (x : X) (ts : Symbols) → turns (goes sort) part (suc n) x ts ≡ by_test n x ts (sort (kind_of (next ts)))
  unfolding turns peek
  one_turn n x [] = ap (by_test n x []) (sym none)
  one_turn n x (t ∷ ts) = refl

  -- a further turn
  pub turn_more : (whole : Answer Symbol X) (end at : ℕ) (x : X) (ts : Symbols) → whole ≡ turns (goes sort) part (end - at) x ts → at < end
      → whole ≡ by_test (end - (at + 1)) x ts (sort (kind_of (next ts)))
  turn_more whole end at x ts e l = e ∙ (ap (λ n. turns (goes sort) part n x ts) (let h : end - at ≡ suc (end - (at + 1)) = omega arith in h) ∙ one_turn (end - (at + 1)) x ts)

  -- the turns are used up
  pub turn_none : (whole : Answer Symbol X) (end at : ℕ) (x : X) (ts : Symbols) → whole ≡ turns (goes sort) part (end - at) x ts → (at < end → ⊥)
      → whole ≡ fault unexpected (length ts)
  unfolding turns
  turn_none whole end at x ts e l = e ∙ ap (λ n. turns (goes sort) part n x ts) (let h : end - at ≡ 0 = omega arith in h)

  pub turn_first : (end : ℕ) (x : X) (ts : Symbols) → end ≡ length ts + 1 → repeat (goes sort) part x ts ≡ turns (goes sort) part (end - 0) x ts
  unfolding repeat
  turn_first end x ts e = ap (λ n. turns (goes sort) part n x ts) (let h : suc (length ts) ≡ end - 0 = omega arith in h)
