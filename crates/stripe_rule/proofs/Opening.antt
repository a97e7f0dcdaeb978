-- The table at the start.
use Rattle.std.proofs.Common.{◌≡◌, ℕ, zero, suc, ◌+◌, false, List, [], ◌∷◌, map, refl, sym, ap, ◌∙◌, subst, arith}
use mathlib.Core.Option.{some, some-ne-none, some-injective}
use lib.ListN.{get_elem?}
use Rattle.std.proofs.lemmas.List.{length-map}
use Rattle.atomic_table.proofs.Lists.{some_there}
use Rattle.stripe_rule.specs.declared.content.Content.{Content}
use Rattle.stripe_rule.specs.declared.view.View.{View}
use Rattle.stripe_rule.specs.Views.{root}
use Rattle.stripe_rule.specs.Kept.{Fits}
use Rattle.stripe_rule.specs.Laws.{Opens}
use Rattle.stripe_rule.proofs.Sums.{none_served}
use Rattle.stripe_rule.proofs.Moves.{off}

-- The start.
pub opens : Opens
opens p ws xs size zeros blank = record {
  history = [];
  counted = let a = zeros (p.stripes + 1) in omega arith;
  legal = none_served p;
  tickets = λ t. ((λ b. absurd (omega arith)), λ b. omega arith);
  fits = one;
  parts = omega arith;
  bound = let a = zeros (p.stripes + 1) in omega arith;
  alone = λ i j x y ex ey hx hy same. absurd (off (idle i x ex ∙ hx));
  free = λ k lt z. let y = some_there xs k (let a = blank.0 in omega arith) in let b = blank.1 k y.0 (there xs k y.0 y.1) in (y.0, y.1, b);
  names = λ i j x y ex ey px py same. first i x ex ∙ sym (first j y ey);
  family = λ i x e on ne. absurd (ne (sym (named i x e)));
  busy = λ k lt nz. absurd (nz (zeros k));
  halt = λ nz. absurd (nz (zeros (p.stripes + 2)));
  size = size;
  homes = length-map xs (λ (x : Content). some x) ∙ blank.0;
}
  where
    one : (id : ℕ) (v : View) → get_elem? (root p ∷ []) id ≡ some v → Fits p ws [] v
    one zero v e = subst (Fits p ws []) (some-injective (root p) v e) record { plan = λ _. refl; floor = omega arith; logged = tt; ready = omega arith; idle = λ z. refl; share = record { are = tt; shallow = λ c h. absurd h; rest = λ _. refl }; above = tt; spent = λ on. absurd (off on); late = omega arith; halted = λ on. absurd (off on); held = λ on. absurd (off on) }
    one (suc id) v e = absurd (some-ne-none v (sym e))

    first : (id : ℕ) (v : View) → get_elem? (root p ∷ []) id ≡ some v → id ≡ 0
    first zero v e = refl
    first (suc id) v e = absurd (some-ne-none v (sym e))

    named : (id : ℕ) (v : View) → get_elem? (root p ∷ []) id ≡ some v → 1 ≡ v.name
    named zero v e = ap (λ (u : View). u.name) (some-injective (root p) v e)
    named (suc id) v e = absurd (some-ne-none v (sym e))

    idle : (id : ℕ) (v : View) → get_elem? (root p ∷ []) id ≡ some v → false ≡ v.holds
    idle zero v e = ap (λ (u : View). u.holds) (some-injective (root p) v e)
    idle (suc id) v e = absurd (some-ne-none v (sym e))

    there : (xs : List Content) (k : ℕ) (y : Content) → get_elem? (map some xs) k ≡ some (some y) → get_elem? xs k ≡ some y
    there [] k y e = absurd (some-ne-none (some y) (sym e))
    there (x ∷ xs) zero y e = some-injective (some x) (some y) e
    there (x ∷ xs) (suc k) y e = there xs k y e
