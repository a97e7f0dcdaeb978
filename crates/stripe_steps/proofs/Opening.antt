-- What lies under the locks before the first step.
use Rattle.std.proofs.Common.{◌≡◌, ⊎_elim, ℕ, zero, suc, ◌+◌, List, [], ◌∷◌, ◌++◌, length, replicate, refl, sym, ap, ◌∙◌, subst, arith}
use Rattle.std.specs.Prelude.{ℤ, slice_index}
use mathlib.Core.Option.{some, some-ne-none}
use lib.ListN.{get_elem?}
use Rattle.std.proofs.lemmas.List.{length-append, length-replicate}
use Rattle.heap_desk.specs.Desk.{Desk}
use Rattle.heap_desk.specs.Stands.{StandsAfter}
use Rattle.word_table.specs.Words.{Words}
use Rattle.word_table.specs.Holds.{HoldsAfter}
use Rattle.word_table.specs.Stripes.{Stripe, IsStripeOf}
use Rattle.word_table.proofs.Striped.{part_holds}
use Rattle.stripe_rule.specs.declared.plan.Terms.{Terms}
use Rattle.stripe_rule.specs.declared.content.Content.{Content}
use Rattle.stripe_rule.specs.Holds.{Holds}
use Rattle.stripe_rule.specs.Views.{root}
use Rattle.stripe_rule.specs.Kept.{Kept}
use Rattle.stripe_rule.specs.Laws.{IsBlank}
use Rattle.stripe_rule.proofs.Opening.{opens}
use Rattle.atomic_table.specs.Table.{opening}
use Rattle.stripe_rule.proofs.Kin.{at_end, in_range}
use Rattle.stripe_steps.specs.Opened.{AreStripes}

pub zeros : (n k : ℕ) → slice_index (replicate n 0) k ≡ 0
zeros zero k = refl
zeros (suc n) zero = refl
zeros (suc n) (suc k) = zeros n k

-- the table with all words 0
pub begins : (p : Terms) (input : List ℤ) (ws : List ℕ) (xs : List Content) → ws ≡ replicate (p.stripes + 3) 0 → p.input ≡ input
    → IsBlank (record { md = p.md; input = input; stripes = p.stripes; budget = p.budget }) xs → Kept p (opening ws xs (root p))
begins p input ws xs is same blank =
    opens p ws xs (ap length is ∙ length-replicate (p.stripes + 3) 0) (λ k. ap (λ l. slice_index l k) is ∙ zeros (p.stripes + 3) k)
    (subst (λ i. IsBlank (record { md = p.md; input = i; stripes = p.stripes; budget = p.budget }) xs) (sym same) blank)

pub no_stripes : (words : Words) (stripes : ℕ) → AreStripes words stripes 0 []
no_stripes words stripes = (refl, λ k y e. absurd (some-ne-none y (sym e)))

-- one stripe more
pub next_stripe : (words : Words) (stripes count : ℕ) (contents : List Content) (t : Stripe) → AreStripes words stripes count contents
    → IsStripeOf words.values words.classes count stripes t → AreStripes words stripes (count + 1) (contents ++ Content.Words t ∷ [])
next_stripe words stripes count contents t are is = (
  (let long = length-append contents (Content.Words t ∷ []) in let so = are.0 in omega (arith, long, so)),
  λ k y e. ⊎_elim
      (λ (there : get_elem? contents k ≡ some y). are.1 k y there)
      (λ (last : (k ≡ length contents) × (Content.Words t ≡ y)).
      (t, sym last.1, subst (λ j. IsStripeOf words.values words.classes j stripes t) (sym (last.0 ∙ are.0)) is))
      (at_end contents (Content.Words t) y k e),
)

-- the stripes and the desk
pub blank : (p : Terms) (words : Words) (d : Desk) (contents : List Content) → HoldsAfter p.md [] words → StandsAfter p.md p.input [] d
    → AreStripes words p.stripes p.stripes contents → IsBlank p (contents ++ Content.Desk d ∷ [])
blank p words d contents holds stands are = (
  (let long = length-append contents (Content.Desk d ∷ []) in let so = are.0 in omega (arith, long, so)),
  λ k y e. ⊎_elim
      (λ (there : get_elem? contents k ≡ some y).
      let part = are.1 k y there in
      let low = in_range contents k y there in
      let so = are.0 in
      subst (Holds p k []) (sym part.1)
      (omega (arith, low, so), part.2.own, part.2.count, part_holds p.md [] words k p.stripes part.0 holds part.2))
      (λ (last : (k ≡ length contents) × (Content.Desk d ≡ y)). subst (Holds p k []) last.1 (last.0 ∙ are.0, stands))
      (at_end contents (Content.Desk d) y k e),
)
