-- The live branches of a pass. (Exported.)
use Rattle.std.proofs.Common.{◌≡◌, ◌≢◌, inl, ⊎_elim, ℕ, List, [], ◌∷◌, refl, sym, ◌∙◌, subst}
use mathlib.Core.Logic.{dite}
use native.Mathlib.Decide.{ℕ_discrete}
use Rattle.stripe_rule.specs.Kids.{Has, remove}
use Rattle.stripe_rule.specs.Branches.{TakenInIsGone, OthersLiveOn, NobodyIsLeft}
use Rattle.stripe_rule.proofs.Kids.{removed_same, removed_other, removed_has}
use Rattle.stripe_rule.proofs.Kin.{has_remove}

gone : (c x : ℕ) (kids : List ℕ) → Has x (remove c kids) → x ≢ c
gone c x [] h same = h
gone c x (z ∷ kids) h same = dite (ℕ_discrete c z)
    (λ is. gone c x kids (subst (Has x) (removed_same c z kids is) h) same)
    (λ ne. ⊎_elim (λ (e : x ≡ z). ne (sym same ∙ e)) (λ (r : Has x (remove c kids)). gone c x kids r same) (subst (Has x) (removed_other c z kids ne) h))

pub taken_in : TakenInIsGone
taken_in c x kids h = (removed_has x c kids h, gone c x kids h)

pub others : OthersLiveOn
others c x kids h ne = has_remove x c kids ne h

pub nobody_left : NobodyIsLeft
nobody_left [] none = refl
nobody_left (c ∷ kids) none = absurd (none c (inl refl))
