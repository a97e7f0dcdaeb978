-- A life begins in one way and wants one thing, and who is next has not ended. (Exported.)
use Rattle.std.proofs.Common.{◌≡◌, ℕ, ◌/◌, List, [], ◌∷◌, Bool, true, false, sym, ◌∙◌, subst}
use Rattle.dfi_base.specs.Lives.{Kind, is_start_of, own, BeginsIn, EndedIn, IsNextIn}
use Rattle.dfi_base.specs.Lives.EndedIn.{ended}
use Rattle.dfi_base.specs.Alike.{IsDeterministic}
use Rattle.dfi_base.proofs.Entries.{begins_by}

module _ {E S W : Type 0} (k : Kind E S W) (one : IsDeterministic k) (r : ℕ) (s0 : S) where
  -- a life begins in one way
  pub begins_one : (h : List E) (n : ℕ) (s t : S) → BeginsIn k r s0 h n s → BeginsIn k r s0 h n t → s ≡ t
  unfolding BeginsIn
  begins_one [] n s t a b = a.1 ∙ sym b.1
  begins_one (e ∷ h) n s t a b = go (is_start_of k n e) a b (begins_one h n s t) (begins_one h (n / 16))
    where
      go : (started : Bool) → begins_by k r s0 h n s started → begins_by k r s0 h n t started
          → (BeginsIn k r s0 h n s → BeginsIn k r s0 h n t → s ≡ t)
          → ((p q : S) → BeginsIn k r s0 h (n / 16) p → BeginsIn k r s0 h (n / 16) q → p ≡ q) → s ≡ t
      go false x y same parents = same x y
      go true x y same parents =
          let parent = parents x.0 y.0 x.1 y.1 in
          one.branch y.0 (own k (n / 16) h) n s t (subst (λ p. k.Branch p (own k (n / 16) h) n s) parent x.2) y.2

  -- a thread wants one thing next
  pub next_one : (h : List E) (n : ℕ) (s t : S) (w v : W) → IsNextIn k r s0 h n s w → IsNextIn k r s0 h n t v → (s ≡ t) × (w ≡ v)
  next_one h n s t w v a b =
      let starts = begins_one h n s t a.begins b.begins in
      (starts, one.wants t (own k n h) w v (subst (λ z. k.Wants z (own k n h) w) starts a.wants) b.wants)

  -- who is next has not ended
  pub next_not_ended : (h : List E) (n : ℕ) (s : S) (w : W) → IsNextIn k r s0 h n s w → EndedIn k r s0 h n → ⊥
  next_not_ended h n s w next (ended i t begins stops joined) =
      one.ends s (own k n h) w (subst (λ z. k.Stops z (own k n h)) (begins_one h n t s begins next.begins) stops) next.wants
