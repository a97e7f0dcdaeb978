-- What a thread does to its history: an entry of its own, and a fork. (Exported.)
use Rattle.std.proofs.Common.{◌≡◌, ℕ, ◌+◌, ◌*◌, ◌/◌, ◌≤◌, ◌<◌, List, [], ◌∷◌, true, sym, subst}
use Rattle.dfi_base.specs.Lives.{Kind, is_start_of, own, BeginsIn, branches_after, EndedIn, IsNextIn}
use Rattle.dfi_base.specs.Grown.{IsGrown}
use Rattle.dfi_base.proofs.Entries.{first_begins, begins_branch, own_started}

module _ {E S W : Type 0} (k : Kind E S W) (Fits : List E → W → E → Type 0) (r : ℕ) (s0 : S) where
  -- an entry of the first thread's own, whose branches have ended
  pub goes_on : (h : List E) (e : E) (w : W) → IsGrown k Fits r s0 h → k.name_of e ≡ r → k.Wants s0 (own k r h) w
      → ((i : ℕ) → 0 < i → i ≤ branches_after k (own k r h) → EndedIn k r s0 h (16 * r + i)) → Fits h w e → IsGrown k Fits r s0 (e ∷ h)
  unfolding IsGrown
  goes_on h e w grown name wants joined fits =
      let next : IsNextIn k r s0 h r s0 w = record { begins = first_begins k r s0 Fits h grown; wants = wants; joined = joined } in
      (record { start = s0; want = w; next = subst (λ n. IsNextIn k r s0 h n s0 w) (sym name) next; fits = fits }, grown)

  -- a branch begins, and has no entry yet
  pub branch_begins : (h : List E) (e : E) (q : ℕ) (sq : S) → IsGrown k Fits r s0 h → is_start_of k q e ≡ true → q / 16 ≡ r
      → k.Branch s0 (own k r h) q sq → BeginsIn k r s0 (e ∷ h) q sq × (own k q (e ∷ h) ≡ [])
  branch_begins h e q sq grown starts up forked = (
    begins_branch k r s0 e h q sq s0 starts
        (subst (λ p. BeginsIn k r s0 h p s0) (sym up) (first_begins k r s0 Fits h grown))
        (subst (λ p. k.Branch s0 (own k p h) q sq) (sym up) forked),
    own_started k q e h starts,
  )
