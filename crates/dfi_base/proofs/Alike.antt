-- What threads do whose lives are alike. (Exported.)
use Rattle.std.proofs.Common.{◌≡◌, ℕ, ◌+◌, ◌*◌, ◌/◌, ◌%◌, ◌≤◌, List, [], ◌∷◌, Bool, true, false, refl, sym, ◌∙◌, ap, subst}
use Rattle.std.specs.Prelude.{nat_eq, nat_lt, nat_le, ◌&&◌}
use Rattle.dfi_base.specs.Lives.{Kind, is_start_of, own, BeginsIn, branches_after, EndedIn, IsNextIn}
use Rattle.dfi_base.specs.Lives.EndedIn.{ended}
use Rattle.dfi_base.specs.Grown.{IsGrown}
use Rattle.dfi_base.specs.Alike.{IsAlike}
use Rattle.dfi_base.proofs.Entries.{own_by, begins_by}

module _ {E S T W : Type 0} (k : Kind E S W) (l : Kind E T W) (Alike : S → T → Type 0) (same : IsAlike k l Alike) where
  pub starts_same : (n : ℕ) (e : E) → is_start_of k n e ≡ is_start_of l n e
  starts_same n e =
      ap (λ x. nat_eq x (n / 16) && (nat_lt 0 (n % 16) && nat_le (n % 16) (k.branches_of e))) (same.names e)
      ∙ ap (λ x. nat_eq (l.name_of e) (n / 16) && (nat_lt 0 (n % 16) && nat_le (n % 16) x)) (same.branches e)

  pub own_same : (n : ℕ) (h : List E) → own k n h ≡ own l n h
  unfolding own
  own_same n [] = refl
  own_same n (e ∷ h) =
      ap (λ o. own_by e o (is_start_of k n e) (nat_eq (k.name_of e) n)) (own_same n h)
      ∙ ap (λ b. own_by e (own l n h) b (nat_eq (k.name_of e) n)) (starts_same n e)
      ∙ ap (λ x. own_by e (own l n h) (is_start_of l n e) (nat_eq x n)) (same.names e)

  pub after_same : (own : List E) → branches_after k own ≡ branches_after l own
  after_same [] = refl
  after_same (e ∷ own) = same.branches e

  branches_same : (n : ℕ) (h : List E) → branches_after l (own l n h) ≡ branches_after k (own k n h)
  branches_same n h = sym (after_same (own l n h)) ∙ ap (branches_after k) (sym (own_same n h))

  -- Thread r is the first of both, and begins alike.
  module _ (r : ℕ) (s0 : S) (t0 : T) (alike : Alike s0 t0) where
    pub begins_alike : (h : List E) (n : ℕ) (s : S) → BeginsIn k r s0 h n s → (t : T) × BeginsIn l r t0 h n t × Alike s t
    unfolding BeginsIn
    begins_alike [] n s b = (t0, (b.0, refl), subst (λ x. Alike x t0) (sym b.1) alike)
    begins_alike (e ∷ h) n s b = lift (go (is_start_of k n e) b (begins_alike h n s) (begins_alike h (n / 16)))
      where
        go : (start : Bool) → begins_by k r s0 h n s start → (BeginsIn k r s0 h n s → (t : T) × BeginsIn l r t0 h n t × Alike s t)
            → ((p : S) → BeginsIn k r s0 h (n / 16) p → (q : T) × BeginsIn l r t0 h (n / 16) q × Alike p q) → (t : T) × begins_by l r t0 h n t start × Alike s t
        go false b before up = before b
        go true b before up =
            let parent = up b.0 b.1 in
            let forked = same.branch b.0 parent.0 (own k (n / 16) h) n s parent.2 b.2 in
            (forked.0, (parent.0, parent.1, subst (λ o. l.Branch parent.0 o n forked.0) (own_same (n / 16) h) forked.1), forked.2)

        lift : (t : T) × begins_by l r t0 h n t (is_start_of k n e) × Alike s t → (t : T) × begins_by l r t0 h n t (is_start_of l n e) × Alike s t
        lift found = (found.0, subst (begins_by l r t0 h n found.0) (starts_same n e) found.1, found.2)

    pub ended_alike : (h : List E) (n : ℕ) → EndedIn k r s0 h n → EndedIn l r t0 h n
    ended_alike h n (ended i s begins stops joined) =
        let b = begins_alike h i s begins in
        ended i b.0 b.1 (subst (l.Stops b.0) (own_same i h) (same.stops s b.0 (own k i h) b.2 stops))
        (λ x low high. ended_alike h (16 * i + x) (joined x low (subst (λ c. x ≤ c) (branches_same i h) high)))

    pub next_alike : (h : List E) (n : ℕ) (s : S) (w : W) → IsNextIn k r s0 h n s w → (t : T) × IsNextIn l r t0 h n t w × Alike s t
    next_alike h n s w next =
        let b = begins_alike h n s next.begins in (
          b.0,
          record {
            begins = b.1;
            wants = subst (λ o. l.Wants b.0 o w) (own_same n h) (same.wants s b.0 (own k n h) w b.2 next.wants);
            joined = λ i low high. ended_alike h (16 * n + i) (next.joined i low (subst (λ c. i ≤ c) (branches_same n h) high));
          },
          b.2,
        )

    pub grown_alike : (Fits : List E → W → E → Type 0) (h : List E) → IsGrown k Fits r s0 h → IsGrown l Fits r t0 h
    unfolding IsGrown
    grown_alike Fits [] grown = tt
    grown_alike Fits (e ∷ h) grown =
        let g = grown.0 in
        let next = next_alike h (k.name_of e) g.start g.want g.next in (
          record {
            start = next.0;
            want = g.want;
            next = subst (λ n. IsNextIn l r t0 h n next.0 g.want) (same.names e) next.1;
            fits = g.fits;
          },
          grown_alike Fits h grown.1,
        )
