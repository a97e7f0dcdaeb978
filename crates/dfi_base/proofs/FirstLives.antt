-- The first thread lives wherever somebody is next. (Exported.)
use Rattle.std.proofs.Common.{◌≡◌, ℕ, zero, suc, ◌+◌, ◌*◌, ◌/◌, ◌%◌, ◌≤◌, ◌<◌, List, [], ◌∷◌, Bool, true, false, refl, arith, sym, subst, ◌⊎◌, inl, inr}
use Rattle.std.proofs.lemmas.Bool.{cases_eq}
use Rattle.dfi_base.specs.Lives.{Kind, is_start_of, own, branches_after, BeginsIn, EndedIn, IsNextIn}
use Rattle.dfi_base.specs.Lives.EndedIn.{ended}
use Rattle.dfi_base.specs.Grown.{GoesOnIn, IsGrown, AreFew}
use Rattle.dfi_base.specs.Alike.{IsDeterministic}
use Rattle.dfi_base.proofs.Names.{low_below}
use Rattle.dfi_base.proofs.Entries.{IsStarted, started_is, not_started, own_mine, own_other, few_branches, begins_by, begins_same, begun_below, ended_same}
use Rattle.dfi_base.proofs.OneLife.{next_not_ended}

module _ {E S W : Type 0} (k : Kind E S W) (Fits : List E → W → E → Type 0) (one : IsDeterministic k) (r : ℕ) (s0 : S) where
  -- a thread that was started by its parent's newest entry
  record IsNew (h : List E) (n : ℕ) : Type 0 where
    from : 0 < n % 16
    to : n % 16 ≤ branches_after k (own k (n / 16) h)
    parent : S
    begun : BeginsIn k r s0 h (n / 16) parent

  -- who has begun is the first, or so started, or has ended
  abbrev Stands : List E → ℕ → Type 0
  Stands h n = (n ≡ r) ⊎ (IsNew h n ⊎ EndedIn k r s0 h n)

  -- a branch of who is next has ended
  branch_gone : (h : List E) (p n : ℕ) → n / 16 ≡ p → ((i : ℕ) → 0 < i → i ≤ branches_after k (own k p h) → EndedIn k r s0 h (16 * p + i)) → IsNew h n → EndedIn k r s0 h n
  branch_gone h p n up joined new =
      let high = subst (λ x. n % 16 ≤ branches_after k (own k x h)) up new.to in
      subst (EndedIn k r s0 h) (omega (arith, up)) (joined (n % 16) new.from high)

  -- and so has a branch of who has ended
  under : (h : List E) (n p : ℕ) → n / 16 ≡ p → EndedIn k r s0 h p → IsNew h n → EndedIn k r s0 h n
  under h n p up (ended j t begins stops joined) new = branch_gone h j n up joined new

  one_more : (h : List E) (e : E) → GoesOnIn k Fits r s0 h e → AreFew k h → ((j : ℕ) (t : S) → BeginsIn k r s0 h j t → Stands h j)
      → (n : ℕ) → is_start_of k n e ≡ false → Stands h n → Stands (e ∷ h) n
  one_more h e by few before n none (inl first) = inl first
  one_more h e by few before n none (inr (inr gone)) =
      inr (inr (ended_same k r s0 e h (next_not_ended k one r s0 h (k.name_of e) by.start by.want by.next) (few_branches k h few) n none gone))
  one_more h e by few before n none (inr (inl new)) = go (cases_eq (k.name_of e) (n / 16)) (is_start_of k (n / 16) e) refl
    where
      keep : EndedIn k r s0 h n → Stands (e ∷ h) n
      keep gone = inr (inr (ended_same k r s0 e h (next_not_ended k one r s0 h (k.name_of e) by.start by.want by.next) (few_branches k h few) n none gone))

      anew : IsStarted k (n / 16) e → Stands h (n / 16) → EndedIn k r s0 h n
      anew start (inl first) =
          let low = low_below r (k.name_of e) (begun_below k r s0 h (k.name_of e) by.start by.next.begins) in
          absurd (omega (arith, first, low, start.parent, start.from))
      anew start (inr (inl newer)) = under h n (n / 16) refl (branch_gone h (k.name_of e) (n / 16) (sym start.parent) by.next.joined newer) new
      anew start (inr (inr gone)) = under h n (n / 16) refl gone new

      go : (k.name_of e ≡ n / 16) ⊎ (k.name_of e ≡ n / 16 → ⊥) → (b : Bool) → is_start_of k (n / 16) e ≡ b → Stands (e ∷ h) n
      go (inl name) b start = keep (branch_gone h (k.name_of e) n (sym name) by.next.joined new)
      go (inr differs) true start = keep (anew (started_is k (n / 16) e start) (before (n / 16) new.parent new.begun))
      go (inr differs) false start =
          let same = own_other k (n / 16) e h start differs in
          inr (inl (record {
            from = new.from;
            to = subst (λ o. n % 16 ≤ branches_after k o) (sym same) new.to;
            parent = new.parent;
            begun = begins_same k r s0 e h (n / 16) new.parent start new.begun;
          }))

  started_now : (h : List E) (e : E) (n : ℕ) (p : S) → is_start_of k n e ≡ true → BeginsIn k r s0 h (n / 16) p → Stands (e ∷ h) n
  started_now h e n p is b =
      let start = started_is k n e is in
      inr (inl (record {
        from = start.from;
        to = subst (λ o. n % 16 ≤ branches_after k o) (sym (own_mine k (n / 16) e h start.parent)) start.to;
        parent = p;
        begun = begins_same k r s0 e h (n / 16) p (not_started k (n / 16) e (λ x. omega (arith, x.parent, x.from, start.parent))) b;
      }))

  stands : (h : List E) → IsGrown k Fits r s0 h → AreFew k h → (n : ℕ) (s : S) → BeginsIn k r s0 h n s → Stands h n
  unfolding IsGrown AreFew BeginsIn
  stands [] grown few n s b = inl b.0
  stands (e ∷ h) grown few n s b = go (is_start_of k n e) refl b (λ j t x. stands h grown.1 few.1 j t x)
    where
      go : (t : Bool) → is_start_of k n e ≡ t → begins_by k r s0 h n s t → ((j : ℕ) (t : S) → BeginsIn k r s0 h j t → Stands h j) → Stands (e ∷ h) n
      go true is x before = started_now h e n x.0 is x.1
      go false is x before = one_more h e grown.0 few.1 before n is (before n s x)

  -- where the first has ended, so has each that has begun; as many generations are looked at
  all_within : (turns : ℕ) (h : List E) → IsGrown k Fits r s0 h → AreFew k h → EndedIn k r s0 h r → (n : ℕ) (s : S) → n ≤ turns → BeginsIn k r s0 h n s → EndedIn k r s0 h n
  all_within zero h grown few first n s within b =
      let low = low_below r n (begun_below k r s0 h n s b) in
      subst (EndedIn k r s0 h) (omega (arith, low, within)) first
  all_within (suc turns) h grown few first n s within b = by (stands h grown few n s b) (λ j t less x. all_within turns h grown few first j t less x)
    where
      by : Stands h n → ((j : ℕ) (t : S) → j ≤ turns → BeginsIn k r s0 h j t → EndedIn k r s0 h j) → EndedIn k r s0 h n
      by (inl same) before = subst (EndedIn k r s0 h) (sym same) first
      by (inr (inr gone)) before = gone
      by (inr (inl new)) before = under h n (n / 16) refl (before (n / 16) new.parent (let from = new.from in omega (arith, within, from)) new.begun) new

  pub all_have_ended : (h : List E) → IsGrown k Fits r s0 h → AreFew k h → EndedIn k r s0 h r → (n : ℕ) (s : S) → BeginsIn k r s0 h n s → EndedIn k r s0 h n
  all_have_ended h grown few first n s b = all_within n h grown few first n s (omega arith) b

  pub first_lives : (h : List E) → IsGrown k Fits r s0 h → AreFew k h → (n : ℕ) (s : S) (w : W) → IsNextIn k r s0 h n s w → EndedIn k r s0 h r → ⊥
  first_lives h grown few n s w next first =
      next_not_ended k one r s0 h n s w next (all_have_ended h grown few first n s next.begins)
