-- A branch's history joined into its parent's: lives stay what they were, and the whole is grown. (Exported.)
use Rattle.std.proofs.Common.{◌≡◌, ℕ, ◌+◌, ◌*◌, ◌/◌, ◌%◌, ◌≤◌, ◌<◌, List, [], Bool, true, false, refl, arith, sym, ◌∙◌, ap, subst}
use Rattle.std.specs.Prelude.{nat_eq}
use Rattle.dfi_base.specs.Names.{Below, IsApart}
use Rattle.dfi_base.specs.Names.Below.{itself, branch}
use Rattle.dfi_base.specs.Lives.{Kind, is_start_of, own, BeginsIn, branches_after, EndedIn, IsNextIn}
use Rattle.dfi_base.specs.Lives.EndedIn.{ended}
use Rattle.dfi_base.specs.Grown.{IsGrown, AreFew}
use Rattle.dfi_base.specs.Joined.{IsJoined}
use Rattle.dfi_base.specs.Joined.IsJoined.{forked, child, other}
use Rattle.dfi_base.proofs.Names.{apart_branch}
use Rattle.dfi_base.proofs.Entries.{own_by, IsStarted, started_is, not_started, own_other, begins_by, begins_same, begun_below, few_branches}

module _ {E S W : Type 0} (k : Kind E S W) where
  -- an entry of a thread apart from q starts nobody from q on
  pub apart_starts : (q n : ℕ) (e : E) → Below q n → IsApart q (k.name_of e) → is_start_of k n e ≡ false
  apart_starts q n e below apart = not_started k n e (λ s. go n below s)
    where
      go : (j : ℕ) → Below q j → IsStarted k j e → ⊥
      go j (itself i same) s = apart.above (branch q (subst (λ x. 0 < x % 16) same s.from) (itself (q / 16) (ap (λ x. x / 16) (sym same) ∙ sym s.parent)))
      go j (branch i some up) s = apart.below (subst (Below q) (sym s.parent) up)

  -- an entry of a thread from q on starts nobody else
  pub below_starts : (q n : ℕ) (e : E) → (Below q n → ⊥) → Below q (k.name_of e) → is_start_of k n e ≡ false
  below_starts q n e never below = not_started k n e (λ s. never (branch n s.from (subst (Below q) s.parent below)))

  -- Thread r is the first, and began as s0; branch q of it or of one below it begins as sq behind the entries of tail.
  module _ (r q : ℕ) (s0 sq : S) (tail : List E) (begins : BeginsIn k r s0 tail q sq) (none : own k q tail ≡ []) where
    -- Lives of the branch.

    pub own_child : (whole rest part : List E) → IsJoined k q tail whole rest part → (n : ℕ) (s : S) → BeginsIn k q sq part n s → own k n whole ≡ own k n part
    unfolding own BeginsIn
    own_child whole rest part forked n s b = ap (λ x. own k x tail) b.0 ∙ none
    own_child whole rest part (child e w o p below j) n s b = go (is_start_of k n e) b (own_child w o p j n s)
      where
        go : (t : Bool) → begins_by k q sq p n s t → (BeginsIn k q sq p n s → own k n w ≡ own k n p)
            → own_by e (own k n w) t (nat_eq (k.name_of e) n) ≡ own_by e (own k n p) t (nat_eq (k.name_of e) n)
        go true b same = refl
        go false b same = ap (λ x. own_by e x false (nat_eq (k.name_of e) n)) (same b)
    own_child whole rest part (other e w o p apart j) n s b =
        let below = begun_below k q sq p n s b in
        own_other k n e w (apart_starts q n e below apart) (λ same. apart.below (subst (Below q) (sym same) below)) ∙ own_child w o p j n s b

    pub begins_child : (whole rest part : List E) → IsJoined k q tail whole rest part → (n : ℕ) (s : S) → BeginsIn k q sq part n s → BeginsIn k r s0 whole n s
    unfolding BeginsIn
    begins_child whole rest part forked n s b =
        subst (λ x. BeginsIn k r s0 tail x s) (sym b.0) (subst (BeginsIn k r s0 tail q) (sym b.1) begins)
    begins_child whole rest part (child e w o p below j) n s b = go (is_start_of k n e) b (begins_child w o p j n s) (begins_child w o p j (n / 16)) (own_child w o p j (n / 16))
      where
        go : (t : Bool) → begins_by k q sq p n s t → (BeginsIn k q sq p n s → BeginsIn k r s0 w n s)
            → ((x : S) → BeginsIn k q sq p (n / 16) x → BeginsIn k r s0 w (n / 16) x)
            → ((x : S) → BeginsIn k q sq p (n / 16) x → own k (n / 16) w ≡ own k (n / 16) p) → begins_by k r s0 w n s t
        go true b same up owns = (b.0, up b.0 b.1, subst (λ o. k.Branch b.0 o n s) (sym (owns b.0 b.1)) b.2)
        go false b same up owns = same b
    begins_child whole rest part (other e w o p apart j) n s b =
        begins_same k r s0 e w n s (apart_starts q n e (begun_below k q sq p n s b) apart) (begins_child w o p j n s b)

    pub ended_child : (whole rest part : List E) → IsJoined k q tail whole rest part → (n : ℕ) → EndedIn k q sq part n → EndedIn k r s0 whole n
    ended_child whole rest part j n (ended i s b stops joined) =
        let same = own_child whole rest part j i s b in
        ended i s (begins_child whole rest part j i s b) (subst (k.Stops s) (sym same) stops)
        (λ x low high. ended_child whole rest part j (16 * i + x) (joined x low (subst (λ o. x ≤ branches_after k o) same high)))

    pub next_child : (whole rest part : List E) → IsJoined k q tail whole rest part → (n : ℕ) (s : S) (w : W) → IsNextIn k q sq part n s w → IsNextIn k r s0 whole n s w
    next_child whole rest part j n s w next =
        let same = own_child whole rest part j n s next.begins in
        record {
          begins = begins_child whole rest part j n s next.begins;
          wants = subst (λ o. k.Wants s o w) (sym same) next.wants;
          joined = λ x low high. ended_child whole rest part j (16 * n + x) (next.joined x low (subst (λ o. x ≤ branches_after k o) same high));
        }

    -- Other lives.

    pub own_beside : (whole rest part : List E) → IsJoined k q tail whole rest part → (n : ℕ) → (Below q n → ⊥) → own k n whole ≡ own k n rest
    unfolding own
    own_beside whole rest part forked n never = refl
    own_beside whole rest part (child e w o p below j) n never =
        own_other k n e w (below_starts q n e never below) (λ same. never (subst (Below q) same below)) ∙ own_beside w o p j n never
    own_beside whole rest part (other e w o p apart j) n never =
        ap (λ x. own_by e x (is_start_of k n e) (nat_eq (k.name_of e) n)) (own_beside w o p j n never)

    pub begins_beside : (whole rest part : List E) → IsJoined k q tail whole rest part → (n : ℕ) (s : S) → (Below q n → ⊥) → BeginsIn k r s0 rest n s → BeginsIn k r s0 whole n s
    unfolding BeginsIn
    begins_beside whole rest part forked n s never b = b
    begins_beside whole rest part (child e w o p below j) n s never b =
        begins_same k r s0 e w n s (below_starts q n e never below) (begins_beside w o p j n s never b)
    begins_beside whole rest part (other e w o p apart j) n s never b =
        go (is_start_of k n e) refl b (begins_beside w o p j n s never) (λ x up. begins_beside w o p j (n / 16) x up) (own_beside w o p j (n / 16))
      where
        go : (t : Bool) → is_start_of k n e ≡ t → begins_by k r s0 o n s t → (BeginsIn k r s0 o n s → BeginsIn k r s0 w n s)
            → ((x : S) → (Below q (n / 16) → ⊥) → BeginsIn k r s0 o (n / 16) x → BeginsIn k r s0 w (n / 16) x)
            → ((Below q (n / 16) → ⊥) → own k (n / 16) w ≡ own k (n / 16) o) → begins_by k r s0 w n s t
        go true is b same up owns =
            let away : Below q (n / 16) → ⊥ = λ x. never (branch n (started_is k n e is).from x) in
            (b.0, up b.0 away b.1, subst (λ h. k.Branch b.0 h n s) (sym (owns away)) b.2)
        go false is b same up owns = same b

    pub ended_beside : (whole rest part : List E) → IsJoined k q tail whole rest part → ((n : ℕ) → branches_after k (own k n rest) ≤ 15) → (n : ℕ) → IsApart q n → EndedIn k r s0 rest n → EndedIn k r s0 whole n
    ended_beside whole rest part j few n apart (ended i s b stops joined) =
        let same = own_beside whole rest part j i apart.below in
        ended i s (begins_beside whole rest part j i s apart.below b) (subst (k.Stops s) (sym same) stops)
        (λ x low high.
        (let within : x ≤ branches_after k (own k i rest) = subst (λ o. x ≤ branches_after k o) same high in
        let most = few i in
        ended_beside whole rest part j few (16 * i + x) (apart_branch q i x low (omega (arith, within, most)) apart) (joined x low within)))

    pub next_beside : (whole rest part : List E) → IsJoined k q tail whole rest part → ((n : ℕ) → branches_after k (own k n rest) ≤ 15) → (n : ℕ) (s : S) (w : W) → IsApart q n → IsNextIn k r s0 rest n s w → IsNextIn k r s0 whole n s w
    next_beside whole rest part j few n s w apart next =
        let same = own_beside whole rest part j n apart.below in
        record {
          begins = begins_beside whole rest part j n s apart.below next.begins;
          wants = subst (λ o. k.Wants s o w) (sym same) next.wants;
          joined = λ x low high.
              (let within : x ≤ branches_after k (own k n rest) = subst (λ o. x ≤ branches_after k o) same high in
              let most = few n in
              ended_beside whole rest part j few (16 * n + x) (apart_branch q n x low (omega (arith, within, most)) apart) (next.joined x low within));
        }

    -- The whole is grown, where which entries fit hangs on no history.
    pub join : (Fits : W → E → Type 0) (whole rest part : List E) → IsJoined k q tail whole rest part → AreFew k rest
        → IsGrown k (λ h. Fits) r s0 rest → IsGrown k (λ h. Fits) q sq part → IsGrown k (λ h. Fits) r s0 whole
    unfolding IsGrown AreFew
    join Fits whole rest part forked few grown below = grown
    join Fits whole rest part (child e w o p b j) few grown below =
        let g = below.0 in (
          record { start = g.start; want = g.want; next = next_child w o p j (k.name_of e) g.start g.want g.next; fits = g.fits },
          join Fits w o p j few grown below.1,
        )
    join Fits whole rest part (other e w o p apart j) few grown below =
        let g = grown.0 in (
          record {
            start = g.start;
            want = g.want;
            next = next_beside w o p j (few_branches k o few.1) (k.name_of e) g.start g.want apart g.next;
            fits = g.fits;
          },
          join Fits w o p j few.1 grown.1 below,
        )

  -- and it has few branches
  pub few_joined : (q : ℕ) (tail whole rest part : List E) → IsJoined k q tail whole rest part → AreFew k rest → AreFew k part → AreFew k whole
  unfolding AreFew
  few_joined q tail whole rest part forked few below = few
  few_joined q tail whole rest part (child e w o p b j) few below = (below.0, few_joined q tail w o p j few below.1)
  few_joined q tail whole rest part (other e w o p apart j) few below = (few.0, few_joined q tail w o p j few.1 below)
