-- A joined history, looked at as the history of one branch and the rest: who lives, has ended or is next in the whole is so in its part.
use Rattle.std.proofs.Common.{◌≡◌, ℕ, ◌+◌, ◌*◌, ◌/◌, ◌≤◌, ◌<◌, ◌⊎◌, inl, inr, List, [], ◌∷◌, Bool, true, false, refl, arith, sym, ap, subst}
use Rattle.std.proofs.lemmas.Bool.{cases_eq}
use Rattle.dfi_base.specs.Names.{Below, IsApart}
use Rattle.dfi_base.specs.Names.Below.{branch}
use Rattle.dfi_base.specs.Lives.{Kind, is_start_of, own, BeginsIn, branches_after, EndedIn, IsNextIn}
use Rattle.dfi_base.specs.Lives.EndedIn.{ended}
use Rattle.dfi_base.specs.Grown.{IsGrown, AreFew}
use Rattle.dfi_base.specs.Joined.{IsJoined}
use Rattle.dfi_base.specs.Joined.IsJoined.{forked, child, other}
use Rattle.dfi_base.specs.Alike.{IsDeterministic}
use Rattle.dfi_base.proofs.Names.{apart_branch}
use Rattle.dfi_base.proofs.Entries.{started_is, not_started, own_started, own_mine, own_other, starts_branch, begins_by, begins_same, begun_same, begins_branch, few_branches, ended_same}
use Rattle.dfi_base.proofs.OneLife.{begins_one, next_not_ended}
use Rattle.dfi_base.proofs.Joining.{apart_starts, below_starts, own_child, begins_child, own_beside}

pub record Started {E S W : Type 0} (k : Kind E S W) (r : ℕ) (s0 : S) (h : List E) (n : ℕ) : Type 0 where
  pub start : S
  pub begins : BeginsIn k r s0 h n start

module _ {E S W : Type 0} (k : Kind E S W) (one : IsDeterministic k) (born : (s : S) (own : List E) (n : ℕ) → (b : S) × k.Branch s own n b) where
  -- the branches that a thread's last entry started have begun
  pub branch_begun : (r : ℕ) (s0 : S) (h : List E) (n x : ℕ) (s : S) → BeginsIn k r s0 h n s → 0 < x → x ≤ 15 → x ≤ branches_after k (own k n h) → Started k r s0 h (16 * n + x)
  unfolding own
  branch_begun r s0 [] n x s b low few high = absurd (omega (arith, low, high))
  branch_begun r s0 (e ∷ h) n x s b low few high = go (is_start_of k n e) refl (λ before more. branch_begun r s0 h n x s before low few more)
    where
      go : (t : Bool) → is_start_of k n e ≡ t → (BeginsIn k r s0 h n s → x ≤ branches_after k (own k n h) → Started k r s0 h (16 * n + x)) → Started k r s0 (e ∷ h) (16 * n + x)
      go true is earlier = (let none = ap (branches_after k) (own_started k n e h is) in absurd (omega (arith, low, high, none)))
      go false is earlier = by (cases_eq (k.name_of e) n)
        where
          by : (k.name_of e ≡ n) ⊎ (k.name_of e ≡ n → ⊥) → Started k r s0 (e ∷ h) (16 * n + x)
          by (inl mine) =
              let before = begun_same k r s0 e h n s is b in
              let many : x ≤ k.branches_of e = omega (arith, high, ap (branches_after k) (own_mine k n e h mine)) in
              let up : (16 * n + x) / 16 ≡ n = omega (arith, few) in
              let made = born s (own k ((16 * n + x) / 16) h) (16 * n + x) in
              record { start = made.0; begins = begins_branch k r s0 e h (16 * n + x) made.0 s (starts_branch k n x e mine low many few) (subst (λ m. BeginsIn k r s0 h m s) (sym up) before) made.1 }
          by (inr differs) =
              let same = ap (branches_after k) (own_other k n e h is differs) in
              let before = earlier (begun_same k r s0 e h n s is b) (omega (arith, high, same)) in
              record { start = before.start; begins = begins_same k r s0 e h (16 * n + x) before.start (not_started k (16 * n + x) e (λ q. differs (omega (arith, q.parent, few)))) before.begins }

  module _ (r q : ℕ) (s0 sq : S) (tail : List E) (begins : BeginsIn k r s0 tail q sq) (none : own k q tail ≡ []) where
    -- Those that are not below the branch.

    pub begun_beside : (whole rest part : List E) → IsJoined k q tail whole rest part → (n : ℕ) (s : S) → (Below q n → ⊥) → BeginsIn k r s0 whole n s → BeginsIn k r s0 rest n s
    unfolding BeginsIn
    begun_beside whole rest part forked n s never b = b
    begun_beside whole rest part (child e w o p below j) n s never b =
        begun_beside w o p j n s never (begun_same k r s0 e w n s (below_starts k q n e never below) b)
    begun_beside whole rest part (other e w o p apart j) n s never b =
        go (is_start_of k n e) refl b (begun_beside w o p j n s never) (λ x up. begun_beside w o p j (n / 16) x up) (own_beside k r q s0 sq tail begins none w o p j (n / 16))
      where
        go : (t : Bool) → is_start_of k n e ≡ t → begins_by k r s0 w n s t → (BeginsIn k r s0 w n s → BeginsIn k r s0 o n s)
            → ((x : S) → (Below q (n / 16) → ⊥) → BeginsIn k r s0 w (n / 16) x → BeginsIn k r s0 o (n / 16) x)
            → ((Below q (n / 16) → ⊥) → own k (n / 16) w ≡ own k (n / 16) o) → begins_by k r s0 o n s t
        go true is b same up owns =
            let away : Below q (n / 16) → ⊥ = λ x. never (branch n (started_is k n e is).from x) in
            (b.0, up b.0 away b.1, subst (λ h. k.Branch b.0 h n s) (owns away) b.2)
        go false is b same up owns = same b

    pub ended_rest : (whole rest part : List E) → IsJoined k q tail whole rest part → ((n : ℕ) → branches_after k (own k n rest) ≤ 15) → (n : ℕ) → IsApart q n → EndedIn k r s0 whole n → EndedIn k r s0 rest n
    ended_rest whole rest part j few n apart (ended i s b stops joined) =
        let same = own_beside k r q s0 sq tail begins none whole rest part j i apart.below in
        ended i s (begun_beside whole rest part j i s apart.below b) (subst (k.Stops s) same stops)
        (λ x low high.
        (let within : x ≤ branches_after k (own k i whole) = subst (λ o. x ≤ branches_after k o) (sym same) high in
        let most = few i in
        ended_rest whole rest part j few (16 * i + x) (apart_branch q i x low (omega (arith, high, most)) apart) (joined x low within)))

    pub next_rest : (whole rest part : List E) → IsJoined k q tail whole rest part → ((n : ℕ) → branches_after k (own k n rest) ≤ 15) → (n : ℕ) (s : S) (w : W) → IsApart q n → IsNextIn k r s0 whole n s w → IsNextIn k r s0 rest n s w
    next_rest whole rest part j few n s w apart next =
        let same = own_beside k r q s0 sq tail begins none whole rest part j n apart.below in
        record {
          begins = begun_beside whole rest part j n s apart.below next.begins;
          wants = subst (λ o. k.Wants s o w) same next.wants;
          joined = λ x low high.
              (let within : x ≤ branches_after k (own k n whole) = subst (λ o. x ≤ branches_after k o) (sym same) high in
              let most = few n in
              ended_rest whole rest part j few (16 * n + x) (apart_branch q n x low (omega (arith, high, most)) apart) (next.joined x low within));
        }

    -- Those below the branch: they live in its history, or have ended before it and live no more.

    pub begun_part : (Fits : List E → W → E → Type 0) (stale : (m : ℕ) (t : S) → BeginsIn k r s0 tail m t → Below q m → (m ≡ q → ⊥) → EndedIn k r s0 tail m)
        → (whole rest part : List E) → IsJoined k q tail whole rest part → IsGrown k Fits r s0 whole → AreFew k whole
        → (n : ℕ) (s : S) → Below q n → BeginsIn k r s0 whole n s → BeginsIn k q sq part n s ⊎ EndedIn k r s0 whole n
    unfolding BeginsIn IsGrown AreFew
    begun_part Fits stale whole rest part forked grown few n s below b = go (cases_eq n q)
      where
        go : (n ≡ q) ⊎ (n ≡ q → ⊥) → ((n ≡ q) × (s ≡ sq)) ⊎ EndedIn k r s0 tail n
        go (inl same) = inl (same, begins_one k one r s0 tail q s sq (subst (λ m. BeginsIn k r s0 tail m s) same b) begins)
        go (inr differs) = inr (stale n s b below differs)
    begun_part Fits stale whole rest part (child e w o p under j) grown few n s below b =
        go (is_start_of k n e) refl b (begun_part Fits stale w o p j grown.1 few.1 n s below) (λ x up. begun_part Fits stale w o p j grown.1 few.1 (n / 16) x up) (own_child k r q s0 sq tail begins none w o p j (n / 16))
      where
        lives : EndedIn k r s0 w (k.name_of e) → ⊥
        lives = next_not_ended k one r s0 w (k.name_of e) grown.0.start grown.0.want grown.0.next

        go : (t : Bool) → is_start_of k n e ≡ t → begins_by k r s0 w n s t → (BeginsIn k r s0 w n s → BeginsIn k q sq p n s ⊎ EndedIn k r s0 w n)
            → ((x : S) → Below q (n / 16) → BeginsIn k r s0 w (n / 16) x → BeginsIn k q sq p (n / 16) x ⊎ EndedIn k r s0 w (n / 16))
            → ((x : S) → BeginsIn k q sq p (n / 16) x → own k (n / 16) w ≡ own k (n / 16) p) → begins_by k q sq p n s t ⊎ EndedIn k r s0 (e ∷ w) n
        go true is b same up owns = by (up b.0 (subst (Below q) (started_is k n e is).parent under) b.1)
          where
            by : BeginsIn k q sq p (n / 16) b.0 ⊎ EndedIn k r s0 w (n / 16) → begins_by k q sq p n s true ⊎ EndedIn k r s0 (e ∷ w) n
            by (inl x) = inl (b.0, x, subst (λ o. k.Branch b.0 o n s) (owns b.0 x) b.2)
            by (inr x) = absurd (lives (subst (EndedIn k r s0 w) (sym (started_is k n e is).parent) x))
        go false is b same up owns = by (same b)
          where
            by : BeginsIn k q sq p n s ⊎ EndedIn k r s0 w n → BeginsIn k q sq p n s ⊎ EndedIn k r s0 (e ∷ w) n
            by (inl x) = inl x
            by (inr x) = inr (ended_same k r s0 e w lives (few_branches k w few.1) n is x)
    begun_part Fits stale whole rest part (other e w o p apart j) grown few n s below b =
        by (begun_part Fits stale w o p j grown.1 few.1 n s below (begun_same k r s0 e w n s (apart_starts k q n e below apart) b))
      where
        lives : EndedIn k r s0 w (k.name_of e) → ⊥
        lives = next_not_ended k one r s0 w (k.name_of e) grown.0.start grown.0.want grown.0.next

        by : BeginsIn k q sq p n s ⊎ EndedIn k r s0 w n → BeginsIn k q sq p n s ⊎ EndedIn k r s0 (e ∷ w) n
        by (inl x) = inl x
        by (inr x) = inr (ended_same k r s0 e w lives (few_branches k w few.1) n (apart_starts k q n e below apart) x)

    pub ended_part : (whole rest part : List E) → IsJoined k q tail whole rest part → AreFew k part → (n : ℕ) (s : S) → BeginsIn k q sq part n s → EndedIn k r s0 whole n → EndedIn k q sq part n
    ended_part whole rest part j few n s b (ended i t there stops joined) =
        let same = own_child k r q s0 sq tail begins none whole rest part j i s b in
        let start = begins_one k one r s0 whole i t s there (begins_child k r q s0 sq tail begins none whole rest part j i s b) in
        ended i s b (subst (λ o. k.Stops s o) same (subst (λ z. k.Stops z (own k i whole)) start stops))
        (λ x low high.
        (let most = few_branches k part few i in
        let made = branch_begun q sq part i x s b low (omega (arith, high, most)) high in
        ended_part whole rest part j few (16 * i + x) made.start made.begins (joined x low (subst (λ o. x ≤ branches_after k o) (sym same) high))))

    pub next_part : (whole rest part : List E) → IsJoined k q tail whole rest part → AreFew k part → (n : ℕ) (s : S) (w : W) → BeginsIn k q sq part n s → IsNextIn k r s0 whole n s w → IsNextIn k q sq part n s w
    next_part whole rest part j few n s w b next =
        let same = own_child k r q s0 sq tail begins none whole rest part j n s b in
        record {
          begins = b;
          wants = subst (λ o. k.Wants s o w) same next.wants;
          joined = λ x low high.
              (let most = few_branches k part few n in
              let made = branch_begun q sq part n x s b low (omega (arith, high, most)) high in
              ended_part whole rest part j few (16 * n + x) made.start made.begins (next.joined x low (subst (λ o. x ≤ branches_after k o) (sym same) high)));
        }
