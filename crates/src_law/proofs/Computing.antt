-- Who has ended and who is next, by the functions that tell it.
use Rattle.std.proofs.Common.{◌≡◌, ℕ, zero, suc, ◌+◌, ◌*◌, ◌≤◌, ◌<◌, Bool, true, false, nat_le, List, [], refl, sym, ap, ◌∙◌, subst, ◌⊎◌, inl, inr, Option, Some, None, arith}
use Rattle.std.proofs.lemmas.Bool.{cases_eq, leb-true}
use Rattle.dfi_base.specs.Lives.{own, BeginsIn, EndedIn, IsNextIn}
use Rattle.dfi_base.specs.Lives.EndedIn.{ended}
use Rattle.dfi_base.specs.Grown.{AreFew}
use Rattle.dfi_base.proofs.Entries.{few_branches}
use Rattle.obj_mem.specs.declared.event.Event.{Event}
use Rattle.obj_mem.specs.declared.event.Stamp.{Stamp}
use Rattle.src_law.specs.tools.Heard.{Heard, Res, off, Reads}
use Rattle.src_law.specs.tools.Threads.{depth, heard, at, wanted, is_settled, threads_of, start_of, life_of, branches_now, all_up_to, has_ended, generations, next_of}
use Rattle.src_law.proofs.Lives.{begun_start, start_begun}
use Rattle.src_law.proofs.Depths.{IsDepth, one_depth, branch_depth, depth_begun}

-- A test of all numbers up to one.

all_true : (n : ℕ) (p : ℕ → Bool) → all_up_to n p ≡ true → (i : ℕ) → 0 < i → i ≤ n → p i ≡ true
all_true zero p all i low high = absurd (omega (arith, low, high))
all_true (suc n) p all i low high = go (p (suc n)) refl all (λ same less. all_true n p same i low less)
  where
    go : (b : Bool) → p (suc n) ≡ b → elim b as (λ z. Bool) [ true ↦ all_up_to n p | false ↦ false ] ≡ true → (all_up_to n p ≡ true → i ≤ n → p i ≡ true) → p i ≡ true
    go false is same rest = cc
    go true is same rest = by (cases_eq i (suc n))
      where
        by : (i ≡ suc n) ⊎ (i ≡ suc n → ⊥) → p i ≡ true
        by (inl last) = subst (λ z. p z ≡ true) (sym last) is
        by (inr other) = rest same (omega (arith, high, other))

true_all : (n : ℕ) (p : ℕ → Bool) → ((i : ℕ) → 0 < i → i ≤ n → p i ≡ true) → all_up_to n p ≡ true
true_all zero p all = refl
true_all (suc n) p all =
    ap (λ b. elim b as (λ z. Bool) [ true ↦ all_up_to n p | false ↦ false ]) (all (suc n) (omega arith) (omega arith)) ∙ true_all n p (λ i low high. all i low (omega (arith, high)))

module _ {A : Type 0} (R : Reads A) where
  abbrev Begun : List Stamp → ℕ → List Heard → Type 0
  Begun h n s = BeginsIn (threads_of R) 1 [] h n s

  abbrev pub Over : List Stamp → ℕ → Type 0
  Over h n = EndedIn (threads_of R) 1 [] h n

  abbrev pub NextTo : List Stamp → ℕ → List Heard → Event → Type 0
  NextTo h n s e = IsNextIn (threads_of R) 1 [] h n s e

  -- a life that has begun, and what it reads
  pub record Living (h : List Stamp) (n : ℕ) : Type 0 where
    pub start : List Heard
    pub begun : Begun h n start
    pub reading : life_of R h n ≡ at R start (own (threads_of R) n h)

  abbrev life_by : List Stamp → ℕ → Option (List Heard) → Res A
  life_by h n o = elim o [ None ↦ off | Some s ↦ at R s (own (threads_of R) n h) ]

  pub life_is : (h : List Stamp) (n : ℕ) (s : List Heard) → Begun h n s → life_of R h n ≡ at R s (own (threads_of R) n h)
  life_is h n s b = ap (life_by h n) (begun_start R h n s b)

  pub living : (h : List Stamp) (n : ℕ) → (life_of R h n ≡ off → ⊥) → Living h n
  living h n alive = go (start_of R h n) refl
    where
      go : (o : Option (List Heard)) → start_of R h n ≡ o → Living h n
      go None is = absurd (alive (ap (life_by h n) is))
      go (Some s) is = record { start = s; begun = start_begun R h n s is; reading = ap (life_by h n) is }

  off_settled : (r : Res A) → is_settled r ≡ true → r ≡ off → ⊥
  off_settled r is same = (let clash = ap is_settled same in cc)

  off_wants : (r : Res A) (e : Event) → wanted r ≡ Some e → r ≡ off → ⊥
  off_wants r e is same = (let clash = ap wanted same in cc)

  pub told_ended : (turns : ℕ) (h : List Stamp) (n : ℕ) → has_ended turns R h n ≡ true → Over h n
  unfolding has_ended
  told_ended zero h n is = cc
  told_ended (suc turns) h n is = go (is_settled (life_of R h n)) refl is (λ i so. told_ended turns h (16 * n + i) so)
    where
      go : (b : Bool) → is_settled (life_of R h n) ≡ b → elim b as (λ z. Bool) [ false ↦ false | true ↦ all_up_to (branches_now R h n) (λ i. has_ended turns R h (16 * n + i)) ] ≡ true
          → ((i : ℕ) → has_ended turns R h (16 * n + i) ≡ true → Over h (16 * n + i)) → Over h n
      go false settled same below = cc
      go true settled same below =
          let l = living h n (off_settled (life_of R h n) settled) in
          ended n l.start l.begun (ap is_settled (sym l.reading) ∙ settled) (λ i low high. below i (all_true (branches_now R h n) (λ j. has_ended turns R h (16 * n + j)) same i low high))

  shallow : (s : List Heard) (o : List Stamp) → is_settled (at R s o) ≡ true → depth s ≤ 14
  shallow s o is = go (nat_le (depth s) 14) refl is
    where
      go : (b : Bool) → nat_le (depth s) 14 ≡ b → is_settled (elim b as (λ z. Res A) [ true ↦ R (heard s o) | false ↦ off ]) ≡ true → depth s ≤ 14
      go true low so = leb-true (depth s) 14 low
      go false low so = cc

  pub ended_told : (turns d : ℕ) (h : List Stamp) (n : ℕ) → AreFew (threads_of R) h → IsDepth d n → 16 ≤ turns + d → Over h n → has_ended turns R h n ≡ true
  unfolding has_ended
  ended_told zero d h n few is enough (ended i s begun stops joined) =
      let low = shallow s (own (threads_of R) i h) stops in
      let same = one_depth d (depth s) i is (depth_begun R h i s begun) in
      absurd (omega (arith, low, same, enough))
  ended_told (suc turns) d h n few is enough (ended i s begun stops joined) =
      ap (λ b. elim b as (λ z. Bool) [ false ↦ false | true ↦ all_up_to (branches_now R h i) (λ j. has_ended turns R h (16 * i + j)) ]) (ap is_settled (life_is h i s begun) ∙ stops)
      ∙ true_all (branches_now R h i) (λ j. has_ended turns R h (16 * i + j))
      (λ j low high.
      (let most = few_branches (threads_of R) h few i in
      ended_told turns (suc d) h (16 * i + j) few (branch_depth d i j (omega (arith, high, most)) is) (omega (arith, enough)) (joined j low high)))

  -- Who is next.

  abbrev next_if : List Stamp → ℕ → Bool → Option Event
  next_if h n b = elim b [ true ↦ wanted (life_of R h n) | false ↦ None ]

  pub record Told (h : List Stamp) (n : ℕ) (e : Event) : Type 0 where
    pub start : List Heard
    pub next : NextTo h n start e

  pub told_next : (h : List Stamp) (n : ℕ) (e : Event) → next_of R h n ≡ Some e → Told h n e
  told_next h n e is = go (all_up_to (branches_now R h n) (λ i. has_ended generations R h (16 * n + i))) refl is
    where
      go : (b : Bool) → all_up_to (branches_now R h n) (λ i. has_ended generations R h (16 * n + i)) ≡ b → next_if h n b ≡ Some e → Told h n e
      go false all same = cc
      go true all same =
          let l = living h n (off_wants (life_of R h n) e same) in
          record {
            start = l.start;
            next = record {
              begins = l.begun;
              wants = ap wanted (sym l.reading) ∙ same;
              joined = λ i low high. told_ended generations h (16 * n + i) (all_true (branches_now R h n) (λ j. has_ended generations R h (16 * n + j)) all i low high);
            };
          }

  pub next_told : (h : List Stamp) (n : ℕ) (s : List Heard) (e : Event) → AreFew (threads_of R) h → NextTo h n s e → next_of R h n ≡ Some e
  next_told h n s e few next =
      ap (next_if h n)
      (true_all (branches_now R h n) (λ j. has_ended generations R h (16 * n + j))
      (λ j low high.
      (let most = few_branches (threads_of R) h few n in
      ended_told generations (suc (depth s)) h (16 * n + j) few (branch_depth (depth s) n j (omega (arith, high, most)) (depth_begun R h n s next.begins)) (omega arith) (next.joined j low high))))
      ∙ (ap wanted (life_is h n s next.begins) ∙ next.wants)
