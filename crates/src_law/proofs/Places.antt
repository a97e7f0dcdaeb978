-- Where a thread stands between its parts: all branches that it had have ended. What one event of its own does to that.
use Rattle.std.proofs.Common.{◌≡◌, ℕ, ◌+◌, ◌*◌, ◌%◌, ◌≤◌, ◌<◌, true, false, List, [], ◌∷◌, ◌++◌, reverse, map, refl, sym, ap, ◌∙◌, Some, arith}
use Rattle.std.proofs.lemmas.Bool.{le-leb}
use Rattle.std.proofs.lemmas.List.{reverse-append, append_assoc}
use Rattle.dfi_base.specs.Names.{Below, depth_of}
use Rattle.dfi_base.specs.Lives.{own, BeginsIn, EndedIn, branches_after}
use Rattle.dfi_base.specs.Grown.{IsGrown, AreFew}
use Rattle.dfi_base.specs.Alike.{IsDeterministic}
use Rattle.dfi_base.proofs.Entries.{own_mine, starts_none, begun_same, ended_same, first_begins, few_branches}
use Rattle.dfi_base.proofs.OneLife.{next_not_ended}
use Rattle.dfi_base.proofs.Growing.{goes_on}
use Rattle.obj_mem.specs.declared.event.Event.{Event}
use Rattle.obj_mem.specs.declared.event.SrcAnswer.{SrcAnswer}
use Rattle.obj_mem.specs.declared.event.Stamp.{Stamp}
use Rattle.src_law.specs.Traces.{by}
use Rattle.src_law.specs.tools.Heard.{Heard, answer, branch, Res, got, wants, over, ended as has_ended, off, Reads}
use Rattle.src_law.specs.tools.Threads.{forked_by, heard_of, depth, heard, at, wanted, is_settled, begins_by, threads_of}

-- it does not go on as a branch
abbrev pub IsPast : List Heard → Type 0
IsPast [] = Unit {0}
IsPast (answer a ∷ l) = Unit {0}
IsPast (branch i ∷ l) = ⊥

-- stamps have the events that are wanted
abbrev pub Fits : Event → Stamp → Type 0
Fits w x = w ≡ x.event

abbrev pub AnyFits : List Stamp → Event → Stamp → Type 0
AnyFits h = Fits

wanted_one : {A : Type 0} (r : Res A) (w v : Event) → wanted r ≡ Some w → wanted r ≡ Some v → w ≡ v
wanted_one r w v a b = (let both : Some w ≡ Some v = sym a ∙ b in cc)

settled_wants_none : {A : Type 0} (r : Res A) (w : Event) → is_settled r ≡ true → wanted r ≡ Some w → ⊥
settled_wants_none (got v []) w s is = cc
settled_wants_none (got v (x ∷ l)) w s is = cc
settled_wants_none (wants e) w s is = cc
settled_wants_none over w s is = cc
settled_wants_none has_ended w s is = cc
settled_wants_none off w s is = cc

module _ {A : Type 0} (R : Reads A) where
  pub one_way : IsDeterministic (threads_of R)
  one_way = record {
    branch = λ s own n a b left right. left ∙ sym right;
    wants = λ s own w v left right. wanted_one (at R s own) w v left right;
    ends = λ s own w stop want. settled_wants_none (at R s own) w stop want;
  }

  pub born : (s : List Heard) (own : List Stamp) (n : ℕ) → (b : List Heard) × (b ≡ begins_by s own (n % 16))
  born s own n = (begins_by s own (n % 16), refl)

  -- behind the history thread n, the first of it, stands between two parts of its own
  pub record Place (n : ℕ) (s0 : List Heard) (h : List Stamp) : Type 0 where
    pub known : Below 1 n
    pub depth_is : depth s0 ≡ depth_of n
    pub shallow : depth_of n ≤ 14
    pub grown : IsGrown (threads_of R) AnyFits n s0 h
    pub few : AreFew (threads_of R) h
    pub all_over : (q : ℕ) (s : List Heard) → BeginsIn (threads_of R) n s0 h q s → (q ≡ n → ⊥) → EndedIn (threads_of R) n s0 h q
    pub joined : (i : ℕ) → 0 < i → i ≤ branches_after (threads_of R) (own (threads_of R) n h) → EndedIn (threads_of R) n s0 h (16 * n + i)

  abbrev pub now_heard : ℕ → List Heard → List Stamp → List Heard
  now_heard n s0 h = heard s0 (own (threads_of R) n h)

  pub at_shallow : (s0 : List Heard) (own : List Stamp) → depth s0 ≤ 14 → at R s0 own ≡ R (heard s0 own)
  at_shallow s0 own low = ap (λ b. elim b as (λ z. Res A) [ true ↦ R (heard s0 own) | false ↦ off ]) (le-leb (depth s0) 14 low)

  pub at_place : (n : ℕ) (s0 : List Heard) (h : List Stamp) → Place n s0 h → at R s0 (own (threads_of R) n h) ≡ R (now_heard n s0 h)
  at_place n s0 h p = (let is = p.depth_is in let low = p.shallow in at_shallow s0 (own (threads_of R) n h) (omega (arith, is, low)))

  heard_then : (s0 : List Heard) (x : Stamp) (o : List Stamp) (l : List Heard) → heard s0 (x ∷ o) ++ l ≡ heard s0 o ++ answer x.answer ∷ l
  heard_then s0 x o l =
      ap (λ z. (s0 ++ z) ++ l) (reverse-append (answer x.answer ∷ []) (map heard_of o))
      ∙ (ap (λ z. z ++ l) (sym (append_assoc s0 (reverse (map heard_of o)) (answer x.answer ∷ []))) ∙ append_assoc (heard s0 o) (answer x.answer ∷ []) l)

  -- behind an event of its own it has heard the answer too
  pub heard_more : (n : ℕ) (s0 : List Heard) (h : List Stamp) (e : Event) (a : SrcAnswer) (l : List Heard) → now_heard n s0 (by n e a ∷ h) ++ l ≡ now_heard n s0 h ++ answer a ∷ l
  heard_more n s0 h e a l = ap (λ o. heard s0 o ++ l) (own_mine (threads_of R) n (by n e a) h refl) ∙ heard_then s0 (by n e a) (own (threads_of R) n h) l

  pub wants_here : (n : ℕ) (s0 : List Heard) (h : List Stamp) (e : Event) → Place n s0 h → wanted (R (now_heard n s0 h)) ≡ Some e → wanted (at R s0 (own (threads_of R) n h)) ≡ Some e
  wants_here n s0 h e p want = ap wanted (at_place n s0 h p) ∙ want

  -- the first thread goes on
  pub own_grown : (n : ℕ) (s0 : List Heard) (h : List Stamp) (e : Event) (a : SrcAnswer) → Place n s0 h → wanted (R (now_heard n s0 h)) ≡ Some e
      → IsGrown (threads_of R) AnyFits n s0 (by n e a ∷ h)
  own_grown n s0 h e a p want = goes_on (threads_of R) AnyFits n s0 h (by n e a) e p.grown refl (wants_here n s0 h e p want) p.joined refl

  pub own_few : (n : ℕ) (s0 : List Heard) (h : List Stamp) (e : Event) (a : SrcAnswer) → Place n s0 h → forked_by e ≤ 15 → AreFew (threads_of R) (by n e a ∷ h)
  unfolding AreFew
  own_few n s0 h e a p few = (few, p.few)

  -- it has not ended where it wants something
  pub still_lives : (n : ℕ) (s0 : List Heard) (h : List Stamp) (e : Event) → Place n s0 h → wanted (R (now_heard n s0 h)) ≡ Some e → EndedIn (threads_of R) n s0 h n → ⊥
  still_lives n s0 h e p want =
      next_not_ended (threads_of R) one_way n s0 h n s0 e (record { begins = first_begins (threads_of R) n s0 AnyFits h p.grown; wants = wants_here n s0 h e p want; joined = p.joined })

  pub own_step : (n : ℕ) (s0 : List Heard) (h : List Stamp) (e : Event) (a : SrcAnswer) → Place n s0 h → wanted (R (now_heard n s0 h)) ≡ Some e → forked_by e ≡ 0 → Place n s0 (by n e a ∷ h)
  own_step n s0 h e a p want none = record {
    known = p.known;
    depth_is = p.depth_is;
    shallow = p.shallow;
    grown = own_grown n s0 h e a p want;
    few = own_few n s0 h e a p (omega (arith, none));
    all_over = λ q s begins differs.
        (let idle = starts_none (threads_of R) q (by n e a) none in
        ended_same (threads_of R) n s0 (by n e a) h (still_lives n s0 h e p want) (few_branches (threads_of R) h p.few) q idle
        (p.all_over q s (begun_same (threads_of R) n s0 (by n e a) h q s idle begins) differs));
    joined = λ i low high. (let same = ap (branches_after (threads_of R)) (own_mine (threads_of R) n (by n e a) h refl) in absurd (omega (arith, low, high, same, none)));
  }
