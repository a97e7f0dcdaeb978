-- Threads by name: what changes, what ends, what joins.
use Rattle.std.proofs.Common.{◌≡◌, ℕ, ◌+◌, ◌*◌, ◌/◌, ◌%◌, ◌<◌, ◌≤◌, Bool, true, false, List, [], ◌∷◌, suc, refl, sym, ap, ◌∙◌, subst, arith, Option, Some, None, cond, IsSome, ⊎_elim}
use Rattle.std.specs.Option.{is_some}
use Rattle.std.proofs.lemmas.Bool.{cases_eq}
use Rattle.std.specs.Ordering.{nat_cmp, is_gt}
use Rattle.std.specs.BTreeMap.Range.{IsLeBy}
use Rattle.std.specs.Prelude.{All, slice_get}
use Rattle.std.specs.BTreeMap.{is_at}
use Rattle.std.specs.Map.{lookup, keys_of}
use Rattle.std.specs.List.{AllByRecursion}
use Rattle.std.specs.List.Sorted.{IsStrictlySortedBy}
use Rattle.std.specs.declared.cmp.Ordering.TheVariants.{Less}
use Rattle.tac_ir.specs.declared.code.Code.{Code}
use Rattle.tac_thread.specs.declared.want.Want.{Want}
use Rattle.tac_thread.specs.declared.want.ReplyOf.{ReplyOf}
use Rattle.tac_thread.specs.Meaning.{Meaning}
use Rattle.tac_thread.specs.Life.{Life}
use Rattle.tac_thread.specs.declared.guest.Stage.{Stage}
use Rattle.tac_thread.specs.Doing.{want_at, want_of}
use Rattle.tac_thread.specs.Answered.{answered, joined}
use Rattle.tac_thread.specs.RunsOn.{RunsOn}
use Rattle.tac_thread.specs.Begun.{root_of}
use Rattle.tac_thread.specs.Guests.{IsGuestOf, TakesReply}
use Rattle.tac_thread.specs.Threads.{Threads, Lives, life_in, is_waiting, running, IsRunnable, want_of_life, IsLeastOf, changed, HasBranch, end_in, ended_of, main_value, Settles, AreGuests, IsTree, IsSettling, Takes, IsFed, Resumes, IsStuck, at_fork, IsBegun}
use Rattle.tac_thread.specs.Threads.Resumes.{none_lives}
use Rattle.tac_thread.specs.Threads.Settles.{goes_on, main_ends, others_live, joins}
use Rattle.tac_thread.specs.tools.Settling.{first_running, IsStepped, IsWaiting, IsJoined, IsClosed, IsApart}

-- a thread that waits wants to
pub waits_for : {X T : Type 0} (m : Meaning X T) (c : Code) (l : Life X T) → is_waiting l.stage ≡ true → want_of m c l ≡ Some Want.Waits
waits_for {X} {T} m c l w = by l.stage w
  where
    by : (s : Stage X T) → is_waiting s ≡ true → want_at m c l.top s ≡ Some Want.Waits
    by Stage.Waiting w = refl
    by s w = cc

-- a runnable thread does not wait, and wants what its life wants
pub running_is : {X T : Type 0} (o : Option (Life X T)) (l : Life X T) → running o ≡ Some l → (o ≡ Some l) × (is_waiting l.stage ≡ false)
running_is None l e = cc
running_is {X} {T} (Some k) l e = by (is_waiting k.stage) refl e
  where
    by : (b : Bool) → is_waiting k.stage ≡ b → elim b [ true ↦ None | false ↦ Some k ] ≡ Some l → (Some k ≡ Some l) × (is_waiting l.stage ≡ false)
    by true w e = cc
    by false w e = (e, ap (λ (z : Life X T). is_waiting z.stage) (let same : k ≡ l = cc in sym same) ∙ w)

wanting_is : {X T : Type 0} (m : Meaning X T) (c : Code) (o : Option (Life X T)) (w : Want X) → want_of_life m c o ≡ Some w → (l : Life X T) × (o ≡ Some l) × (want_of m c l ≡ Some w)
wanting_is m c None w e = cc
wanting_is m c (Some l) w e = (l, refl, e)

-- the thread that takes an answer
pub taking : {X T : Type 0} (m : Meaning X T) (c : Code) (f : Lives X T) (n : ℕ) (reply : ReplyOf X T) → Takes m c f n reply
    → (l : Life X T) × (f n ≡ Some l) × (is_waiting l.stage ≡ false) × TakesReply m c l reply
taking m c f n reply kind =
    let l = wanting_is m c (running (f n)) kind.want kind.wants in
    let runs_now = running_is (f n) l.0 l.1 in
    (l.0, runs_now.0, runs_now.1, (kind.want, l.2, kind.kind))

-- what an answer makes of the thread that takes it
pub stepped : {X T : Type 0} (m : Meaning X T) (c : Code) (s t : Threads X T) (g : Lives X T) (n : ℕ) (reply : ReplyOf X T) (l k : Life X T)
    → s ≡ t → Some l ≡ life_in s n → ((q : ℕ) → g q ≡ changed (life_in s) n (Some k) q) → RunsOn m c (answered m c l reply) k → IsGuestOf m c k → IsStepped m c (life_in t) n reply g
stepped m c s t g n reply l k same lived changes run guest =
    subst (λ z. IsStepped m c (life_in z) n reply g) same (record { life = l; lived = sym lived; next = k; runs = run; guest = guest; changes = changes })

pub went_on : {X T : Type 0} (m : Meaning X T) (c : Code) (s t : Threads X T) (g : Lives X T) (n : ℕ) (l k : Life X T)
    → s ≡ t → Some l ≡ life_in s n → ((q : ℕ) → g q ≡ changed (life_in s) n (Some k) q) → RunsOn m c (joined c l) k → IsGuestOf m c k → IsJoined m c (life_in t) n g
went_on m c s t g n l k same lived changes run guest =
    subst (λ z. IsJoined m c (life_in z) n g) same (record { life = l; lived = sym lived; next = k; runs = run; guest = guest; changes = changes })

pub some_is : {A : Type 0} (o : Option A) (x : A) → Some x ≡ o → IsSome o
some_is None x e = cc
some_is (Some y) x e = refl

pub guest_is : {X T : Type 0} (m : Meaning X T) (c : Code) (t : Threads X T) (n : ℕ) (l : Life X T) → Some l ≡ life_in t n → AreGuests m c (life_in t) → IsGuestOf m c l
guest_is m c t n l lived all = all.guests n l (sym lived)

pub waiting_is : {X T : Type 0} (m : Meaning X T) (c : Code) (o : Option (Life X T)) (l : Life X T) → Some l ≡ o → IsWaiting m c o → (want_of m c l ≡ Some Want.Waits) × IsGuestOf m c l
waiting_is m c o l is waits =
    let e : Some waits.0 ≡ Some l = sym waits.1 ∙ sym is in
    let same : waits.0 ≡ l = cc in
    (subst (λ k. want_of m c k ≡ Some Want.Waits) same (waits_for m c waits.0 waits.2), subst (λ k. IsGuestOf m c k) same waits.3)

-- the answer that the tree takes is one that its thread takes
pub takes_reply : {X T : Type 0} (m : Meaning X T) (c : Code) (f : Lives X T) (n : ℕ) (reply : ReplyOf X T) (l : Life X T) → Some l ≡ f n → Takes m c f n reply → TakesReply m c l reply
takes_reply m c f n reply l is kind =
    let t = taking m c f n reply kind in
    let e : Some l ≡ Some t.0 = is ∙ t.1 in
    let same : t.0 ≡ l = cc in
    subst (λ k. TakesReply m c k reply) same t.3

-- Branches.

pub found_branch : {X T : Type 0} (s t : Threads X T) (n i : ℕ) → s ≡ t → 1 ≤ i → i < 16 → is_some (life_in s (16 * n + i)) ≡ true → HasBranch (life_in t) n
found_branch {X} {T} s t n i same low high found =
    let here : (o : Option (Life X T)) → is_some o ≡ true → (l : Life X T) × (o ≡ Some l) = elim [ None ↦ λ e. cc | Some l ↦ λ e. (l, refl) ] in
    let l = here (life_in s (16 * n + i)) found in
    (i, low, omega arith, (l.0, ap (λ z. life_in z (16 * n + i)) (sym same) ∙ l.1))

-- one more branch that does not live
pub none_more : {X T : Type 0} (s t : Threads X T) (n i : ℕ) → s ≡ t → ((j : ℕ) → 1 ≤ j → j < i → life_in t (16 * n + j) ≡ None) → is_some (life_in s (16 * n + i)) ≡ false
    → (j : ℕ) → 1 ≤ j → j < i + 1 → life_in t (16 * n + j) ≡ None
none_more {X} {T} s t n i same so_far found j low high =
    ⊎_elim (λ (e : j ≡ i). subst (λ k. life_in t (16 * n + k) ≡ None) (sym e) (ap (λ z. life_in z (16 * n + i)) (sym same) ∙ none_is (life_in s (16 * n + i)) found))
    (λ (other : j ≡ i → ⊥). so_far j low (omega arith)) (cases_eq j i)
  where
    none_is : (o : Option (Life X T)) → is_some o ≡ false → o ≡ None
    none_is None e = refl
    none_is (Some l) e = cc

pub no_branch : {X T : Type 0} (t : Threads X T) (n i : ℕ) → ((j : ℕ) → 1 ≤ j → j < i → life_in t (16 * n + j) ≡ None) → 16 ≤ i → HasBranch (life_in t) n → ⊥
no_branch t n i none past b = let e : None ≡ Some b.3.0 = sym (none b.0 b.1 (omega (arith, b.2))) ∙ b.3.1 in cc

-- Threads that end.

less_is : (n k : ℕ) → nat_cmp n k ≡ Less → n < k
less_is n k h = grind (arith, nat_cmp)

pub is_at_same : (n : ℕ) → is_at (nat_cmp n) n ≡ true
is_at_same n = grind (arith, nat_cmp)

pub is_at_other : (n k : ℕ) → (k ≡ n → ⊥) → is_at (nat_cmp n) k ≡ false
is_at_other n k other = grind (arith, nat_cmp)

pub changed_here : {X T : Type 0} (f : Lives X T) (n : ℕ) (l : Option (Life X T)) → changed f n l n ≡ l
changed_here f n l = ap (λ b. cond b l (f n)) (is_at_same n)

pub changed_other : {X T : Type 0} (f : Lives X T) (n : ℕ) (l : Option (Life X T)) (k : ℕ) → (k ≡ n → ⊥) → changed f n l k ≡ f k
changed_other f n l k other = ap (λ b. cond b l (f k)) (is_at_other n k other)

-- what has ended lived
ended_lived : {X T : Type 0} (m : Meaning X T) (c : Code) (o : Option (Life X T)) (v : Option X) → ended_of m c o ≡ Some v → (l : Life X T) × (o ≡ Some l) × (want_of m c l ≡ Some (Want.Ended v))
ended_lived m c None v e = cc
ended_lived {X} m c (Some l) v e = (l, refl, by (want_of m c l) e)
  where
    by : (w : Option (Want X)) → end_in w ≡ Some v → w ≡ Some (Want.Ended v)
    by None e = cc
    by (Some (Want.Ended u)) e = let same : u ≡ v = cc in ap (λ z. Some (Want.Ended z)) same
    by (Some w) e = cc

not_waiting : {X T : Type 0} (m : Meaning X T) (c : Code) (o : Option (Life X T)) (p : Life X T) (v : Option X) → o ≡ Some p → is_waiting p.stage ≡ true → ended_of m c o ≡ Some v → ⊥
not_waiting m c o p v is waits ends =
    let l = ended_lived m c o v ends in
    let e : Some l.0 ≡ Some p = sym l.1 ∙ is in
    let same : l.0 ≡ p = cc in
    let clash : Some (Want.Ended v) ≡ Some Want.Waits = sym l.2 ∙ ap (want_of m c) same ∙ waits_for m c p waits in
    cc

-- an ended thread is no parent, so without it the others are guests
without_ended : {X T : Type 0} (m : Meaning X T) (c : Code) (n : ℕ) (f g : Lives X T) (v : Option X) → AreGuests m c f → ended_of m c (f n) ≡ Some v → ((k : ℕ) → g k ≡ changed f n None k) → AreGuests m c g
without_ended {X} {T} m c n f g v all ends changes = record {
  guests = λ k l e. all.guests k l (kept k l e).1;
  parents = λ k l e other. (let old = all.parents k l (kept k l e).1 other in
      let parent : (k / 16 ≡ n → ⊥) = λ same. not_waiting m c (f n) old.1.0 v (ap f (sym same) ∙ old.1.1) old.1.2 ends in
      (old.0, (old.1.0, changes (k / 16) ∙ changed_other f n None (k / 16) parent ∙ old.1.1, old.1.2)));
}
  where
    kept : (k : ℕ) (l : Life X T) → g k ≡ Some l → (k ≡ n → ⊥) × (f k ≡ Some l)
    kept k l e =
        let other : k ≡ n → ⊥ = λ same. (let none : g k ≡ None = ap g same ∙ changes n ∙ changed_here f n None in let clash : None ≡ Some l = sym none ∙ e in cc) in
        (other, sym (changes k ∙ changed_other f n None k other) ∙ e)

pub removed_tree : {X T : Type 0} (m : Meaning X T) (c : Code) (n : ℕ) (f g : Lives X T) (v : Option X) → IsSettling m c n f → ended_of m c (f n) ≡ Some v → ((k : ℕ) → g k ≡ changed f n None k) → IsTree m c g
removed_tree {X} {T} m c n f g v all ends changes = record {
  threads = without_ended m c n f g v all.threads ends changes;
  going = λ k. ⊎_elim
      (λ (same : k ≡ n). ap (ended_of m c) (ap g same ∙ changes n ∙ changed_here f n None))
      (λ (other : k ≡ n → ⊥). ap (ended_of m c) (changes k ∙ changed_other f n None k other) ∙ all.going k other)
      (cases_eq k n);
}

-- the parent of a thread that ended waits
pub parent_waits : {X T : Type 0} (m : Meaning X T) (c : Code) (n : ℕ) (f g : Lives X T) (v : Option X) → IsSettling m c n f → (n ≡ 1 → ⊥) → ended_of m c (f n) ≡ Some v
    → ((k : ℕ) → g k ≡ changed f n None k) → IsWaiting m c (g (n / 16))
parent_waits m c n f g v all other ends changes =
    let l = ended_lived m c (f n) v ends in
    let parent = all.threads.parents n l.0 l.1 other in
    let above : n / 16 ≡ n → ⊥ = λ same. omega (arith, parent.0) in
    (parent.1.0, changes (n / 16) ∙ changed_other f n None (n / 16) above ∙ parent.1.1, parent.1.2, all.threads.guests (n / 16) parent.1.0 parent.1.1)

-- after the join its parent alone may have ended
pub joined_settling : {X T : Type 0} (m : Meaning X T) (c : Code) (p : ℕ) (g h : Lives X T) → IsTree m c g → IsJoined m c g p h → (HasBranch g p → ⊥) → IsSettling m c p h
joined_settling {X} {T} m c p g h tree join none = record {
  threads = record {
    guests = λ k l e. ⊎_elim
        (λ (same : k ≡ p). (let n : Some join.next ≡ Some l = sym (ap h same ∙ join.changes p ∙ changed_here g p (Some join.next)) ∙ e in
        let is : join.next ≡ l = cc in subst (λ z. IsGuestOf m c z) is join.guest))
        (λ (other : k ≡ p → ⊥). tree.threads.guests k l (sym (join.changes k ∙ changed_other g p (Some join.next) k other) ∙ e))
        (cases_eq k p);
    parents = λ k l e first. (let old = lived k l e in
        let parent = tree.threads.parents k old.0 old.1 first in
        let apart : k / 16 ≡ p → ⊥ = λ same. none (k % 16, omega (arith, parent.0), omega arith, (old.0, ap g (omega (arith, same)) ∙ old.1)) in
        (parent.0, (parent.1.0, join.changes (k / 16) ∙ changed_other g p (Some join.next) (k / 16) apart ∙ parent.1.1, parent.1.2)));
  };
  going = λ k other. ap (ended_of m c) (join.changes k ∙ changed_other g p (Some join.next) k other) ∙ tree.going k;
}
  where
    lived : (k : ℕ) (l : Life X T) → h k ≡ Some l → (o : Life X T) × (g k ≡ Some o)
    lived k l e = ⊎_elim
        (λ (same : k ≡ p). (join.life, ap g same ∙ join.lived))
        (λ (other : k ≡ p → ⊥). (l, sym (join.changes k ∙ changed_other g p (Some join.next) k other) ∙ e))
        (cases_eq k p)

pub closed : {X T : Type 0} (m : Meaning X T) (c : Code) (n : ℕ) (f g h : Lives X T) (d v : Option X) → IsSettling m c n f → (n ≡ 1 → ⊥) → ended_of m c (f n) ≡ Some v
    → ((k : ℕ) → g k ≡ changed f n None k) → (HasBranch g (n / 16) → ⊥) → IsJoined m c g (n / 16) h → IsClosed m c n f d h d
closed m c n f g h d v all other ends changes none join =
    let tree = removed_tree m c n f g v all ends changes in
    let l = ended_lived m c (f n) v ends in
    let parent = all.threads.parents n l.0 l.1 other in
    record {
      threads = joined_settling m c (n / 16) g h tree join none;
      settles = λ last done rest. joins n f g h last d v done join.life join.next other ends changes none join.lived join.runs join.changes rest;
      less = omega (arith, parent.0);
    }

-- the three ways in which an ended thread is the last to change, or none

pub stays_here : {X T : Type 0} (m : Meaning X T) (c : Code) (n : ℕ) (f : Lives X T) (d : Option X) (r : Option (Option X)) → r ≡ ended_of m c (f n) → r ≡ None → Settles m c n f d f d
stays_here m c n f d r is none = goes_on n f d (sym is ∙ none)

pub main_stops : {X T : Type 0} (m : Meaning X T) (c : Code) (n : ℕ) (f g : Lives X T) (d v : Option X) (w : X) → n ≡ 1 → ended_of m c (f n) ≡ Some v → w ≡ main_value m v
    → ((k : ℕ) → g k ≡ changed f n None k) → Settles m c n f d g (Some w)
main_stops m c n f g d v w one ends value changes =
    let here = subst (λ k. ended_of m c (f k) ≡ Some v) one ends in
    let last = main_ends f g d v here (subst (λ n. (k : ℕ) → g k ≡ changed f n None k) one changes) in
    subst (λ z. Settles m c n f d g (Some z)) (sym value) (subst (λ k. Settles m c k f d g (Some (main_value m v))) (sym one) last)

pub others_stay : {X T : Type 0} (m : Meaning X T) (c : Code) (n : ℕ) (f g : Lives X T) (d e v : Option X) → (n ≡ 1 → ⊥) → ended_of m c (f n) ≡ Some v
    → ((k : ℕ) → g k ≡ changed f n None k) → HasBranch g (n / 16) → e ≡ d → Settles m c n f d g e
others_stay m c n f g d e v other ends changes branch same = subst (λ z. Settles m c n f d g z) (sym same) (others_live n f g d v other ends changes branch)

pub closed_to : {X T : Type 0} (m : Meaning X T) (c : Code) (n : ℕ) (f g h : Lives X T) (d e v : Option X) → IsSettling m c n f → (n ≡ 1 → ⊥) → ended_of m c (f n) ≡ Some v
    → ((k : ℕ) → g k ≡ changed f n None k) → (HasBranch g (n / 16) → ⊥) → IsJoined m c g (n / 16) h → e ≡ d → IsClosed m c n f d h e
closed_to m c n f g h d e v all other ends changes none join same = subst (λ z. IsClosed m c n f d h z) (sym same) (closed m c n f g h d v all other ends changes none join)

-- what settles from thread k and these threads on settles from n and those
abbrev pub SettlesOn : {V S : Type 0} → Meaning V S → Code → ℕ → Lives V S → Option V → ℕ → Lives V S → Option V → Type 0
SettlesOn {V} {S} m c n f d k g e = (last : Lives V S) (done : Option V) → Settles m c k g e last done → Settles m c n f d last done

pub settles_more : {X T : Type 0} (m : Meaning X T) (c : Code) (n k : ℕ) (f g h : Lives X T) (d e b : Option X) → SettlesOn m c n f d k g e → IsClosed m c k g e h b → SettlesOn m c n f d (k / 16) h b
settles_more m c n k f g h d e b so_far next = λ last done rest. so_far last done (next.settles last done rest)

-- Answers.

-- when a thread took an answer, it alone may have ended
pub stepped_settling : {X T : Type 0} (m : Meaning X T) (c : Code) (n : ℕ) (reply : ReplyOf X T) (f g : Lives X T) → IsTree m c f → Takes m c f n reply → IsStepped m c f n reply g → IsSettling m c n g
stepped_settling {X} {T} m c n reply f g tree kind step = record {
  threads = record {
    guests = λ k l e. ⊎_elim
        (λ (same : k ≡ n). (let here : Some step.next ≡ Some l = sym (ap g same ∙ step.changes n ∙ changed_here f n (Some step.next)) ∙ e in
        let is : step.next ≡ l = cc in subst (λ z. IsGuestOf m c z) is step.guest))
        (λ (other : k ≡ n → ⊥). tree.threads.guests k l (sym (step.changes k ∙ changed_other f n (Some step.next) k other) ∙ e))
        (cases_eq k n);
    parents = λ k l e first. (let old = lived k l e in
        let parent = tree.threads.parents k old.0 old.1 first in
        let apart : k / 16 ≡ n → ⊥ = λ same. runs_alone parent.1.0 (ap f (sym same) ∙ parent.1.1) parent.1.2 in
        (parent.0, (parent.1.0, step.changes (k / 16) ∙ changed_other f n (Some step.next) (k / 16) apart ∙ parent.1.1, parent.1.2)));
  };
  going = λ k other. ap (ended_of m c) (step.changes k ∙ changed_other f n (Some step.next) k other) ∙ tree.going k;
}
  where
    lived : (k : ℕ) (l : Life X T) → g k ≡ Some l → (o : Life X T) × (f k ≡ Some o)
    lived k l e = ⊎_elim
        (λ (same : k ≡ n). (step.life, ap f same ∙ step.lived))
        (λ (other : k ≡ n → ⊥). (l, sym (step.changes k ∙ changed_other f n (Some step.next) k other) ∙ e))
        (cases_eq k n)

    runs_alone : (p : Life X T) → f n ≡ Some p → is_waiting p.stage ≡ true → ⊥
    runs_alone p is waits =
        let t = taking m c f n reply kind in
        let e : Some p ≡ Some t.0 = sym is ∙ t.1 in
        let same : p ≡ t.0 = cc in
        let clash : true ≡ false = sym waits ∙ ap (λ (z : Life X T). is_waiting z.stage) same ∙ t.2 in
        cc

pub fed_to : {X T : Type 0} (m : Meaning X T) (c : Code) (n : ℕ) (reply : ReplyOf X T) (f g last : Lives X T) (d e b : Option X) → IsStepped m c f n reply g → e ≡ d → Settles m c n g e last b → IsFed m c f d n reply last b
fed_to m c n reply f g last d e b step same rest = record {
  life = step.life;
  lived = step.lived;
  next = step.next;
  runs = step.runs;
  lives = g;
  changes = step.changes;
  settles = subst (λ z. Settles m c n g z last b) same rest;
}

-- where it did not end, it is the only one that changed
pub fed_here : {X T : Type 0} (m : Meaning X T) (c : Code) (n : ℕ) (reply : ReplyOf X T) (f g : Lives X T) (d e : Option X) → IsStepped m c f n reply g → e ≡ d → ended_of m c (g n) ≡ None → IsFed m c f d n reply g e
fed_here m c n reply f g d e step same none = fed_to m c n reply f g g d e e step same (goes_on n g e none)

pub settled_tree : {X T : Type 0} (m : Meaning X T) (c : Code) (n : ℕ) (g : Lives X T) → IsSettling m c n g → ended_of m c (g n) ≡ None → IsTree m c g
settled_tree m c n g all none = record {
  threads = all.threads;
  going = λ k. ⊎_elim (λ (same : k ≡ n). ap (λ j. ended_of m c (g j)) same ∙ none) (λ (other : k ≡ n → ⊥). all.going k other) (cases_eq k n);
}

pub not_ended : {X T : Type 0} (m : Meaning X T) (c : Code) (n : ℕ) (f g : Lives X T) (k : Life X T) → ((q : ℕ) → g q ≡ changed f n (Some k) q) → end_in (want_of m c k) ≡ None → ended_of m c (g n) ≡ None
not_ended m c n f g k changes none = ap (ended_of m c) (changes n ∙ changed_here f n (Some k)) ∙ none

-- The least runnable name.

-- names beyond n are looked up among later threads
pub skips : {X T : Type 0} (e : ℕ × Life X T) (rest : List (ℕ × Life X T)) (k : ℕ) → (k ≡ e.0 → ⊥) → lookup (is_at (nat_cmp k)) (e ∷ rest) ≡ lookup (is_at (nat_cmp k)) rest
skips e rest k other = ap (λ b. cond b (Some e.1) (lookup (is_at (nat_cmp k)) rest)) (is_at_other k e.0 (λ same. other (sym same)))

pub finds : {X T : Type 0} (e : ℕ × Life X T) (rest : List (ℕ × Life X T)) → lookup (is_at (nat_cmp e.0)) (e ∷ rest) ≡ Some e.1
finds e rest = ap (λ b. cond b (Some e.1) (lookup (is_at (nat_cmp e.0)) rest)) (is_at_same e.0)

-- what stands behind a lower bound is not below it
beyond : {X T : Type 0} (n : ℕ) (es : List (ℕ × Life X T)) → AllByRecursion (λ y. nat_cmp n y ≡ Less) (keys_of es) → (k : ℕ) → k ≤ n → lookup (is_at (nat_cmp k)) es ≡ None
beyond n [] above k low = refl
beyond n (e ∷ es) above k low =
    let higher : n < e.0 = less_is n e.0 above.0 in
    skips e es k (λ same. omega arith) ∙ beyond n es above.1 k low

-- it is the least
pub first_is_least : {X T : Type 0} (es : List (ℕ × Life X T)) → IsStrictlySortedBy nat_cmp (keys_of es) → IsLeastOf (λ n. lookup (is_at (nat_cmp n)) es) (first_running es)
unfolding IsStrictlySortedBy
first_is_least [] sorted = λ n r. (let e : None ≡ Some r.0 = r.1 in cc)
first_is_least {X} {T} (e ∷ es) sorted = by (is_waiting e.1.stage) refl (first_running es) (first_is_least es sorted.1)
  where
    here_is : running (lookup (is_at (nat_cmp e.0)) (e ∷ es)) ≡ elim (is_waiting e.1.stage) [ true ↦ None | false ↦ Some e.1 ]
    here_is = ap running (finds e es)

    waits_here : is_waiting e.1.stage ≡ true → IsRunnable (λ n. lookup (is_at (nat_cmp n)) (e ∷ es)) e.0 → ⊥
    waits_here w r = let clash : None ≡ Some r.0 = sym (here_is ∙ ap (λ b. elim b [ true ↦ None | false ↦ Some e.1 ]) w) ∙ r.1 in cc

    moved : (k : ℕ) → (k ≡ e.0 → ⊥) → IsRunnable (λ n. lookup (is_at (nat_cmp n)) (e ∷ es)) k → IsRunnable (λ n. lookup (is_at (nat_cmp n)) es) k
    moved k other r = (r.0, ap running (sym (skips e es k other)) ∙ r.1)

    by : (b : Bool) → is_waiting e.1.stage ≡ b → (o : Option ℕ) → IsLeastOf (λ n. lookup (is_at (nat_cmp n)) es) o
        → IsLeastOf (λ n. lookup (is_at (nat_cmp n)) (e ∷ es)) (elim b [ true ↦ o | false ↦ Some e.0 ])
    by false w o rest = (
      (e.1, here_is ∙ ap (λ b. elim b [ true ↦ None | false ↦ Some e.1 ]) w),
      λ k low r. (let none = beyond e.0 es sorted.0 k (omega arith) in
          let clash : None ≡ Some r.0 = sym (ap running (skips e es k (λ same. omega arith) ∙ none)) ∙ r.1 in cc),
    )
    by true w None rest = λ n r. ⊎_elim
        (λ (same : n ≡ e.0). waits_here w (subst (λ k. IsRunnable (λ n. lookup (is_at (nat_cmp n)) (e ∷ es)) k) same r))
        (λ (other : n ≡ e.0 → ⊥). rest n (moved n other r))
        (cases_eq n e.0)
    by true w (Some n) rest =
        let apart : n ≡ e.0 → ⊥ = λ same. (let none = beyond e.0 es sorted.0 n (omega arith) in let clash : None ≡ Some rest.0.0 = sym (ap running none) ∙ rest.0.1 in cc) in (
          (rest.0.0, ap running (skips e es n apart) ∙ rest.0.1),
          λ k low r. ⊎_elim
              (λ (same : k ≡ e.0). waits_here w (subst (λ j. IsRunnable (λ n. lookup (is_at (nat_cmp n)) (e ∷ es)) j) same r))
              (λ (other : k ≡ e.0 → ⊥). rest.1 k low (moved k other r))
              (cases_eq k e.0),
        )

le_is : (n k : ℕ) → is_gt (nat_cmp n k) ≡ false → n ≤ k
le_is n k h = grind (arith, nat_cmp, is_gt)

-- no name stands below a lower bound
none_under : {X T : Type 0} (n : ℕ) (es : List (ℕ × Life X T)) → All (IsLeBy nat_cmp n) (keys_of es) → (k : ℕ) → k < n → lookup (is_at (nat_cmp k)) es ≡ None
none_under n [] above k low = refl
none_under n (e ∷ es) above k low =
    let higher : n ≤ e.0 = le_is n e.0 (above 0 e.0 (omega arith)) in
    skips e es k (λ same. omega (arith, higher, low, same)) ∙ none_under n es (λ i d h. above (suc i) d (omega (arith, h))) k low

-- the first thread is the least that runs, where it runs
pub first_runs : {X T : Type 0} (es : List (ℕ × Life X T)) (n : ℕ) (l : Life X T) → slice_get es 0 ≡ Some (n, l) → is_waiting l.stage ≡ false → All (IsLeBy nat_cmp n) (keys_of es)
    → IsLeastOf (λ k. lookup (is_at (nat_cmp k)) es) (Some n)
first_runs [] n l first going above = cc
first_runs {X} {T} (e ∷ es) n l first going above =
    let same : e ≡ (n, l) = cc in
    let here : lookup (is_at (nat_cmp n)) (e ∷ es) ≡ Some l = subst (λ (z : ℕ × Life X T). lookup (is_at (nat_cmp n)) (z ∷ es) ≡ Some l) (sym same) (finds (n, l) es) in (
      (l, ap running here ∙ ap (λ b. elim b [ true ↦ None | false ↦ Some l ]) going),
      λ k low r. (let clash : None ≡ Some r.0 = sym (ap running (none_under n (e ∷ es) above k low)) ∙ r.1 in cc),
    )

pub guest_runs : {X T : Type 0} (m : Meaning X T) (c : Code) (f : Lives X T) (n : ℕ) (l : Life X T) → Some l ≡ running (f n) → IsTree m c f → IsGuestOf m c l
guest_runs m c f n l is tree = tree.threads.guests n l (running_is (f n) l (sym is)).0

-- Uprooting.

pub none_below_more : {X T : Type 0} (f g : Lives X T) (n i : ℕ) → ((j : ℕ) → 1 ≤ j → j < i → f (16 * n + j) ≡ None) → ((k : ℕ) → g k ≡ changed f (16 * n + i) None k)
    → (j : ℕ) → 1 ≤ j → j < i + 1 → g (16 * n + j) ≡ None
none_below_more f g n i so_far changes j low high =
    ⊎_elim (λ (e : j ≡ i). ap (λ x. g (16 * n + x)) e ∙ changes (16 * n + i) ∙ changed_here f (16 * n + i) None)
    (λ (other : j ≡ i → ⊥). changes (16 * n + j) ∙ changed_other f (16 * n + i) None (16 * n + j) (λ e. other (omega arith)) ∙ so_far j low (omega arith))
    (cases_eq j i)

pub others_more : {X T : Type 0} (f g h : Lives X T) (n i : ℕ) → ((k : ℕ) → IsApart n k → g k ≡ f k) → ((k : ℕ) → h k ≡ changed g (16 * n + i) None k) → 1 ≤ i → i ≤ 15
    → (k : ℕ) → IsApart n k → h k ≡ f k
others_more f g h n i so_far changes low high k apart = changes k ∙ changed_other g (16 * n + i) None k (λ e. apart i low high e) ∙ so_far k apart

-- Waiting.

pub stuck_is : {X T : Type 0} (s t : Threads X T) (g : Lives X T) (e : Option X) (n : ℕ) (l k : Life X T) → s ≡ t → Some l ≡ life_in s n → k ≡ at_fork l
    → ((q : ℕ) → g q ≡ changed (life_in s) n (Some k) q) → e ≡ s.done → IsStuck (life_in t) t.done n g e
stuck_is s t g e n l k same lived waits changes kept =
    subst (λ z. IsStuck (life_in z) z.done n g e) same (record {
      life = l;
      lived = sym lived;
      changes = λ q. changes q ∙ ap (λ x. changed (life_in s) n (Some x) q) waits;
      done = kept;
    })

-- The beginning.

pub begun_is : {X T : Type 0} (m : Meaning X T) (c : Code) (s : T) (root : Life X T) (f nothing g : Lives X T) (e : Option X) → RunsOn m c (root_of m c s) root
    → ((k : ℕ) → nothing k ≡ None) → ((k : ℕ) → f k ≡ changed nothing 1 (Some root) k) → Settles m c 1 f None g e → IsBegun m c s g e
begun_is m c s root f nothing g e run none changes rest = record {
  root = root;
  runs = run;
  lives = f;
  changes = λ k. changes k ∙ ap (λ o. cond (is_at (nat_cmp 1) k) (Some root) o) (none k);
  settles = rest;
}

pub resumed_to : {X T : Type 0} (m : Meaning X T) (c : Code) (n : ℕ) (f h last : Lives X T) (d b e : Option X) → (HasBranch f n → ⊥) → IsJoined m c f n h → b ≡ d → Settles m c n h b last e
    → Resumes m c n f d last e
resumed_to m c n f h last d b e none join same rest =
    none_lives n f h last d e join.life join.next none join.lived join.runs join.changes (subst (λ z. Settles m c n h z last e) same rest)
