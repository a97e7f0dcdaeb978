-- A run goes on by one name.
use Rattle.std.proofs.Common.{◌≡◌, ℕ, zero, suc, ◌≤◌, ◌<◌, ℤ, List, [], ◌∷◌, ◌++◌, length, reverse, replicate, Bool, true, false, refl, Option, Some, None, arith, sym, ◌∙◌, ap, subst, inl, inr}
use Rattle.std.specs.Prelude.{nat_le, get_or}
use Rattle.std.specs.List.{All}
use Rattle.std.proofs.lemmas.List.{reverse-append, reverse-reverse}
use Rattle.obj_mem.specs.declared.value.Value.{Value}
use Rattle.obj_mem.specs.declared.event.Event.{Event}
use Rattle.obj_mem.specs.declared.event.SrcAnswer.{SrcAnswer}
use Rattle.obj_mem.specs.declared.event.Stamp.{Stamp}
use Rattle.obj_mem.specs.Valid.{answer_of, read_at, write_at, compared, freed, where_so, differs_or_not, is_usable, the_value}
use Rattle.tac_ir.specs.declared.code.Code.{Code}
use Rattle.tac_ir.specs.GoodForm.{GoodForm}
use Rattle.tac_ir.specs.Answers.{depth_of}
use Rattle.tac_thread.specs.declared.want.Want.{Want}
use Rattle.tac_thread.specs.Doing.{want_of}
use Rattle.tac_thread.specs.Answered.{IsReplyTo}
use Rattle.tac_thread.specs.Threads.{Threads, life_in, running, want_of_life, next_in, is_waiting, IsTree, IsFed, ForksBy, Takes}
use Rattle.tac_thread.proofs.Trees.{running_is}
use Rattle.tac_thread.proofs.Forking
use Rattle.tac_thread.proofs.Forking.{few_branches}
use Rattle.tree_law.specs.Chain.IsTreeAfter.{feeds, forks, halts, sticks}
use Rattle.tree_law.proofs.trees.Waking.{answered_awake, at_fork_is}
use Rattle.obj_run.specs.declared.threads.State.{State}
use Rattle.obj_run.specs.declared.values.ObjStack.{ObjStack}
use Rattle.obj_run.specs.Objects.{object_meaning}
use Rattle.obj_run.specs.Asked.{event_of, number_of, reply_of}
use Rattle.obj_run.specs.Entries.{Entry, stamps_of}
use Rattle.obj_run.specs.Starts.{opening}
use Rattle.obj_run.specs.Runs.{ObjLife, ObjLives, IsAsked, IsObjTree, IsOver, HasTrapped, is_zero, is_too_deep, names_of}
use Rattle.obj_run.specs.tools.SoFar.{Run, IsSoFar, Stands, NoZeros, names_in, Asks, AnswersBy, Answers, ForksShared, fork_in}
use Rattle.obj_run.specs.tools.SoFar.Stands.{going, trapped, wrong}

-- An answer is of the kind that is asked for.

abbrev IsKind : Code → Want Value → SrcAnswer → Type 0
IsKind c w a = IsReplyTo object_meaning c w (reply_of a)

one_kind : (c : Code) (w : Want Value) (b a : SrcAnswer) → IsKind c w b → Some b ≡ Some a → IsKind c w a
one_kind c w b a kind is = (let same : b ≡ a = cc in subst (IsKind c w) same kind)

where_kind : (c : Code) (w : Want Value) (x : Bool) (b a : SrcAnswer) → IsKind c w b → where_so x b ≡ Some a → IsKind c w a
where_kind c w true b a kind is = one_kind c w b a kind is
where_kind c w false b a kind is = cc

read_kind : (c : Code) (w : Want Value) (h : List Stamp) (p : Value) (a : SrcAnswer) → ((v : Value) → IsKind c w (SrcAnswer.Value v)) → read_at h p ≡ Some a → IsKind c w a
read_kind c w h (Value.Ptr o off lo hi) a kind is = by (is_usable h o off lo hi) (Rattle.obj_mem.specs.Written.last_value o off h) is
  where
    by : (b : Bool) (v : Option Value) → elim b as (λ z. Option SrcAnswer) [ true ↦ the_value v | false ↦ None ] ≡ Some a → IsKind c w a
    by true (Some v) is = one_kind c w (SrcAnswer.Value v) a (kind v) is
    by true None is = cc
    by false v is = cc
read_kind c w h (Value.Int k) a kind is = cc
read_kind c w h Value.Null a kind is = cc

write_kind : (c : Code) (w : Want Value) (h : List Stamp) (p : Value) (a : SrcAnswer) → IsKind c w SrcAnswer.Unit → write_at h p ≡ Some a → IsKind c w a
write_kind c w h (Value.Ptr o off lo hi) a kind is = where_kind c w (is_usable h o off lo hi) SrcAnswer.Unit a kind is
write_kind c w h (Value.Int k) a kind is = cc
write_kind c w h Value.Null a kind is = cc

free_kind : (c : Code) (w : Want Value) (h : List Stamp) (p : Value) (a : SrcAnswer) → IsKind c w SrcAnswer.Unit → freed h p ≡ Some a → IsKind c w a
free_kind c w h Value.Null a kind is = one_kind c w SrcAnswer.Unit a kind is
free_kind c w h (Value.Ptr o off lo hi) a kind is = where_kind c w _ SrcAnswer.Unit a kind is
free_kind c w h (Value.Int k) a kind is = cc

truth_kind : (c : Code) (w : Want Value) (x ne same : Bool) (a : SrcAnswer) → ((v : Value) → IsKind c w (SrcAnswer.Value v)) → where_so x (differs_or_not ne same) ≡ Some a → IsKind c w a
truth_kind c w x true true a kind is = where_kind c w x _ a (kind _) is
truth_kind c w x true false a kind is = where_kind c w x _ a (kind _) is
truth_kind c w x false true a kind is = where_kind c w x _ a (kind _) is
truth_kind c w x false false a kind is = where_kind c w x _ a (kind _) is

same_kind : (c : Code) (w : Want Value) (h : List Stamp) (p q : Value) (ne : Bool) (a : SrcAnswer) → ((v : Value) → IsKind c w (SrcAnswer.Value v)) → compared h p q ne ≡ Some a → IsKind c w a
same_kind c w h Value.Null Value.Null ne a kind is = truth_kind c w true ne true a kind is
same_kind c w h (Value.Ptr o off lo hi) Value.Null ne a kind is = truth_kind c w _ ne false a kind is
same_kind c w h Value.Null (Value.Ptr o off lo hi) ne a kind is = truth_kind c w _ ne false a kind is
same_kind c w h (Value.Ptr o off lo hi) (Value.Ptr p at from to) ne a kind is = truth_kind c w _ ne _ a kind is
same_kind c w h (Value.Int k) q ne a kind is = cc
same_kind c w h Value.Null (Value.Int k) ne a kind is = cc
same_kind c w h (Value.Ptr o off lo hi) (Value.Int k) ne a kind is = cc

abbrev Fits : Code → List Stamp → ℕ → SrcAnswer → Want Value → Event → Type 0
Fits c h n a w e = is_zero e ≡ false → answer_of h n e ≡ Some a → IsKind c w a

by_event : (c : Code) (h : List Stamp) (n : ℕ) (a : SrcAnswer) (w : Want Value) (b e : Event) → Fits c h n a w b → Some b ≡ Some e → Fits c h n a w e
by_event c h n a w b e fits is = (let same : b ≡ e = cc in subst (Fits c h n a w) same fits)

pub kind : (c : Code) (h : List Stamp) (n : ℕ) (a : SrcAnswer) (w : Want Value) (e : Event) → event_of c w ≡ Some e → Fits c h n a w e
kind c h n a (Want.Read r p) e is = by_event c h n a (Want.Read r p) (Event.Rd p) e (λ z ans. read_kind c (Want.Read r p) h p a (λ v. tt) ans) is
kind c h n a (Want.Write d p v) e is = by_event c h n a (Want.Write d p v) (Event.Wr p v) e (λ z ans. write_kind c (Want.Write d p v) h p a tt ans) is
kind c h n a (Want.Same p q ne) e is = by_event c h n a (Want.Same p q ne) (Event.Same p q ne) e (λ z ans. same_kind c (Want.Same p q ne) h p q ne a (λ v. tt) ans) is
kind c h n a (Want.New site (Value.Int k)) e is = by_event c h n a (Want.New site (Value.Int k)) _ e (λ z ans. one_kind c (Want.New site (Value.Int k)) _ a tt ans) is
kind c h n a (Want.New site Value.Null) e is = by_event c h n a (Want.New site Value.Null) Event.Bad e (λ z ans. cc) is
kind c h n a (Want.New site (Value.Ptr o off lo hi)) e is = by_event c h n a (Want.New site (Value.Ptr o off lo hi)) Event.Bad e (λ z ans. cc) is
kind c h n a (Want.Free p) e is = by_event c h n a (Want.Free p) (Event.Free p) e (λ z ans. free_kind c (Want.Free p) h p a tt ans) is
kind c h n a Want.In e is = by_event c h n a Want.In Event.In e (λ z ans. one_kind c Want.In _ a tt ans) is
kind c h n a Want.Left e is = by_event c h n a Want.Left Event.Left e (λ z ans. one_kind c Want.Left _ a tt ans) is
kind c h n a (Want.Out (Value.Int k)) e is = by_event c h n a (Want.Out (Value.Int k)) (Event.Out k) e (λ z ans. one_kind c (Want.Out (Value.Int k)) SrcAnswer.Unit a tt ans) is
kind c h n a (Want.Out Value.Null) e is = by_event c h n a (Want.Out Value.Null) Event.Bad e (λ z ans. cc) is
kind c h n a (Want.Out (Value.Ptr o off lo hi)) e is = by_event c h n a (Want.Out (Value.Ptr o off lo hi)) Event.Bad e (λ z ans. cc) is
kind c h n a (Want.Call f) e is = by_event c h n a (Want.Call f) (Event.Call f) e (λ z ans. one_kind c (Want.Call f) _ a refl ans) is
kind c h n a Want.Ret e is = by_event c h n a Want.Ret Event.Ret e (λ z ans. one_kind c Want.Ret SrcAnswer.Unit a tt ans) is
kind c h n a Want.Turn e is = by_event c h n a Want.Turn Event.Turn e (λ z ans. one_kind c Want.Turn SrcAnswer.Unit a tt ans) is
kind c h n a (Want.Fork k) e is = by_event c h n a (Want.Fork k) (Event.Fork k) e (λ z ans. one_kind c (Want.Fork k) SrcAnswer.Unit a tt ans) is
kind c h n a Want.Zero e is = by_event c h n a Want.Zero Event.Zero e (λ z ans. cc) is
kind c h n a Want.Bad e is = by_event c h n a Want.Bad Event.Bad e (λ z ans. cc) is
kind c h n a (Want.Push d word) e is = cc
kind c h n a (Want.Pop r word) e is = cc
kind c h n a Want.Waits e is = cc
kind c h n a (Want.Ended v) e is = cc

-- Forks.

pub unit_forked : (h : List Stamp) (n k : ℕ) (a : SrcAnswer) → answer_of h n (Event.Fork k) ≡ Some a → SrcAnswer.Unit ≡ a
unit_forked h n k a is = cc

pub fork_wanted : (c : Code) (w : Want Value) (k : ℕ) → event_of c w ≡ Some (Event.Fork k) → w ≡ Want.Fork k
fork_wanted c (Want.Fork j) k is = (let same : Event.Fork j ≡ Event.Fork k = cc in let one : j ≡ k = cc in ap Want.Fork one)
fork_wanted c (Want.New site (Value.Int i)) k is = cc
fork_wanted c (Want.New site Value.Null) k is = cc
fork_wanted c (Want.New site (Value.Ptr o off lo hi)) k is = cc
fork_wanted c (Want.Out (Value.Int i)) k is = cc
fork_wanted c (Want.Out Value.Null) k is = cc
fork_wanted c (Want.Out (Value.Ptr o off lo hi)) k is = cc
fork_wanted c w k is = cc

pub fork_named : (e : Event) (k : ℕ) → fork_in e ≡ Some k → e ≡ Event.Fork k
fork_named (Event.Fork j) k is = (let same : j ≡ k = cc in ap Event.Fork same)
fork_named e k is = cc

pub shallow_none : (n : ℕ) (e : Event) → fork_in e ≡ None → is_too_deep n e ≡ false
shallow_none n (Event.Fork k) is = cc
shallow_none n e is = refl

pub not_zero : (e : Event) → (e ≡ Event.Zero → ⊥) → is_zero e ≡ false
not_zero Event.Zero other = absurd (other refl)
not_zero e other = refl

pub not_fork : (e : Event) → ((k : ℕ) → e ≡ Event.Fork k → ⊥) → fork_in e ≡ None
not_fork (Event.Fork k) other = absurd (other k refl)
not_fork e other = refl

-- The thread that runs.

record Runner (c : Code) (f : ObjLives) (n : ℕ) (w : Want Value) : Type 0 where
  life : ObjLife
  lives : f n ≡ Some life
  awake : is_waiting life.stage ≡ false
  wants : want_of object_meaning c life ≡ Some w

runner : (c : Code) (f : ObjLives) (n : ℕ) (w : Want Value) → next_in object_meaning c f n ≡ Some w → Runner c f n w
runner c f n w is = by (running (f n)) refl is
  where
    by : (o : Option ObjLife) → running (f n) ≡ o → want_of_life object_meaning c o ≡ Some w → Runner c f n w
    by None runs wants = cc
    by (Some l) runs wants = (let r = running_is (f n) l runs in record { life = l; lives = r.0; awake = r.1; wants = wants })

-- What may be fed.
pub takes : (c : Code) (r : Run) (n : ℕ) (e : Event) (a : SrcAnswer) → Asks c r n e a → is_zero e ≡ false → fork_in e ≡ None → Takes object_meaning c (life_in r.tree) n (reply_of a)
takes c r n e a asks no_zero no_fork = record {
  want = asks.want;
  wants = asks.wants;
  kind = kind c (reverse r.events) n a asks.want e asks.event no_zero asks.answer;
  no_fork = λ k is. (let event : Event.Fork k ≡ e = other k is in let clash : Some k ≡ None = ap fork_in event ∙ no_fork in cc);
}
  where
    other : (k : ℕ) → asks.want ≡ Want.Fork k → Event.Fork k ≡ e
    other k is = (let both : Some (Event.Fork k) ≡ Some e = ap (event_of c) (sym is) ∙ asks.event in cc)

-- The list of events.

back : (first h : List Stamp) → reverse (reverse first ++ reverse h) ≡ h ++ first
back first h = reverse-append (reverse first) (reverse h) ∙ ap (λ x. x ++ reverse (reverse first)) (reverse-reverse h) ∙ ap (λ x. h ++ x) (reverse-reverse first)

more_events : (first h : List Stamp) (s : Stamp) (events : List Stamp) → events ≡ reverse first ++ reverse h → events ++ s ∷ [] ≡ reverse first ++ reverse (s ∷ h)
more_events first h s events is =
    ap (λ x. x ++ s ∷ []) is ∙ append_assoc (reverse first) (reverse h) (s ∷ []) ∙ ap (λ x. reverse first ++ x) (sym (reverse-append (s ∷ []) h))
  where
    append_assoc : (xs ys zs : List Stamp) → (xs ++ ys) ++ zs ≡ xs ++ (ys ++ zs)
    append_assoc [] ys zs = refl
    append_assoc (x ∷ xs) ys zs = ap (λ l. x ∷ l) (append_assoc xs ys zs)

pub more_names : (h : List Entry) (e : Entry) → names_in (e ∷ h) ≡ names_in h ++ e.stamp.name.0 ∷ []
more_names h e = ap names_of (reverse-append (e.stamp ∷ []) (stamps_of h)) ∙ names_append (reverse (stamps_of h)) (e.stamp ∷ [])
  where
    names_append : (xs ys : List Stamp) → names_of (xs ++ ys) ≡ names_of xs ++ names_of ys
    names_append [] ys = refl
    names_append (x ∷ xs) ys = ap (λ l. x.name.0 ∷ l) (names_append xs ys)

pub all_more : (h : List Entry) (e : Entry) → is_zero e.stamp.event ≡ false → NoZeros h → NoZeros (e ∷ h)
all_more h e one all i d within = by i within
  where
    by : (i : ℕ) → i < length (e ∷ h) → is_zero (get_or (e ∷ h) i d).stamp.event ≡ false
    by zero less = one
    by (suc j) less = all j d (omega (arith, less))

going_on : (c : Code) (input : List ℤ) (h : List Entry) (f : ObjLives) (d : Option Value) (names : List ℕ) (s : State) → Stands c input h f d names s → s ≡ State.Going → (names ≡ names_in h) × NoZeros h
going_on c input h f d names s (going is all) same = (is, all)
going_on c input h f d names s (trapped is all last value) same = cc
going_on c input h f d names s (wrong n e is all next answer) same = cc

untrapped : (h : List Entry) → NoZeros h → HasTrapped h → ⊥
untrapped [] all over = over
untrapped (e ∷ h) all over = (let clash : true ≡ false = sym over ∙ all 0 e (omega arith) in cc)

pub not_over : (h : List Entry) (d : Option Value) → d ≡ None → NoZeros h → IsOver h d → ⊥
not_over h d none all (inl returned) = (let clash : Some returned.0 ≡ None = sym returned.1 ∙ none in cc)
not_over h d none all (inr over) = untrapped h all over

-- An invalid event.

pub goes_wrong : (c : Code) (input : List ℤ) (names : List ℕ) (n : ℕ) (w : Want Value) (e : Event) (r : Run) → r.state ≡ State.Going → r.tree.done ≡ None
    → next_in object_meaning c (life_in r.tree) n ≡ Some w → event_of c w ≡ Some e → answer_of (reverse r.events) n e ≡ None → IsSoFar c input names r
    → IsSoFar c input (names ++ n ∷ []) (record r { state = State.Wrong })
goes_wrong c input names n w e r state value wants event answer so =
    let now = going_on c input so.entries (life_in r.tree) r.tree.done names r.state so.stands state in
    record {
      entries = so.entries;
      tree = so.tree;
      events = so.events;
      opened = so.opened;
      stands = wrong n e (ap (λ x. x ++ n ∷ []) now.0) now.1 (record { want = w; wants = wants; event = event; going = not_over so.entries r.tree.done value now.1 })
          (ap (λ h. answer_of h n e) (sym (ap reverse so.events ∙ back (opening c input) (stamps_of so.entries))) ∙ answer);
    }

-- An event with its answer.

pub goes_on : (c : Code) (input : List ℤ) (names : List ℕ) (n : ℕ) (e : Event) (a : SrcAnswer) (old new : Run) → GoodForm c → IsTree object_meaning c (life_in old.tree) → IsTree object_meaning c (life_in new.tree)
    → Asks c old n e a → Answers c old n e a new → IsSoFar c input names old
    → IsSoFar c input (names ++ n ∷ []) (record new { events = new.events ++ (record { name = record { 0 = n }; event = e; answer = a }) ∷ [] })
goes_on c input names n e a old new good tree after asks answers so = by (is_zero e) refl (fork_in e) refl answers
  where
    first : List Stamp
    first = opening c input

    h : List Stamp
    h = stamps_of so.entries

    f : ObjLives
    f = life_in old.tree

    r : Runner c f n asks.want
    r = runner c f n asks.want asks.wants

    entry : Entry
    entry = record { stamp = record { name = record { 0 = n }; event = e; answer = a }; number = number_of asks.want }

    now : (names ≡ names_in so.entries) × NoZeros so.entries
    now = going_on c input so.entries f old.tree.done names old.state so.stands asks.going

    names_now : names ++ n ∷ [] ≡ names_in (entry ∷ so.entries)
    names_now = ap (λ x. x ++ n ∷ []) now.0 ∙ sym (more_names so.entries entry)

    answer : answer_of (h ++ first) n e ≡ Some a
    answer = ap (λ x. answer_of x n e) (sym (ap reverse so.events ∙ back first h)) ∙ asks.answer

    asked : (l : ObjLife) → f n ≡ Some l → IsAsked c first h n l entry
    asked l lives = (let both : Some r.life ≡ Some l = sym r.lives ∙ lives in let same : r.life ≡ l = cc in
        record { name = refl; want = asks.want; wants = ap (want_of object_meaning c) (sym same) ∙ r.wants; event = asks.event; number = refl; answer = answer })

    awake : (l : ObjLife) → f n ≡ Some l → is_waiting l.stage ≡ false
    awake l lives = (let both : Some r.life ≡ Some l = sym r.lives ∙ lives in let same : r.life ≡ l = cc in ap (λ (x : ObjLife). is_waiting x.stage) (sym same) ∙ r.awake)

    wanted : (l : ObjLife) → f n ≡ Some l → want_of object_meaning c l ≡ Some asks.want
    wanted l lives = (let both : Some r.life ≡ Some l = sym r.lives ∙ lives in let same : r.life ≡ l = cc in ap (want_of object_meaning c) (sym same) ∙ r.wants)

    Goal : Run → Type 0
    Goal new = IsSoFar c input (names ++ n ∷ []) (record new { events = new.events ++ entry.stamp ∷ [] })

    -- with the threads that follow
    with_tree : (t : Threads Value ObjStack) → is_zero e ≡ false → IsObjTree c input (entry ∷ so.entries) (life_in t) t.done → Goal (record old { tree = t })
    with_tree t no_zero chain = record {
      entries = entry ∷ so.entries;
      tree = chain;
      events = more_events first h entry.stamp old.events so.events;
      opened = so.opened;
      stands = subst (λ s. Stands c input (entry ∷ so.entries) (life_in t) t.done (names ++ n ∷ []) s) (sym asks.going) (going names_now (all_more so.entries entry no_zero now.1));
    }

    by_fork : (k : ℕ) → is_zero e ≡ false → e ≡ Event.Fork k → ForksShared c old.tree n k new.tree → IsObjTree c input (entry ∷ so.entries) (life_in new.tree) new.tree.done
    by_fork k no_zero event shared = by_depth (nat_le 14 (depth_of n)) refl (shared r.life r.lives)
      where
        want : asks.want ≡ Want.Fork k
        want = fork_wanted c asks.want k (asks.event ∙ ap Some event)

        stacks : List ObjStack
        stacks = replicate k r.life.top.stack

        count : length stacks ≡ k
        count = length_replicate k
          where
            length_replicate : (k : ℕ) → length (replicate k r.life.top.stack) ≡ k
            length_replicate zero = refl
            length_replicate (suc k) = ap suc (length_replicate k)

        shares : (l : ObjLife) → f n ≡ Some l → All (λ s. s ≡ l.top.stack) stacks
        shares l lives = (let both : Some r.life ≡ Some l = sym r.lives ∙ lives in let same : r.life ≡ l = cc in
            subst (λ (x : ObjLife). All (λ s. s ≡ x.top.stack) stacks) same (all_same k))
          where
            all_same : (k : ℕ) → All (λ s. s ≡ r.life.top.stack) (replicate k r.life.top.stack)
            all_same zero i d within = absurd (omega (arith, within))
            all_same (suc k) zero d within = refl
            all_same (suc k) (suc i) d within = all_same k i d (omega (arith, within))

        unit : SrcAnswer.Unit ≡ a
        unit = unit_forked (h ++ first) n k a (ap (λ x. answer_of (h ++ first) n x) (sym event) ∙ answer)

        by_depth : (b : Bool) → nat_le 14 (depth_of n) ≡ b → ForksBy object_meaning c f old.tree.done n stacks (life_in new.tree) new.tree.done b
            → IsObjTree c input (entry ∷ so.entries) (life_in new.tree) new.tree.done
        by_depth true deep stuck =
            sticks so.entries entry n f (life_in new.tree) old.tree.done new.tree.done so.tree after stuck (awake stuck.life stuck.lived)
            (asked stuck.life stuck.lived, ap (is_too_deep n) event ∙ deep)
        by_depth false shallow forked =
            let l = forked.life in
            let wants : want_of object_meaning c l ≡ Some (Want.Fork k) = wanted l forked.lived ∙ ap Some want in
            let fork = at_fork_is object_meaning c l k wants in
            let few = few_branches object_meaning c l k good wants in
            forks so.entries entry n stacks f (life_in new.tree) old.tree.done new.tree.done so.tree after forked (awake l forked.lived)
            (record { asked = asked l forked.lived; replies = ap reply_of (sym unit); no_zero = no_zero; shallow = ap (is_too_deep n) event ∙ shallow })
            (shares l forked.lived) (no_zero_name l forked.lived) fork.join fork.entries fork.is (fork.count ∙ sym count) (omega (arith, count, few))
          where
            no_zero_name : (l : ObjLife) → f n ≡ Some l → 1 ≤ n
            no_zero_name l lives = Forking.no_zero object_meaning c f n l tree.threads lives

    by_feed : is_zero e ≡ false → fork_in e ≡ None → IsFed object_meaning c f old.tree.done n (reply_of a) (life_in new.tree) new.tree.done → IsObjTree c input (entry ∷ so.entries) (life_in new.tree) new.tree.done
    by_feed no_zero no_fork fed =
        let l = fed.life in
        feeds so.entries entry n (reply_of a) f (life_in new.tree) old.tree.done new.tree.done so.tree after fed (awake l fed.lived)
        (answered_awake object_meaning c l (reply_of a) (λ k wants. none_such k l (wanted l fed.lived) wants) (awake l fed.lived))
        (record { asked = asked l fed.lived; replies = refl; no_zero = no_zero; shallow = shallow_none n e no_fork })
      where
        none_such : (k : ℕ) (l : ObjLife) → want_of object_meaning c l ≡ Some asks.want → want_of object_meaning c l ≡ Some (Want.Fork k) → ⊥
        none_such k l one other = (takes c old n e a asks no_zero no_fork).no_fork k (let both : Some asks.want ≡ Some (Want.Fork k) = sym one ∙ other in cc)

    by : (b : Bool) → is_zero e ≡ b → (o : Option ℕ) → fork_in e ≡ o → AnswersBy c old n a new b o → Goal new
    by true stops o fork is = subst Goal (sym is) (record {
      entries = entry ∷ so.entries;
      tree = halts so.entries entry n r.life f old.tree.done so.tree r.lives r.awake (asked r.life r.lives, stops);
      events = more_events first h entry.stamp old.events so.events;
      opened = so.opened;
      stands = trapped names_now now.1 stops asks.lives;
    })
    by false goes (Some k) fork shared = subst Goal (sym shared.1) (with_tree new.tree goes (by_fork k goes (fork_named e k fork) shared.0))
    by false goes None fork fed = subst Goal (sym fed.1) (with_tree new.tree goes (by_feed goes fork fed.0))
