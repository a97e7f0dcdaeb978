-- Each history goes on, and along each list of names there is a run or a refusal.
use Rattle.std.proofs.Common.{◌≡◌, ℕ, zero, suc, ◌⊎◌, ℤ, List, [], ◌∷◌, ◌++◌, length, reverse, replicate, Bool, true, false, refl, Option, Some, None, arith, sym, ◌∙◌, ap, subst, inl, inr}
use Rattle.std.specs.Prelude.{nat_le}
use Rattle.std.specs.List.{All}
use Rattle.obj_mem.specs.declared.value.Value.{Value}
use Rattle.obj_mem.specs.declared.event.Event.{Event}
use Rattle.obj_mem.specs.declared.event.SrcAnswer.{SrcAnswer}
use Rattle.obj_mem.specs.declared.run.SrcRun.{SrcRun}
use Rattle.obj_mem.specs.declared.run.SrcEnd.{SrcEnd}
use Rattle.obj_mem.specs.Valid.{answer_of}
use Rattle.tac_ir.specs.declared.code.Code.{Code}
use Rattle.tac_ir.specs.GoodForm.{GoodForm}
use Rattle.tac_ir.specs.Answers.{depth_of}
use Rattle.tac_thread.specs.declared.want.Want.{Want}
use Rattle.tac_thread.specs.Doing.{want_of}
use Rattle.tac_thread.specs.Threads.{running, want_of_life, next_in, is_waiting, IsTree, IsStuck, at_fork, changed, Takes, TakesStacks}
use Rattle.tac_thread.proofs.Trees.{running_is}
use Rattle.tac_thread.proofs.Forking.{few_branches, no_zero, stuck_tree}
use Rattle.tree_law.specs.Chain.IsTreeAfter.{begins, feeds, forks, halts, sticks}
use Rattle.tree_law.proofs.trees.Along.{tree_of}
use Rattle.tree_law.proofs.trees.Going.{feeds_to, forks_to, begins_as}
use Rattle.tree_law.proofs.trees.Waking.{answered_awake, at_fork_is}
use Rattle.obj_run.specs.declared.threads.State.{State}
use Rattle.obj_run.specs.declared.values.ObjStack.{ObjStack}
use Rattle.obj_run.specs.Objects.{object_meaning, main_stack}
use Rattle.obj_run.specs.Asked.{event_of, reply_of}
use Rattle.obj_run.specs.Entries.{Entry, stamps_of}
use Rattle.obj_run.specs.Starts.{opening}
use Rattle.obj_run.specs.Runs.{ObjLife, ObjLives, IsAsked, IsObjTree, object_says, IsNext, IsRunnable, is_zero, is_too_deep, outputs_of, IsRunAlong, IsRefusedAt}
use Rattle.obj_run.specs.tools.SoFar.{Stands, NoZeros, names_in, fork_in, end_at}
use Rattle.obj_run.specs.tools.SoFar.Stands.{going, trapped, wrong}
use Rattle.obj_run.proofs.Going.{kind, fork_wanted, fork_named, unit_forked, shallow_none, more_names, all_more, not_over}
use Rattle.obj_run.proofs.Finishing.{ended}
use Rattle.obj_law.specs.Going.{entry_by, IsHistoryOf}

pub starts : (c : Code) (input : List ℤ) → GoodForm c → IsHistoryOf c input []
starts c input good = (let b = begins_as object_meaning c good main_stack refl in (b.lives, (b.value, begins b.lives b.value b.tree b.begun)))

pub goes_on : (c : Code) (input : List ℤ) → GoodForm c → (h : List Entry) (f : ObjLives) (d : Option Value) → IsObjTree c input h f d → (n : ℕ) (w : Want Value) (e : Event) (a : SrcAnswer) → next_in object_meaning c f n ≡ Some w
    → event_of c w ≡ Some e → answer_of (stamps_of h ++ opening c input) n e ≡ Some a → IsHistoryOf c input (entry_by n w e a ∷ h)
goes_on c input good h f d chain n w e a wants event answer = with_life (running (f n)) refl wants
  where
    entry : Entry
    entry = entry_by n w e a

    tree : IsTree object_meaning c f
    tree = tree_of object_meaning c main_stack (object_says c (opening c input)) h f d chain

    with_life : (o : Option ObjLife) → running (f n) ≡ o → want_of_life object_meaning c o ≡ Some w → IsHistoryOf c input (entry ∷ h)
    with_life None runs want = cc
    with_life (Some l) runs want = by (is_zero e) refl (fork_in e) refl
      where
        lives : f n ≡ Some l
        lives = (running_is (f n) l runs).0

        awake : is_waiting l.stage ≡ false
        awake = (running_is (f n) l runs).1

        asked : (k : ObjLife) → f n ≡ Some k → IsAsked c (opening c input) (stamps_of h) n k entry
        asked k there = (let both : Some l ≡ Some k = sym lives ∙ there in let same : l ≡ k = cc in
            record { name = refl; want = w; wants = ap (want_of object_meaning c) (sym same) ∙ want; event = event; number = refl; answer = answer })

        same_life : (k : ObjLife) → f n ≡ Some k → l ≡ k
        same_life k there = (let both : Some l ≡ Some k = sym lives ∙ there in cc)

        awake_of : (k : ObjLife) → f n ≡ Some k → is_waiting k.stage ≡ false
        awake_of k there = ap (λ (x : ObjLife). is_waiting x.stage) (sym (same_life k there)) ∙ awake

        fed : is_zero e ≡ false → fork_in e ≡ None → IsHistoryOf c input (entry ∷ h)
        fed zero_no fork_no =
            let other : (k : ℕ) → w ≡ Want.Fork k → ⊥ = λ k is.
            (let events : Some (Event.Fork k) ≡ Some e = ap (event_of c) (sym is) ∙ event in let one : Event.Fork k ≡ e = cc in let clash : Some k ≡ None = ap fork_in one ∙ fork_no in cc) in
            let takes : Takes object_meaning c f n (reply_of a) =
            record { want = w; wants = wants; kind = kind c (stamps_of h ++ opening c input) n a w e event zero_no answer; no_fork = λ k is. other k is } in
            let on = feeds_to object_meaning c good f d n (reply_of a) tree takes in
            let k = on.fed.life in (
              on.lives,
              (
                on.value,
                feeds h entry n (reply_of a) f on.lives d on.value chain on.tree on.fed (awake_of k on.fed.lived)
                    (answered_awake object_meaning c k (reply_of a)
                    (λ j z. other j (let both : Some w ≡ Some (Want.Fork j) = sym want ∙ ap (want_of object_meaning c) (same_life k on.fed.lived) ∙ z in cc)) (awake_of k on.fed.lived))
                    (record { asked = asked k on.fed.lived; replies = refl; no_zero = zero_no; shallow = shallow_none n e fork_no }),
              ),
            )

        forked : (k : ℕ) → is_zero e ≡ false → e ≡ Event.Fork k → IsHistoryOf c input (entry ∷ h)
        forked k zero_no is = by_depth (nat_le 14 (depth_of n)) refl
          where
            fork : w ≡ Want.Fork k
            fork = fork_wanted c w k (event ∙ ap Some is)

            stacks : List ObjStack
            stacks = replicate k l.top.stack

            count_of : (j : ℕ) → length (replicate j l.top.stack) ≡ j
            count_of zero = refl
            count_of (suc j) = ap suc (count_of j)

            all_same : (j : ℕ) → All (λ s. s ≡ l.top.stack) (replicate j l.top.stack)
            all_same zero i x within = absurd (omega (arith, within))
            all_same (suc j) zero x within = refl
            all_same (suc j) (suc i) x within = all_same j i x (omega (arith, within))

            takes : TakesStacks object_meaning c f n stacks
            takes = record { wants = wants ∙ ap Some fork ∙ ap (λ j. Some (Want.Fork j)) (sym (count_of k)); framed = λ x i s there listed. refl }

            unit : SrcAnswer.Unit ≡ a
            unit = unit_forked (stamps_of h ++ opening c input) n k a (ap (λ x. answer_of (stamps_of h ++ opening c input) n x) (sym is) ∙ answer)

            by_depth : (b : Bool) → nat_le 14 (depth_of n) ≡ b → IsHistoryOf c input (entry ∷ h)
            by_depth true deep =
                let g = changed f n (Some (at_fork l)) in
                let stuck : IsStuck f d n g d = record { life = l; lived = lives; changes = λ j. refl; done = refl } in
                let after = stuck_tree object_meaning c f g d d n stacks tree takes stuck in
                (g, (d, sticks h entry n f g d d chain after stuck awake (asked l lives, ap (is_too_deep n) is ∙ deep)))
            by_depth false shallow =
                let on = forks_to object_meaning c good f d n stacks tree takes in
                let x = on.forked.life in
                let same = same_life x on.forked.lived in
                let wanted : want_of object_meaning c x ≡ Some (Want.Fork k) = ap (want_of object_meaning c) (sym same) ∙ want ∙ ap Some fork in
                let at = at_fork_is object_meaning c x k wanted in
                let few = few_branches object_meaning c x k good wanted in
                let count = count_of k in (
                  on.lives,
                  (
                    on.value,
                    forks h entry n stacks f on.lives d on.value chain on.tree on.forked (awake_of x on.forked.lived)
                        (record { asked = asked x on.forked.lived; replies = ap reply_of (sym unit); no_zero = zero_no; shallow = ap (is_too_deep n) is ∙ shallow })
                        (subst (λ (z : ObjLife). All (λ s. s ≡ z.top.stack) stacks) same (all_same k)) (no_zero object_meaning c f n x tree.threads on.forked.lived) at.join at.entries at.is (at.count ∙ sym count) (omega (arith, count, few)),
                  ),
                )

        by : (b : Bool) → is_zero e ≡ b → (o : Option ℕ) → fork_in e ≡ o → IsHistoryOf c input (entry ∷ h)
        by true stops o fork = (f, (d, halts h entry n l f d chain lives awake (asked l lives, stops)))
        by false goes (Some k) fork = forked k goes (fork_named e k fork)
        by false goes None fork = fed goes fork

-- Along names.

module _ (c : Code) (input : List ℤ) (good : GoodForm c) (names : List ℕ) where
  abbrev Answer : Type 0
  Answer = ((r : SrcRun) × IsRunAlong c input names r) ⊎ ((k : ℕ) × IsRefusedAt c input names k)

  run_of : List Entry → State → Option Value → SrcRun
  run_of h s d = record { events = reverse (stamps_of h); outputs = outputs_of (reverse (stamps_of h)); «end» = end_at s d }

  abbrev IsSo : List ℕ → List Entry → ObjLives → Option Value → State → Type 0
  IsSo before h f d s = IsObjTree c input h f d × Stands c input h f d before s

  runs : (before : List ℕ) (h : List Entry) (f : ObjLives) (d : Option Value) (s : State) → IsSo before h f d s → IsRunAlong c input before (run_of h s d)
  unfolding run_of
  runs before h f d s so =
      let e = ended c input h f d before s so.1 in
      record { entries = h; history = record { lives = f; value = d; tree = so.0; no_zero = e.no_zero }; events = refl; more = e.more; along = e.along; ends = e.ends; outputs = refl }

  refuses : (before rest : List ℕ) (n : ℕ) (h : List Entry) (f : ObjLives) (d : Option Value) (s : State) → IsSo before h f d s → names ≡ before ++ n ∷ rest
      → (end_at s d ≡ SrcEnd.Cut → (e : Event) → IsNext c h f d n e → ⊥) → Answer
  unfolding run_of runs
  refuses before rest n h f d s so split never = by (end_at s d) refl
    where
      at : ((end_at s d ≡ SrcEnd.Cut → ⊥) ⊎ (IsRunnable c h f d n → ⊥)) → Answer
      at why = inr (suc (length before), record { before = before; name = n; rest = rest; split = split; place = refl; run = run_of h s d; runs = runs before h f d s so; refused = why })

      by : (end : SrcEnd) → end_at s d ≡ end → Answer
      by SrcEnd.Cut is = at (inr (λ x. never is x.0 x.1))
      by (SrcEnd.Done k) is = at (inl (λ z. (let clash : SrcEnd.Done k ≡ SrcEnd.Cut = sym is ∙ z in cc)))
      by SrcEnd.Trap is = at (inl (λ z. (let clash : SrcEnd.Trap ≡ SrcEnd.Cut = sym is ∙ z in cc)))
      by SrcEnd.Invalid is = at (inl (λ z. (let clash : SrcEnd.Invalid ≡ SrcEnd.Cut = sym is ∙ z in cc)))

  -- what a name makes of a run
  data Next (before : List ℕ) (n : ℕ) (h : List Entry) (f : ObjLives) (d : Option Value) : Type 0 where
    to : (k : List Entry) (g : ObjLives) (b : Option Value) (s : State) → IsSo (before ++ n ∷ []) k g b s → Next before n h f d
    nobody : ((e : Event) → IsNext c h f d n e → ⊥) → Next before n h f d

  next : (before : List ℕ) (n : ℕ) (h : List Entry) (f : ObjLives) (d : Option Value) → IsSo before h f d State.Going → Next before n h f d
  next before n h f d so = by_value d so
    where
      facts : (d : Option Value) → Stands c input h f d before State.Going → (before ≡ names_in h) × NoZeros h
      facts d (going is all) = (is, all)

      by_value : (d : Option Value) → IsSo before h f d State.Going → Next before n h f d
      by_value (Some v) so = nobody (λ e x. x.going (inl (v, refl)))
      by_value None so = by_want (next_in object_meaning c f n) refl
        where
          by_answer : (w : Want Value) → next_in object_meaning c f n ≡ Some w → (e : Event) → event_of c w ≡ Some e → (o : Option SrcAnswer) → answer_of (stamps_of h ++ opening c input) n e ≡ o → Next before n h f None
          by_answer w wants e event None answer =
              let x = facts None so.1 in
              to h f None State.Wrong (so.0, wrong n e (ap (λ z. z ++ n ∷ []) x.0) x.1 (record { want = w; wants = wants; event = event; going = not_over h None refl x.1 }) answer)
          by_answer w wants e event (Some a) answer =
              let x = facts None so.1 in
              let on = goes_on c input good h f None so.0 n w e a wants event answer in
              let names_now : before ++ n ∷ [] ≡ names_in (entry_by n w e a ∷ h) = ap (λ z. z ++ n ∷ []) x.0 ∙ sym (more_names h (entry_by n w e a)) in
              by_zero (is_zero e) refl on names_now x.1
            where
              by_zero : (b : Bool) → is_zero e ≡ b → IsHistoryOf c input (entry_by n w e a ∷ h) → before ++ n ∷ [] ≡ names_in (entry_by n w e a ∷ h) → NoZeros h → Next before n h f None
              by_zero false goes on names_now all = to (entry_by n w e a ∷ h) on.0 on.1.0 State.Going (on.1.1, going names_now (all_more h (entry_by n w e a) goes all))
              by_zero true stops on names_now all =
                  with_life (running (f n)) refl wants
                where
                  with_life : (o : Option ObjLife) → running (f n) ≡ o → want_of_life object_meaning c o ≡ Some w → Next before n h f None
                  with_life None runs want = cc
                  with_life (Some l) runs want =
                      let r = running_is (f n) l runs in
                      to (entry_by n w e a ∷ h) f None State.Trapped
                      (halts h (entry_by n w e a) n l f None so.0 r.0 r.1 (record { name = refl; want = w; wants = want; event = event; number = refl; answer = answer }, stops), trapped names_now all stops refl)

          by_event : (w : Want Value) → next_in object_meaning c f n ≡ Some w → (o : Option Event) → event_of c w ≡ o → Next before n h f None
          by_event w wants None event = nobody (λ e x. (let both : Some x.want ≡ Some w = sym x.wants ∙ wants in let same : x.want ≡ w = cc in let clash : Some e ≡ None = sym x.event ∙ ap (event_of c) same ∙ event in cc))
          by_event w wants (Some e) event = by_answer w wants e event (answer_of (stamps_of h ++ opening c input) n e) refl

          by_want : (o : Option (Want Value)) → next_in object_meaning c f n ≡ o → Next before n h f None
          by_want None none = nobody (λ e x. (let clash : Some x.want ≡ None = sym x.wants ∙ none in cc))
          by_want (Some w) wants = by_event w wants (event_of c w) refl

  append_assoc : (xs ys zs : List ℕ) → (xs ++ ys) ++ zs ≡ xs ++ (ys ++ zs)
  append_assoc [] ys zs = refl
  append_assoc (x ∷ xs) ys zs = ap (λ l. x ∷ l) (append_assoc xs ys zs)

  none_behind : (xs : List ℕ) → xs ++ [] ≡ xs
  none_behind [] = refl
  none_behind (x ∷ xs) = ap (λ l. x ∷ l) (none_behind xs)

  -- the rest of the names
  onward : (rest before : List ℕ) (h : List Entry) (f : ObjLives) (d : Option Value) (s : State) → IsSo before h f d s → names ≡ before ++ rest → Answer
  onward [] before h f d s so split = inl (run_of h s d, subst (λ ns. IsRunAlong c input ns (run_of h s d)) (sym (split ∙ none_behind before)) (runs before h f d s so))
  onward (n ∷ rest) before h f d State.Trapped so split = refuses before rest n h f d State.Trapped so split (λ is. (let clash : SrcEnd.Trap ≡ SrcEnd.Cut = is in cc))
  onward (n ∷ rest) before h f d State.Wrong so split = refuses before rest n h f d State.Wrong so split (λ is. (let clash : SrcEnd.Invalid ≡ SrcEnd.Cut = is in cc))
  onward (n ∷ rest) before h f d State.Going so split = by (next before n h f d so) (λ k g b s x. onward rest (before ++ n ∷ []) k g b s x (split ∙ sym (append_assoc before (n ∷ []) rest)))
    where
      by : Next before n h f d → ((k : List Entry) (g : ObjLives) (b : Option Value) (s : State) → IsSo (before ++ n ∷ []) k g b s → Answer) → Answer
      by (to k g b s x) more = more k g b s x
      by (nobody never) more = refuses before rest n h f d State.Going so split (λ is e x. never e x)

  pub total : Answer
  total = (let b = starts c input good in onward names [] [] b.0 b.1.0 State.Going (b.1.1, going refl (λ i x within. absurd (omega (arith, within)))) refl)
