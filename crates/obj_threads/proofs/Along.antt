-- Along the chain of trees the lives are the threads of the history.
use Rattle.std.proofs.Common.{◌≡◌, ℕ, ◌+◌, ◌-◌, ◌*◌, ◌≤◌, ℤ, List, [], ◌∷◌, length, Bool, true, false, refl, Option, Some, None, arith, sym, ◌∙◌, ap, subst}
use Rattle.std.specs.List.{All}
use Rattle.dfi_base.specs.Lives.{own}
use Rattle.dfi_base.specs.Grown.{IsGrown}
use Rattle.obj_mem.specs.declared.value.Value.{Value}
use Rattle.obj_mem.specs.declared.event.Event.{Event}
use Rattle.tac_ir.specs.declared.code.Code.{Code}
use Rattle.tac_ir.specs.declared.code.Instr.{Instr}
use Rattle.tac_ir.specs.Layout.{lines_of}
use Rattle.tac_ir.specs.GoodForm.{GoodForm, ForksWell}
use Rattle.tac_thread.specs.declared.want.ReplyOf.{ReplyOf}
use Rattle.tac_thread.specs.Life.{instr_of}
use Rattle.tac_thread.specs.Answered.{answered}
use Rattle.tac_thread.specs.Begun.{branch_of}
use Rattle.tac_thread.specs.RunsOn.{RunsOn}
use Rattle.tac_thread.specs.Threads.{running, want_of_life, next_in, is_waiting, planted, IsTree, IsForked, at_fork}
use Rattle.tac_thread.proofs.Trees.{changed_here, changed_other, running_is}
use Rattle.tree_law.specs.Chain.IsTreeAfter.{begins, feeds, forks, halts, sticks}
use Rattle.tree_law.proofs.lives.Lines.{there, good_code}
use Rattle.tree_law.proofs.trees.Along.{tree_of, no_branches}
use Rattle.tree_law.proofs.trees.Changed.{some_at}
use Rattle.tree_law.proofs.trees.Waking.{runs_awake}
use Rattle.obj_run.specs.declared.values.ObjStack.{ObjStack}
use Rattle.obj_run.specs.Objects.{object_meaning, main_stack}
use Rattle.obj_run.specs.Asked.{event_of, number_of}
use Rattle.obj_run.specs.Entries.{Entry, stamps_of}
use Rattle.obj_run.specs.Starts.{opening}
use Rattle.obj_run.specs.tools.SoFar.{fork_in}
use Rattle.obj_run.specs.Runs.{ObjLife, ObjLives, IsTold, IsObjTree, object_says, is_too_deep}
use Rattle.obj_run.proofs.Going.{not_fork}
use Rattle.obj_law.proofs.One.{step, moved_on, forks_by}
use Rattle.obj_law.specs.Going.{entry_by}
use Rattle.obj_law.proofs.Fresh.{awake_asked}
use Rattle.obj_law.proofs.Sharing.{member_of}
use Rattle.obj_law.proofs.GoingOn.{starts, goes_on}
use Rattle.obj_threads.specs.Threads.{LeadsTo, obj_threads}
use Rattle.obj_threads.specs.InPlace.{IsAt, AreSettled}
use Rattle.obj_threads.specs.Laws.{IsGrownFrom, AreItsThreads}
use Rattle.obj_threads.proofs.Standing.{starts_all, comes_to}
use Rattle.obj_threads.proofs.Planted.{kept, planted_other, planted_branch}
use Rattle.obj_threads.proofs.Placed.{AreLiving, runs_next, alive_not_ended, only_running, want_one}
use Rattle.obj_threads.proofs.Grown.{tree_begins, fed_place, stuck_place, halted_place}
use Rattle.obj_threads.proofs.Forked.{HasForked, IsSprout, resumed}

module _ (c : Code) (input : List ℤ) (good : GoodForm c) where
  tree_in : (h : List Entry) (f : ObjLives) (d : Option Value) → IsObjTree c input h f d → IsTree object_meaning c f
  tree_in h f d chain = tree_of object_meaning c main_stack (object_says c (opening c input)) h f d chain

  -- a fork has a branch
  some_branch : (l : ObjLife) (join : ℕ) (entries : List ℕ) → instr_of c l.top ≡ Instr.Fork join entries → 1 ≤ length entries
  some_branch l join entries is =
      let code = lines_of c l.top.fun in
      let t = there code l.top.at (Instr.Fork join entries) is (λ z. cc) in
      let fork = subst (ForksWell code l.top.at) t.is ((good_code c good l.top.fun l.top.at t.line t.found).instrs l.top.at t.line t.found).fork in
      let some = fork.some in
      omega (arith, some)

  module _ (h : List Entry) (e : Entry) (n : ℕ) (stacks : List ObjStack) (f g : ObjLives) (d b : Option Value) (chain : IsObjTree c input h f d) (forked : IsForked object_meaning c f d n stacks g b)
      (awake : is_waiting forked.life.stage ≡ false) (told : IsTold c (opening c input) (stamps_of h) n forked.life e ReplyOf.Unit) (shares : All (λ s. s ≡ forked.life.top.stack) stacks)
      (join : ℕ) (entries : List ℕ) (is : instr_of c forked.life.top ≡ Instr.Fork join entries) (count : length entries ≡ length stacks) (few : length stacks ≤ 15) (alive : AreLiving c h f) where
    life : ObjLife
    life = forked.life

    free : (i : ℕ) → 1 ≤ i → i ≤ 15 → f (16 * n + i) ≡ None
    free i low high = by (f (16 * n + i)) refl
      where
        by : (o : Option ObjLife) → f (16 * n + i) ≡ o → f (16 * n + i) ≡ None
        by None z = z
        by (Some w) z = absurd (no_branches f alive.tree.threads.parents n forked.life forked.lived awake (i, low, high, (w, z)))

    event : e.stamp.event ≡ Event.Fork (length entries)
    event = forks_by c input good h f d n forked.life e chain forked.lived awake told.asked join entries is

    shallow : is_too_deep e.stamp.name.0 e.stamp.event ≡ false
    shallow = ap (λ k. is_too_deep k e.stamp.event) told.asked.name ∙ told.shallow

    fork : fork_in e.stamp.event ≡ Some (length entries)
    fork = ap fork_in event

    leads : LeadsTo c (alive.place.threads.lives n forked.life forked.lived).start (own (obj_threads c) n h) forked.life
    leads = (let p = alive.place.threads.lives n forked.life forked.lived in comes_to c p.start (own (obj_threads c) n h) forked.life p.stands awake)

    sprout : (j : ℕ) → 1 ≤ j → j ≤ length stacks → IsSprout c h (alive.place.threads.lives n forked.life forked.lived).start n j forked.lives
    sprout j low high =
        let i = j - 1 in
        let one : i + 1 ≡ j = omega (arith, low) in
        let same_count = forked.begin.count in
        let s = some_at stacks i (omega (arith, low, high)) in
        let q = some_at forked.branches i (omega (arith, low, high, same_count)) in
        let stack = member_of (λ x. x ≡ forked.life.top.stack) stacks shares i s.0 s.1 in
        let runs : RunsOn object_meaning c (branch_of object_meaning c forked.life j forked.life.top.stack) q.0 =
        subst (λ z. RunsOn object_meaning c (branch_of object_meaning c forked.life j z) q.0) stack (subst (λ k. RunsOn object_meaning c (branch_of object_meaning c forked.life k s.0) q.0) one (forked.begin.each i s.0 q.0 s.1 q.1)) in
        let at : 16 * n + (1 + i) ≡ 16 * n + j = omega (arith, low) in
        let there : planted object_meaning c f n 1 forked.branches (16 * n + j) ≡ kept c q.0 None =
        subst (λ k. planted object_meaning c f n 1 forked.branches k ≡ kept c q.0 (f k)) at (planted_branch c forked.branches f n 1 i q.0 q.1) ∙ ap (kept c q.0) (free j low (omega (arith, high, few))) in
        record {
          life = q.0;
          stands = record {
            start = branch_of object_meaning c forked.life j forked.life.top.stack;
            forked = record { life = forked.life; leads = leads; awake = awake; begins = refl };
            stands = IsAt.rests (LeadsTo.begins q.0 runs);
          };
          awake = runs_awake object_meaning c (branch_of object_meaning c forked.life j forked.life.top.stack) q.0 refl runs;
          lives = forked.changes (16 * n + j) ∙ changed_other (planted object_meaning c f n 1 forked.branches) n (Some (at_fork forked.life)) (16 * n + j) (λ z. omega (arith, z, low)) ∙ there;
        }

    forked_place : AreSettled c (e ∷ h) g
    forked_place =
        let p = alive.place.threads.lives n forked.life forked.lived in
        let same_count = forked.begin.count in
        let all : HasForked c h f e n (length stacks) forked.life forked.lives = record {
          name = told.asked.name;
          forks = starts_all e (length entries) fork shallow ∙ count;
          few = few;
          lived = forked.lived;
          awake = awake;
          start = p.start;
          begins = p.begins;
          stands = IsAt.waits e (own (obj_threads c) n h) forked.life (length entries) join entries refl leads awake fork shallow is refl;
          here = forked.changes n ∙ changed_here (planted object_meaning c f n 1 forked.branches) n (Some (at_fork forked.life));
          sprouts = sprout;
          others = λ k other apart. forked.changes k ∙ changed_other (planted object_meaning c f n 1 forked.branches) n (Some (at_fork forked.life)) k other
              ∙ planted_other c forked.branches f n 1 k (λ j low high same. apart j low (omega (arith, high, same_count)) same);
          alone = no_branches f alive.tree.threads.parents n forked.life forked.lived awake;
        } in
        let some = some_branch forked.life join entries is in
        resumed c h f forked.lives g e n (length stacks) forked.life d b alive (omega (arith, some, count)) all forked.resumes

  pub settled_along : (h : List Entry) (f : ObjLives) (d : Option Value) → IsObjTree c input h f d → AreSettled c h f
  settled_along h f d (begins f2 d2 tree b) = tree_begins c f d b
  settled_along h g b (feeds old e n reply f g2 d b2 chain tree fed awake moved told) =
      fed_place c old f e n fed.life (record { place = settled_along old f d chain; tree = tree_in old f d chain }) told.asked.name fed.lived awake g d b reply told.replies fed moved told.no_zero
      (not_fork e.stamp.event (moved_on c input good old f d n fed.life e chain fed.lived awake told.asked (ap (λ r. is_waiting (answered object_meaning c fed.life r).stage) told.replies ∙ moved)))
  settled_along h g b (forks old e n stacks f g2 d b2 chain tree forked awake told shares some join entries is count few) =
      forked_place old e n stacks f g d b chain forked awake told shares join entries is count few (record { place = settled_along old f d chain; tree = tree_in old f d chain })
  settled_along h f d (halts old e n l f2 d2 chain lives awake halted) =
      halted_place c old f e n l (record { place = settled_along old f d chain; tree = tree_in old f d chain }) halted.0.name lives awake halted.1
  settled_along h g b (sticks old e n f g2 d b2 chain tree stuck awake stays) =
      stuck_place c old f e n stuck.life (record { place = settled_along old f d chain; tree = tree_in old f d chain }) stays.0.name stuck.lived awake g d b stuck (ap (λ k. is_too_deep k e.stamp.event) stays.0.name ∙ stays.1)

  alive_along : (h : List Entry) (f : ObjLives) (d : Option Value) → IsObjTree c input h f d → AreLiving c h f
  alive_along h f d chain = record { place = settled_along h f d chain; tree = tree_in h f d chain }

  awake_runs : (f : ObjLives) (n : ℕ) (l : ObjLife) → f n ≡ Some l → is_waiting l.stage ≡ false → running (f n) ≡ Some l
  awake_runs f n l lives awake = ap running lives ∙ ap (λ (b : Bool). elim b as (λ z. Option ObjLife) [ true ↦ None | false ↦ Some l ]) awake

  pub grown : (h : List Entry) (f : ObjLives) (d : Option Value) → IsObjTree c input h f d → IsGrownFrom c input h
  unfolding IsGrown
  grown [] f d chain = tt
  grown (e ∷ h) g b chain =
      let x = step c input good e h g b chain in
      let alive = alive_along h x.f x.d x.chain in
      let awake = awake_asked c (opening c input) (stamps_of h) e.stamp.name.0 x.l e x.asked in
      let r = runs_next c h x.f e.stamp.name.0 x.l alive x.lives awake in
      let both : Some x.asked.want ≡ Some r.want = sym x.asked.wants ∙ r.wants in
      let want : x.asked.want ≡ r.want = cc in (
        record {
          start = r.start;
          want = r.want;
          next = r.next;
          fits = record { event = ap (event_of c) (sym want) ∙ x.asked.event; number = x.asked.number ∙ ap number_of want; answer = x.asked.answer };
        },
        grown h x.f x.d x.chain,
      )

  pub its_threads : (h : List Entry) (f : ObjLives) (d : Option Value) → IsObjTree c input h f d → AreItsThreads c h f
  its_threads h f d chain =
      let alive = alive_along h f d chain in
      record {
        next = λ n l runs. (let r = running_is (f n) l runs in let x = runs_next c h f n l alive r.0 r.1 in (x.want, x.wants, (x.start, x.next)));
        runnable = λ n run. (let x = only_running c h f n alive run in (x.life, awake_runs f n x.life x.lives x.awake));
        gone = alive.place.threads.gone;
        lives = λ n l lives over. alive_not_ended c h f alive n l lives over;
        root = alive.place.threads.root;
      }

  -- and back

  pub has_tree : (h : List Entry) → IsGrownFrom c input h → (f : ObjLives) × ((d : Option Value) × IsObjTree c input h f d)
  unfolding IsGrown
  has_tree [] all = starts c input good
  has_tree (e ∷ h) all =
      let t = has_tree h all.1 in
      let f = t.0 in
      let chain = t.1.1 in
      let n = e.stamp.name.0 in
      let alive = alive_along h f t.1.0 chain in
      let x = only_running c h f n alive (all.0.start, all.0.want, all.0.next) in
      let r = runs_next c h f n x.life alive x.lives x.awake in
      let want : r.want ≡ all.0.want = want_one c h n r.start all.0.start r.want all.0.want r.next all.0.next in
      let wants : next_in object_meaning c f n ≡ Some all.0.want = ap (want_of_life object_meaning c) (awake_runs f n x.life x.lives x.awake) ∙ r.wants ∙ ap Some want in
      let fits = all.0.fits in
      let on = goes_on c input good h f t.1.0 chain n all.0.want e.stamp.event e.stamp.answer wants fits.event fits.answer in
      let same : entry_by n all.0.want e.stamp.event e.stamp.answer ≡ e = λ i. record { stamp = e.stamp; number = sym fits.number i } in
      (on.0, (on.1.0, subst (λ z. IsObjTree c input (z ∷ h) on.0 on.1.0) same on.1.1))
