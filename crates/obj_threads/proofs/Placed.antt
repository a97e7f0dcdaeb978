-- Lives in place are those of the threads that live: which run, and which have ended.
use Rattle.std.proofs.Common.{◌≡◌, ℕ, ◌+◌, ◌*◌, ◌/◌, ◌%◌, ◌≤◌, ◌<◌, ◌⊎◌, inl, inr, List, Bool, true, false, refl, Option, Some, None, arith, sym, ◌∙◌, ap, subst}
use Rattle.dfi_base.specs.Lives
use Rattle.dfi_base.specs.Lives.{BeginsIn, own, Begins, Ended, IsNext}
use Rattle.dfi_base.specs.Lives.EndedIn.{ended}
use Rattle.dfi_base.specs.Alike.{IsDeterministic}
use Rattle.dfi_base.proofs.OneLife
use Rattle.obj_mem.specs.declared.value.Value.{Value}
use Rattle.tac_ir.specs.declared.code.Code.{Code}
use Rattle.tac_thread.specs.declared.want.Want.{Want}
use Rattle.tac_thread.specs.Doing.{want_of}
use Rattle.tac_thread.specs.Answered.{answered, joined}
use Rattle.tac_thread.specs.Begun.{root_of, branch_of}
use Rattle.tac_thread.specs.RunsOn.{RunsOn}
use Rattle.tac_thread.specs.Threads.{is_waiting, at_fork, end_in, ended_of, HasBranch, IsTree}
use Rattle.tac_thread.proofs.Trees.{waits_for}
use Rattle.obj_run.specs.Objects.{object_meaning, main_stack}
use Rattle.obj_run.specs.Asked.{reply_of}
use Rattle.obj_run.specs.Entries.{Entry}
use Rattle.obj_run.specs.tools.SoFar.{fork_in}
use Rattle.obj_run.specs.Runs.{ObjLife, ObjLives, is_zero, is_too_deep}
use Rattle.obj_law.proofs.OneStep.{runs_one}
use Rattle.obj_threads.specs.Threads.{LeadsTo, obj_threads}
use Rattle.obj_threads.specs.Threads.LeadsTo.{begins, told, joins, sticks, traps}
use Rattle.obj_threads.specs.InPlace.{started, BranchesAre, AreThreads, AreSettled, HasStuck}
use Rattle.obj_threads.proofs.Standing.{comes_to, stuck_waits, deep_fork, zero_none}
use Rattle.obj_threads.proofs.Histories.{never_zero}

-- A life comes to one by its own entries.

clash : {A : Type 0} (b : Bool) → b ≡ true → b ≡ false → A
clash b one other = (let no : true ≡ false = sym one ∙ other in cc)

none_clash : {A : Type 0} (o : Option ℕ) (k : ℕ) → o ≡ Some k → o ≡ None → A
none_clash o k some none = (let no : Some k ≡ None = sym some ∙ none in cc)

pub leads_one : (c : Code) (s : ObjLife) (own : List Entry) (k l : ObjLife) → LeadsTo c s own k → LeadsTo c s own l → k ≡ l
leads_one c s own k l (begins k2 on) (begins l2 on2) = runs_one object_meaning c s k l on on2
leads_one c s own k l (told e rest p k2 h up zero_no fork on) (told e2 rest2 q l2 h2 up2 zero_no2 fork2 on2) =
    let same = leads_one c s rest p q h h2 in
    runs_one object_meaning c (answered object_meaning c q (reply_of e.stamp.answer)) k l (subst (λ z. RunsOn object_meaning c (answered object_meaning c z (reply_of e.stamp.answer)) k) same on) on2
leads_one c s own k l (told e rest p k2 h up zero_no fork on) (joins e2 rest2 q l2 branches join entries h2 up2 fork2 shallow instr on2) = none_clash (fork_in e.stamp.event) branches fork2 fork
leads_one c s own k l (told e rest p k2 h up zero_no fork on) (sticks e2 rest2 q h2 up2 deep) = (let d = deep_fork e.stamp.name.0 e.stamp.event deep in none_clash (fork_in e.stamp.event) d.0 d.1 fork)
leads_one c s own k l (told e rest p k2 h up zero_no fork on) (traps e2 rest2 q h2 up2 stops) = clash (is_zero e.stamp.event) stops zero_no
leads_one c s own k l (joins e rest p k2 branches join entries h up fork shallow instr on) (told e2 rest2 q l2 h2 up2 zero_no fork2 on2) = none_clash (fork_in e.stamp.event) branches fork fork2
leads_one c s own k l (joins e rest p k2 branches join entries h up fork shallow instr on) (joins e2 rest2 q l2 branches2 join2 entries2 h2 up2 fork2 shallow2 instr2 on2) =
    let same = leads_one c s rest p q h h2 in
    runs_one object_meaning c (joined c q) k l (subst (λ z. RunsOn object_meaning c (joined c z) k) same on) on2
leads_one c s own k l (joins e rest p k2 branches join entries h up fork shallow instr on) (sticks e2 rest2 q h2 up2 deep) = clash (is_too_deep e.stamp.name.0 e.stamp.event) deep shallow
leads_one c s own k l (joins e rest p k2 branches join entries h up fork shallow instr on) (traps e2 rest2 q h2 up2 stops) = none_clash (fork_in e.stamp.event) branches fork (zero_none e.stamp.event stops)
leads_one c s own k l (sticks e rest p h up deep) (told e2 rest2 q l2 h2 up2 zero_no fork on2) = (let d = deep_fork e.stamp.name.0 e.stamp.event deep in none_clash (fork_in e.stamp.event) d.0 d.1 fork)
leads_one c s own k l (sticks e rest p h up deep) (joins e2 rest2 q l2 branches join entries h2 up2 fork2 shallow instr on2) = clash (is_too_deep e.stamp.name.0 e.stamp.event) deep shallow
leads_one c s own k l (sticks e rest p h up deep) (sticks e2 rest2 q h2 up2 deep2) = ap at_fork (leads_one c s rest p q h h2)
leads_one c s own k l (sticks e rest p h up deep) (traps e2 rest2 q h2 up2 stops) = (let d = deep_fork e.stamp.name.0 e.stamp.event deep in none_clash (fork_in e.stamp.event) d.0 d.1 (zero_none e.stamp.event stops))
leads_one c s own k l (traps e rest p h up stops) (told e2 rest2 q l2 h2 up2 zero_no fork on2) = clash (is_zero e.stamp.event) stops zero_no
leads_one c s own k l (traps e rest p h up stops) (joins e2 rest2 q l2 branches join entries h2 up2 fork2 shallow instr on2) = none_clash (fork_in e.stamp.event) branches fork2 (zero_none e.stamp.event stops)
leads_one c s own k l (traps e rest p h up stops) (sticks e2 rest2 q h2 up2 deep) = (let d = deep_fork e.stamp.name.0 e.stamp.event deep in none_clash (fork_in e.stamp.event) d.0 d.1 (zero_none e.stamp.event stops))
leads_one c s own k l (traps e rest p h up stops) (traps e2 rest2 q h2 up2 stops2) = leads_one c s rest p q h h2

pub deterministic : (c : Code) → IsDeterministic (obj_threads c)
deterministic c = record {
  branch = λ s own n a b x y. x.begins ∙ ap (λ (k : ObjLife). branch_of object_meaning c k (n % 16) k.top.stack) (leads_one c s own x.life y.life x.leads y.leads) ∙ sym y.begins;
  wants = λ s own w v x y.
      (let both : Some w ≡ Some v = sym x.wants ∙ ap (want_of object_meaning c) (leads_one c s own x.life y.life x.leads y.leads) ∙ y.wants in cc);
  ends = λ s own w x y.
      (let no : Some x.value ≡ None = sym x.ended ∙ ap (λ (k : ObjLife). ended_of object_meaning c (Some k)) (leads_one c s own x.life y.life x.leads y.leads) ∙ y.going in cc);
}

-- a tree in place
pub record AreLiving (c : Code) (h : List Entry) (f : ObjLives) : Type 0 where
  pub place : AreSettled c h f
  pub tree : IsTree object_meaning c f

-- a thread that runs wants its next event
pub record Runs (c : Code) (h : List Entry) (n : ℕ) (l : ObjLife) : Type 0 where
  pub start : ObjLife
  pub want : Want Value
  pub wants : want_of object_meaning c l ≡ Some want
  pub next : IsNext (obj_threads c) h n start want

pub runs_next : (c : Code) (h : List Entry) (f : ObjLives) (n : ℕ) (l : ObjLife) → AreLiving c h f → f n ≡ Some l → is_waiting l.stage ≡ false → Runs c h n l
runs_next c h f n l alive lives awake =
    let p = alive.place.threads.lives n l lives in
    let going = subst (λ o. ended_of object_meaning c o ≡ None) lives (alive.tree.going n) in
    let guest = alive.tree.threads.guests n l lives in
    record {
      start = p.start;
      want = guest.want;
      wants = guest.wants;
      next = record {
        begins = p.begins;
        wants = record { life = l; leads = comes_to c p.start (own (obj_threads c) n h) l p.stands awake; awake = awake; going = going; wants = guest.wants };
        joined = subst (BranchesAre c h n) awake (alive.place.threads.branches n l lives);
      };
    }

pub nobody_zero : (c : Code) (h : List Entry) (f : ObjLives) (n : ℕ) (l : ObjLife) → AreThreads c h f → f n ≡ Some l → 1 ≤ n
nobody_zero c h f n l threads lives =
    let p = threads.lives n l lives in
    let some : n ≡ 0 → ⊥ = λ e. never_zero c h p.start (subst (λ k. Begins (obj_threads c) h k p.start) e p.begins) in
    omega (arith, some)

-- a branch that lives is one that its parent's newest entry started
pub branch_started : (c : Code) (h : List Entry) (f : ObjLives) (n i : ℕ) (b : ObjLife) → AreThreads c h f → 1 ≤ n → 1 ≤ i → i ≤ 15 → f (16 * n + i) ≡ Some b → i ≤ started c h n
branch_started c h f n i b threads some low high lives =
    let parent : (16 * n + i) / 16 ≡ n = omega (arith, high) in
    let place : (16 * n + i) % 16 ≡ i = omega (arith, high) in
    let begun = (threads.parents (16 * n + i) b lives (λ e. omega (arith, e, some))).1 in
    omega (arith, begun, ap (started c h) parent, place)

next_not_ended : (c : Code) (h : List Entry) (n : ℕ) (s : ObjLife) (w : Want Value) → IsNext (obj_threads c) h n s w → Ended (obj_threads c) h n → ⊥
next_not_ended c h n s w next over = OneLife.next_not_ended (obj_threads c) (deterministic c) 1 (root_of object_meaning c main_stack) h n s w next over

-- who lives has not ended
pub alive_not_ended : (c : Code) (h : List Entry) (f : ObjLives) → AreLiving c h f → (n : ℕ) (l : ObjLife) → f n ≡ Some l → Ended (obj_threads c) h n → ⊥
alive_not_ended c h f alive n l lives (ended k s began stops joined) =
    by (is_waiting l.stage) refl (λ i b low high there. alive_not_ended c h f alive (16 * n + i) b there (joined i low high))
  where
    by : (b : Bool) → is_waiting l.stage ≡ b → ((i : ℕ) (b : ObjLife) → 0 < i → i ≤ started c h n → f (16 * n + i) ≡ Some b → ⊥) → ⊥
    by false awake rest =
        let r = runs_next c h f n l alive lives awake in
        next_not_ended c h n r.start r.want r.next (ended n s began stops joined)
    by true asleep rest = waiting (alive.place.waits n l lives asleep)
      where
        waiting : HasBranch f n ⊎ HasStuck c h n → ⊥
        waiting (inl branch) =
            let within = branch_started c h f n branch.0 branch.3.0 alive.place.threads (nobody_zero c h f n l alive.place.threads lives) branch.1 branch.2 branch.3.1 in
            rest branch.0 branch.3.0 branch.1 within branch.3.1
        waiting (inr stuck) =
            let leads = subst (λ o. LeadsTo c s o stops.life) stuck.1.1 stops.leads in
            let sleeps = stuck_waits c s stuck.0 stuck.1.0 stops.life leads stuck.1.2 in
            let want : want_of object_meaning c stops.life ≡ Some Want.Waits = waits_for object_meaning c stops.life sleeps in
            let no : None ≡ Some stops.value = sym (ap end_in want) ∙ stops.ended in
            cc

-- who runs in the run lives, and waits for nobody
pub record IsRunning (f : ObjLives) (n : ℕ) : Type 0 where
  pub life : ObjLife
  pub lives : f n ≡ Some life
  pub awake : is_waiting life.stage ≡ false

pub only_running : (c : Code) (h : List Entry) (f : ObjLives) (n : ℕ) → AreLiving c h f → Lives.IsRunnable (obj_threads c) h n → IsRunning f n
only_running c h f n alive run = by (f n) refl
  where
    asleep : (l : ObjLife) → f n ≡ Some l → HasBranch f n ⊎ HasStuck c h n → IsRunning f n
    asleep l lives (inl branch) =
        let within = branch_started c h f n branch.0 branch.3.0 alive.place.threads (nobody_zero c h f n l alive.place.threads lives) branch.1 branch.2 branch.3.1 in
        absurd (alive_not_ended c h f alive (16 * n + branch.0) branch.3.0 branch.3.1 (run.2.joined branch.0 branch.1 within))
    asleep l lives (inr stuck) =
        let wants = run.2.wants in
        let leads = subst (λ o. LeadsTo c run.0 o wants.life) stuck.1.1 wants.leads in
        clash (is_waiting wants.life.stage) (stuck_waits c run.0 stuck.0 stuck.1.0 wants.life leads stuck.1.2) wants.awake

    waiting : (l : ObjLife) (b : Bool) → f n ≡ Some l → is_waiting l.stage ≡ b → IsRunning f n
    waiting l false lives awake = record { life = l; lives = lives; awake = awake }
    waiting l true lives is = asleep l lives (alive.place.waits n l lives is)

    by : (o : Option ObjLife) → f n ≡ o → IsRunning f n
    by None none = absurd (next_not_ended c h n run.0 run.1 run.2 (alive.place.threads.gone n run.0 none run.2.begins))
    by (Some l) lives = waiting l (is_waiting l.stage) lives refl

-- a thread wants one thing
pub want_one : (c : Code) (h : List Entry) (n : ℕ) (s t : ObjLife) (w v : Want Value) → IsNext (obj_threads c) h n s w → IsNext (obj_threads c) h n t v → w ≡ v
want_one c h n s t w v x y = (OneLife.next_one (obj_threads c) (deterministic c) 1 (root_of object_meaning c main_stack) h n s t w v x y).1
