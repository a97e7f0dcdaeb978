-- Lives in place are those of the threads that live: which run, and which have ended.
use Rattle.std.proofs.Common.{◌≡◌, ℕ, ◌+◌, ◌*◌, ◌/◌, ◌%◌, ◌≤◌, ◌<◌, List, Bool, true, false, refl, Option, Some, None, arith, sym, ◌∙◌, ap, subst}
use Rattle.dfi_base.specs.Lives
use Rattle.dfi_base.specs.Lives.{own, Begins, Ended}
use Rattle.dfi_base.specs.Lives.EndedIn.{ended}
use Rattle.tac_ir.specs.declared.run.Op.{Op}
use Rattle.tac_ir.specs.declared.run.Entry.{Entry}
use Rattle.tac_ir.specs.Module.{Module}
use Rattle.tac_ir.specs.Path.{Start}
use Rattle.tac_ir.specs.Threads.{IsWanted, threads_of}
use Rattle.tac_ir.proofs.Living.{next_not_ended, never_zero}
use Rattle.tac_thread.specs.declared.want.Want.{Want}
use Rattle.tac_thread.specs.Doing.{want_of}
use Rattle.tac_thread.specs.Guests.{IsGuestOf}
use Rattle.tac_thread.specs.Threads.{is_waiting, end_in, ended_of, IsTree}
use Rattle.tac_thread.specs.Flat.{flat_meaning}
use Rattle.path_law.specs.Asked.{op_of}
use Rattle.path_law.specs.Standing.{FlatLife}
use Rattle.path_law.specs.Wants.{next_of, WantsOp, IsThreadsWant}
use Rattle.path_law.specs.InPlace.{FlatLives, started, IsInPlace, BranchesAre, AreThreads, AreSettled}
use Rattle.path_law.specs.Runs.{Runs}
use Rattle.path_law.proofs.Laws.{threads_want}
use Rattle.path_law.proofs.Joins.{waits_waiting}

-- the want of a thread that runs on
pub record WantsNext (m : Module) (h : List Entry) (n : ℕ) (l : FlatLife) (s : Start) : Type 0 where
  pub want : Want ℕ
  pub wants : want_of flat_meaning m.code l ≡ Some want
  pub op : Op
  pub event : op_of want ≡ Some op
  pub asks : IsWanted m.code s (own (threads_of m) n h) (next_of l op)

pub wants_next : (m : Module) (h : List Entry) (n : ℕ) (l : FlatLife) → (p : IsInPlace m h n l) → IsGuestOf flat_meaning m.code l → ended_of flat_meaning m.code (Some l) ≡ None
    → is_waiting l.stage ≡ false → WantsNext m h n l p.start
wants_next m h n l p guest going awake =
    by guest.want guest.wants (threads_want m.code p.start (own (threads_of m) n h) l guest.want p.stands guest.wants) (sym (ap end_in guest.wants) ∙ going)
  where
    asks : (w : Want ℕ) → want_of flat_meaning m.code l ≡ Some w → (o : Option Op) → op_of w ≡ o → WantsOp m.code p.start (own (threads_of m) n h) l o → WantsNext m h n l p.start
    asks w wants None is h = absurd h
    asks w wants (Some op) is h = record { want = w; wants = wants; op = op; event = is; asks = h }

    by : (w : Want ℕ) → want_of flat_meaning m.code l ≡ Some w → IsThreadsWant m.code p.start (own (threads_of m) n h) l w → end_in (Some w) ≡ None → WantsNext m h n l p.start
    by (Want.Ended v) wants is none = cc
    by Want.Waits wants is none =
        let clash : true ≡ false = sym (waits_waiting m.code p.start (own (threads_of m) n h) l p.stands wants) ∙ awake in cc
    by w wants is none = asks w wants (op_of w) refl is

-- a tree in place
pub record AreLiving (m : Module) (h : List Entry) (f : FlatLives) : Type 0 where
  pub place : AreSettled m h f
  pub tree : IsTree flat_meaning m.code f

-- a thread that runs wants its next event
pub runs_next : (m : Module) (h : List Entry) (f : FlatLives) (n : ℕ) (l : FlatLife) → AreLiving m h f → f n ≡ Some l → is_waiting l.stage ≡ false → Runs m h n l
runs_next m h f n l alive lives awake =
    let p = alive.place.threads.lives n l lives in
    let going = subst (λ o. ended_of flat_meaning m.code o ≡ None) lives (alive.tree.going n) in
    let w = wants_next m h n l p (alive.tree.threads.guests n l lives) going awake in
    record {
      want = w.want;
      wants = w.wants;
      op = w.op;
      event = w.event;
      start = p.start;
      next = record { begins = p.begins; wants = w.asks; joined = subst (BranchesAre m h n) awake (alive.place.threads.branches n l lives) };
    }

pub no_zero : (m : Module) (h : List Entry) (f : FlatLives) (n : ℕ) (l : FlatLife) → AreThreads m h f → f n ≡ Some l → 1 ≤ n
no_zero m h f n l threads lives =
    let p = threads.lives n l lives in
    let some : n ≡ 0 → ⊥ = λ e. never_zero m h p.start (subst (λ k. Begins (threads_of m) h k p.start) e p.begins) in
    omega (arith, some)

-- a branch that lives is one that its parent's newest entry started
pub branch_started : (m : Module) (h : List Entry) (f : FlatLives) (n i : ℕ) (b : FlatLife) → AreThreads m h f → 1 ≤ n → 1 ≤ i → i ≤ 15 → f (16 * n + i) ≡ Some b → i ≤ started m h n
branch_started m h f n i b threads some low high lives =
    let parent : (16 * n + i) / 16 ≡ n = omega (arith, high) in
    let place : (16 * n + i) % 16 ≡ i = omega (arith, high) in
    let begun = (threads.parents (16 * n + i) b lives (λ e. omega (arith, e, some))).1 in
    omega (arith, begun, ap (started m h) parent, place)

-- who lives has not ended
pub alive_not_ended : (m : Module) (h : List Entry) (f : FlatLives) → AreLiving m h f → (n : ℕ) (l : FlatLife) → f n ≡ Some l → Ended (threads_of m) h n → ⊥
alive_not_ended m h f alive n l lives (ended k s begins stops joined) =
    by (is_waiting l.stage) refl (λ i b low high there. alive_not_ended m h f alive (16 * n + i) b there (joined i low high))
  where
    by : (b : Bool) → is_waiting l.stage ≡ b → ((i : ℕ) (b : FlatLife) → 0 < i → i ≤ started m h n → f (16 * n + i) ≡ Some b → ⊥) → ⊥
    by false awake rest =
        let r = runs_next m h f n l alive lives awake in
        next_not_ended m h n r.start (next_of l r.op) r.next (ended n s begins stops joined)
    by true waits rest =
        let branch = alive.place.waits n l lives waits in
        let within = branch_started m h f n branch.0 branch.3.0 alive.place.threads (no_zero m h f n l alive.place.threads lives) branch.1 branch.2 branch.3.1 in
        rest branch.0 branch.3.0 branch.1 within branch.3.1

-- who runs in the run lives, and waits for nobody
pub record IsRunning (f : FlatLives) (n : ℕ) : Type 0 where
  pub life : FlatLife
  pub lives : f n ≡ Some life
  pub awake : is_waiting life.stage ≡ false

pub only_running : (m : Module) (h : List Entry) (f : FlatLives) (n : ℕ) → AreLiving m h f → Lives.IsRunnable (threads_of m) h n → IsRunning f n
only_running m h f n alive run = by (f n) refl
  where
    waiting : (l : FlatLife) (b : Bool) → f n ≡ Some l → is_waiting l.stage ≡ b → IsRunning f n
    waiting l false lives awake = record { life = l; lives = lives; awake = awake }
    waiting l true lives waits =
        let branch = alive.place.waits n l lives waits in
        let within = branch_started m h f n branch.0 branch.3.0 alive.place.threads (no_zero m h f n l alive.place.threads lives) branch.1 branch.2 branch.3.1 in
        absurd (alive_not_ended m h f alive (16 * n + branch.0) branch.3.0 branch.3.1 (run.2.joined branch.0 branch.1 within))

    by : (o : Option FlatLife) → f n ≡ o → IsRunning f n
    by None none = absurd (next_not_ended m h n run.0 run.1 run.2 (alive.place.threads.gone n run.0 none run.2.begins))
    by (Some l) lives = waiting l (is_waiting l.stage) lives refl
