-- A run that a thread has stopped: who lived lives on, so thread 1 has not ended.
use Rattle.std.proofs.Common.{◌≡◌, ℕ, ◌+◌, ◌*◌, ◌≤◌, ◌<◌, List, ◌∷◌, Bool, true, false, refl, Option, Some, None, arith, sym, subst, ⊎_elim}
use Rattle.std.proofs.lemmas.Bool.{cases_eq}
use Rattle.dfi_base.specs.Lives.{own, Ended}
use Rattle.dfi_base.specs.Lives.EndedIn.{ended}
use Rattle.tac_ir.specs.declared.run.Op.{Op}
use Rattle.tac_ir.specs.declared.run.Answer.{Answer}
use Rattle.tac_ir.specs.declared.run.Entry.{Entry}
use Rattle.tac_ir.specs.Module.{Module}
use Rattle.tac_ir.specs.Path.{stops}
use Rattle.tac_ir.specs.Threads.{IsAtEnd, root_start, forked_by, threads_of}
use Rattle.tac_ir.proofs.Living.{stopped_not_ended}
use Rattle.tac_thread.specs.Threads.{is_waiting, running}
use Rattle.tac_thread.proofs.Trees.{running_is}
use Rattle.path_law.specs.Standing.{FlatLife}
use Rattle.path_law.specs.InPlace.{FlatLives, started, BranchesAre}
use Rattle.path_law.specs.Alive.{AreAlive}
use Rattle.path_law.proofs.Histories.{own_mine, begun_same}
use Rattle.path_law.proofs.Placed.{AreLiving, no_zero, branch_started, alive_not_ended}
use Rattle.path_law.proofs.Grown.{IsPlain, starts_none, own_same, started_same}

stop_starts_none : (op : Op) (answer : Answer) → stops answer ≡ true → forked_by op answer ≡ 0
stop_starts_none (Op.Fork n) (Answer.Stop stop) h = refl
stop_starts_none (Op.Fork n) answer h = cc
stop_starts_none op answer h = refl

stopped_on : (m : Module) (h : List Entry) (f : FlatLives) (e : Entry) → AreLiving m h f → IsPlain m h e → stops e.answer ≡ true → (k : ℕ) (l : FlatLife) → f k ≡ Some l
    → Ended (threads_of m) (e ∷ h) k → ⊥
stopped_on m h f e alive plain stop k l lives (ended q s begins at_end joined) =
    ⊎_elim (λ (same : k ≡ e.name.0). stopped_not_ended m (e ∷ h) k e (own (threads_of m) k h) (own_mine m e h k (sym same)) stop (ended k s begins at_end joined))
    (λ (other : k ≡ e.name.0 → ⊥). by other (is_waiting l.stage) refl (λ i b low high there. stopped_on m h f e alive plain stop (16 * k + i) b there (joined i low high))) (cases_eq k e.name.0)
  where
    by : (k ≡ e.name.0 → ⊥) → (w : Bool) → is_waiting l.stage ≡ w → ((i : ℕ) (b : FlatLife) → 0 < i → i ≤ started m (e ∷ h) k → f (16 * k + i) ≡ Some b → ⊥) → ⊥
    by other false awake rest =
        alive_not_ended m h f alive k l lives (ended k s (begun_same m e h k s (starts_none m h e plain k) begins)
        (subst (IsAtEnd m.code s) (own_same m h e plain k other) at_end) (subst (BranchesAre m h k) awake (alive.place.threads.branches k l lives)))
    by other true waits rest =
        let branch = alive.place.waits k l lives waits in
        let within = branch_started m h f k branch.0 branch.3.0 alive.place.threads (no_zero m h f k l alive.place.threads lives) branch.1 branch.2 branch.3.1 in
        rest branch.0 branch.3.0 branch.1 (omega (arith, within, started_same m h e plain k other)) branch.3.1

pub stopped_run : (m : Module) (h : List Entry) (f : FlatLives) (d : Option ℕ) (e : Entry) (l : FlatLife) → AreAlive m h f d → running (f e.name.0) ≡ Some l → stops e.answer ≡ true
    → (Ended (threads_of m) h 1 → ⊥) → Ended (threads_of m) (e ∷ h) 1 → ⊥
stopped_run m h f d e l tree now stop going over =
    let alive : AreLiving m h f = record { place = tree.place.settled; tree = tree.tree } in
    let lives = (running_is (f e.name.0) l now).0 in
    let plain : IsPlain m h e = record { forks = stop_starts_none e.op e.answer stop; lived = alive_not_ended m h f alive e.name.0 l lives } in
    by alive plain (f 1) refl
  where
    by : AreLiving m h f → IsPlain m h e → (o : Option FlatLife) → f 1 ≡ o → ⊥
    by alive plain None is = going (alive.place.threads.gone 1 (root_start m) is alive.place.threads.root)
    by alive plain (Some k) is = stopped_on m h f e alive plain stop 1 k is over
