-- The laws of trees.
use Rattle.std.proofs.Common.{◌≡◌, ℕ, List, true, false, refl, Option, Some, None, ◌∙◌, ap}
use Rattle.dfi_base.specs.Lives
use Rattle.dfi_base.specs.Lives.{own, Begins, Ended}
use Rattle.tac_ir.specs.declared.run.Entry.{Entry}
use Rattle.tac_ir.specs.Module.{Module}
use Rattle.tac_ir.specs.GoodForm.{GoodForm}
use Rattle.tac_ir.specs.Words.{int_of}
use Rattle.tac_ir.specs.CoreRun.{Returns}
use Rattle.tac_ir.specs.Threads.{root_start, threads_of}
use Rattle.tac_thread.specs.Threads.{is_waiting, running, main_value, IsRunnable}
use Rattle.tac_thread.specs.Flat.{flat_meaning}
use Rattle.tac_thread.proofs.Trees.{running_is}
use Rattle.path_law.specs.Standing.{FlatLife}
use Rattle.path_law.specs.Wants.{next_of, EndsWith}
use Rattle.path_law.specs.InPlace.{FlatLives}
use Rattle.path_law.specs.Runs.{Runs}
use Rattle.path_law.specs.Alive.{AreAlive}
use Rattle.path_law.specs.Returned.{HasReturned, MainReturned}
use Rattle.path_law.specs.Returned.HasReturned.{returns, stops}
use Rattle.path_law.proofs.Homes.{entry_home}
use Rattle.path_law.proofs.MainPath.{ends_with_value}
use Rattle.path_law.proofs.Placed.{AreLiving, runs_next, only_running, alive_not_ended}

living : (m : Module) (h : List Entry) (f : FlatLives) (d : Option ℕ) → AreAlive m h f d → AreLiving m h f
living m h f d alive = record { place = alive.place.settled; tree = alive.tree }

pub next_event : (m : Module) (h : List Entry) (f : FlatLives) (d : Option ℕ) (n : ℕ) (l : FlatLife) → AreAlive m h f d → running (f n) ≡ Some l → Runs m h n l
next_event m h f d n l alive now = let found = running_is (f n) l now in runs_next m h f n l (living m h f d alive) found.0 found.1

running_of : (o : Option FlatLife) (l : FlatLife) → o ≡ Some l → is_waiting l.stage ≡ false → running o ≡ Some l
running_of o l is awake = ap running is ∙ ap (λ b. elim b as (λ x. Option FlatLife) [ true ↦ None | false ↦ Some l ]) awake

pub same_runnable : (m : Module) (h : List Entry) (f : FlatLives) (d : Option ℕ) (n : ℕ) → AreAlive m h f d
    → (IsRunnable f n → Lives.IsRunnable (threads_of m) h n) × (Lives.IsRunnable (threads_of m) h n → IsRunnable f n)
same_runnable m h f d n alive = (
  λ now. (let r = next_event m h f d n now.0 alive now.1 in (r.start, next_of now.0 r.op, r.next)),
  λ now. (let r = only_running m h f n (living m h f d alive) now in (r.life, running_of (f n) r.life r.lives r.awake)),
)

pub same_end : (m : Module) (h : List Entry) (f : FlatLives) (d : Option ℕ) → AreAlive m h f d → (f 1 ≡ None → Ended (threads_of m) h 1) × (Ended (threads_of m) h 1 → f 1 ≡ None)
same_end m h f d alive = (λ none. alive.place.settled.threads.gone 1 (root_start m) none alive.place.settled.threads.root, λ over. by over (f 1) refl)
  where
    by : Ended (threads_of m) h 1 → (o : Option FlatLife) → f 1 ≡ o → o ≡ None
    by over None is = refl
    by over (Some l) is = absurd (alive_not_ended m h f (living m h f d alive) 1 l is over)

-- Main's value.

-- a main that returned gave its value to the run
pub returned_value : (m : Module) (h : List Entry) (x : ℕ) → Ended (threads_of m) h 1 → Begins (threads_of m) h 1 (root_start m) → EndsWith m.code (root_start m) (own (threads_of m) 1 h) (Some x)
    → Returns m h (int_of x)
returned_value m h x over begins last = record { start = root_start m; begins = begins; word = x; last = last; ended = over; value = refl }

pub main_value_is : (m : Module) (h : List Entry) (f : FlatLives) (d : Option ℕ) → AreAlive m h f d → Ended (threads_of m) h 1 → HasReturned m h d
main_value_is m h f d alive over =
    let none = (same_end m h f d alive).1 over in
    let v = alive.place.main.ended none in
    by v.value v.ends v.is
  where
    by : (v : Option ℕ) → EndsWith m.code (root_start m) (own (threads_of m) 1 h) v → d ≡ Some (main_value flat_meaning v) → HasReturned m h d
    by (Some x) ends is = returns x is (returned_value m h x over alive.place.settled.threads.root ends)
    by None ends is = stops is ends

pub none_before : (m : Module) (h : List Entry) (f : FlatLives) (d : Option ℕ) → AreAlive m h f d → (Ended (threads_of m) h 1 → ⊥) → d ≡ None
none_before m h f d alive going = by (f 1) refl
  where
    by : (o : Option FlatLife) → f 1 ≡ o → d ≡ None
    by None is = absurd (going ((same_end m h f d alive).0 is))
    by (Some l) is = alive.place.main.lives l is

-- in code of a good form main returns
pub main_returned : (m : Module) (h : List Entry) (f : FlatLives) (d : Option ℕ) → GoodForm m.code → AreAlive m h f d → Ended (threads_of m) h 1 → MainReturned m h d
main_returned m h f d good alive over =
    let none = (same_end m h f d alive).1 over in
    let v = alive.place.main.ended none in
    by v.value v.ends v.is
  where
    by : (v : Option ℕ) → EndsWith m.code (root_start m) (own (threads_of m) 1 h) v → d ≡ Some (main_value flat_meaning v) → MainReturned m h d
    by (Some x) ends is = (x, is, returned_value m h x over alive.place.settled.threads.root ends)
    by None ends is =
        absurd (ends_with_value m.code good (root_start m) (entry_home m.code good m.code.main good.funs.main) (own (threads_of m) 1 h) ends)
