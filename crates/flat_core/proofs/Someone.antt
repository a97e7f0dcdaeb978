-- While thread 1 lives, some thread is runnable.
use Rattle.std.proofs.Common.{◌≡◌, ℕ, zero, suc, ◌+◌, ◌*◌, ◌≤◌, ◌<◌, List, [], ◌∷◌, Bool, true, false, refl, Option, Some, None, arith, sym, ◌∙◌, ap, ⊎_elim}
use Rattle.std.specs.Prelude.{ℤ, max, cond}
use Rattle.std.specs.Ordering.{nat_cmp}
use Rattle.std.specs.BTreeMap.{is_at}
use Rattle.std.specs.Map.{lookup}
use Rattle.std.proofs.lemmas.Bool.{cases_eq}
use Rattle.dfi_base.specs.Lives.{Ended}
use Rattle.tac_ir.specs.declared.run.Entry.{Entry}
use Rattle.tac_ir.specs.Module.{Module}
use Rattle.tac_ir.specs.Threads.{threads_of}
use Rattle.tac_thread.specs.Threads.{life_in, is_waiting, running, IsRunnable}
use Rattle.tac_thread.specs.Threads as tree
use Rattle.path_law.specs.Standing.{FlatLife}
use Rattle.path_law.specs.Alive.{AreAlive}
use Rattle.path_law.proofs.TreeLaws.{same_end, same_runnable}
use Rattle.flat_core.specs.Serves.{FlatThreads}
use Rattle.flat_core.specs.Stands.{Core}
use Rattle.flat_core.specs.tools.Ends.{IsLeastOf}
use Rattle.flat_core.proofs.Ending.{IsGoing, not_over}

-- one more than the greatest name
abbrev past : List (ℕ × FlatLife) → ℕ
past [] = 0
past (e ∷ es) = max (suc e.0) (past es)

at_other : (n k : ℕ) → (k ≡ n → ⊥) → is_at (nat_cmp n) k ≡ false
at_other n k other = grind (arith, nat_cmp)

below_past : (es : List (ℕ × FlatLife)) (n : ℕ) (l : FlatLife) → lookup (is_at (nat_cmp n)) es ≡ Some l → n < past es
below_past [] n l found = cc
below_past (e ∷ es) n l found = ⊎_elim
    (λ (same : e.0 ≡ n). omega (arith, same))
    (λ (other : e.0 ≡ n → ⊥). (
    let rest = ap (λ b. cond b (Some e.1) (lookup (is_at (nat_cmp n)) es)) (sym (at_other n e.0 other)) ∙ found in
    let low = below_past es n l rest in
    omega (arith, low)))
    (cases_eq e.0 n)

running_at : (o : Option FlatLife) (l : FlatLife) → o ≡ Some l → is_waiting l.stage ≡ false → running o ≡ Some l
running_at o l is awake = ap running is ∙ ap (λ b. elim b as (λ x. Option FlatLife) [ true ↦ None | false ↦ Some l ]) awake

-- below a thread that lives, one runs
below : (m : Module) (h : List Entry) (t : FlatThreads) → AreAlive m h (life_in t) t.done → (fuel n : ℕ) (l : FlatLife) → past t.lives ≤ n + fuel → life_in t n ≡ Some l → (k : ℕ) × IsRunnable (life_in t) k
below m h t alive zero n l far lives = absurd (let low = below_past t.lives n l lives in omega (arith, low, far))
below m h t alive (suc fuel) n l far lives = by (is_waiting l.stage) refl (below m h t alive fuel)
  where
    by : (b : Bool) → is_waiting l.stage ≡ b → ((k : ℕ) (b : FlatLife) → past t.lives ≤ k + fuel → life_in t k ≡ Some b → (j : ℕ) × IsRunnable (life_in t) j) → (k : ℕ) × IsRunnable (life_in t) k
    by false awake go = (n, (l, running_at (life_in t n) l lives awake))
    by true waits go =
        let branch = alive.place.settled.waits n l lives waits in
        go (16 * n + branch.0) branch.3.0 (omega (arith, far, branch.1)) branch.3.1

someone : (m : Module) (h : List Entry) (t : FlatThreads) → AreAlive m h (life_in t) t.done → (Ended (threads_of m) h 1 → ⊥) → (k : ℕ) × IsRunnable (life_in t) k
someone m h t alive living = by (life_in t 1) refl
  where
    by : (o : Option FlatLife) → life_in t 1 ≡ o → (k : ℕ) × IsRunnable (life_in t) k
    by None is = absurd (living ((same_end m h (life_in t) t.done alive).0 is))
    by (Some l) is = below m h t alive (past t.lives) 1 l (omega arith) is

-- the least name of the tree is that of the run
pub least_is : (m : Module) (input : List ℤ) (core : Core) (h : List Entry) (o : Option ℕ) → IsGoing m input core h → tree.IsLeastOf (life_in core.threads) o → IsLeastOf m h o
least_is m input core h None go least = absurd (let one = someone m h core.threads go.serves.threads go.living in least one.0 one.1)
least_is m input core h (Some n) go least =
    let same = λ (k : ℕ). same_runnable m h (life_in core.threads) core.threads.done k go.serves.threads in
    (not_over m input core h go, (same n).0 least.0, λ k low now. least.1 k low ((same k).1 now))
