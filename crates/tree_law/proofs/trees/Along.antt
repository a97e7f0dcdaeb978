-- What each entry keeps holds along the chain of trees.
use Rattle.std.proofs.Common.{◌≡◌, ℕ, suc, ◌+◌, ◌*◌, ◌/◌, ⊎_elim, List, true, false, refl, Option, Some, None, arith, sym, ◌∙◌, ap, subst}
use Rattle.std.specs.Prelude.{slice_get}
use Rattle.std.proofs.lemmas.Bool.{cases_eq}
use Rattle.std.proofs.lemmas.Option.{slice_get_within}
use Rattle.tac_ir.specs.declared.code.Code.{Code}
use Rattle.tac_ir.specs.GoodForm.{GoodForm}
use Rattle.tac_thread.specs.Meaning.{Meaning}
use Rattle.tac_thread.specs.Life.{Life}
use Rattle.tac_thread.specs.Answered.{answered}
use Rattle.tac_thread.specs.Begun.{root_of, branch_of}
use Rattle.tac_thread.specs.Threads.{Lives, changed, HasBranch, HasParent, IsBegun, IsTree, at_fork, is_waiting, nobody}
use Rattle.tac_thread.proofs.Trees.{changed_here, changed_other}
use Rattle.tac_thread.proofs.Forking.{no_zero}
use Rattle.tree_law.specs.Chain.{Saying, IsTreeAfter}
use Rattle.tree_law.specs.Chain.IsTreeAfter.{begins, feeds, forks, halts, sticks}
use Rattle.tree_law.specs.tools.Held.{AreHeld, HoldsOn}
use Rattle.tree_law.specs.tools.Kept.{HoldsForked, IsKeptAlong}
use Rattle.tree_law.proofs.trees.Changed.{some_at}
use Rattle.tree_law.proofs.trees.Keeping.{settles_hold, fed_holds, forked_holds, replaced}
use Rattle.tree_law.proofs.trees.Waking.{runs_awake}

-- the last tree of a chain is a tree
pub tree_of : {V S E : Type 0} (m : Meaning V S) (c : Code) (s : S) (say : Saying V S E) (h : List E) (f : Lives V S) (d : Option V) → IsTreeAfter m c s say h f d → IsTree m c f
tree_of m c s say h f d (begins f2 d2 tree b) = tree
tree_of m c s say h f d (feeds g e n reply f2 g2 d2 b chain tree fed awake moved told) = tree
tree_of m c s say h f d (forks g e n stacks f2 g2 d2 b chain tree forked awake told shares some join entries is count few) = tree
tree_of m c s say h f d (halts g e n l f2 d2 chain lives awake stopped) = tree_of m c s say g f d chain
tree_of m c s say h f d (sticks g e n f2 g2 d2 b chain tree stuck awake stays) = tree

pub nobody_zero : {V S : Type 0} → (m : Meaning V S) (c : Code) (f : Lives V S) → IsTree m c f → f 0 ≡ None
nobody_zero {V} {S} m c f tree = by (f 0) refl
  where
    by : (o : Option (Life V S)) → f 0 ≡ o → f 0 ≡ None
    by None is = is
    by (Some l) is = (let h = (tree.threads.parents 0 l is (λ e. omega (arith, e))).0 in absurd (omega (arith, h)))

-- a thread that does not wait has no branches
pub no_branches : {V S : Type 0} → (f : Lives V S) → ((n : ℕ) (l : Life V S) → f n ≡ Some l → (n ≡ 1 → ⊥) → HasParent f n) → (n : ℕ) (l : Life V S) → f n ≡ Some l → is_waiting l.stage ≡ false → HasBranch f n → ⊥
no_branches {V} {S} f parents n l lives awake b =
    let high = b.2 in
    let up : (16 * n + b.0) / 16 ≡ n = omega (arith, high) in
    let low = b.1 in
    by (λ e. zero_none (omega (arith, e, low))) up
  where
    zero_none : n ≡ 0 → ⊥
    zero_none e = (let h = (parents 0 l (sym (ap f e) ∙ lives) (λ z. omega (arith, z))).0 in omega (arith, h))

    by : (16 * n + b.0 ≡ 1 → ⊥) → (16 * n + b.0) / 16 ≡ n → ⊥
    by other up =
        let h = parents (16 * n + b.0) b.3.0 b.3.1 other in
        let both : Some h.1.0 ≡ Some l = sym h.1.1 ∙ ap f up ∙ lives in
        let same : h.1.0 ≡ l = cc in
        let clash : true ≡ false = sym h.1.2 ∙ ap (λ (z : Life V S). is_waiting z.stage) same ∙ awake in cc

-- thread 1 begins
pub begun_holds : {V S : Type 0} → (m : Meaning V S) (c : Code) (R : Life V S → Type 0) (B : Life V S → ℕ → Life V S → Type 0) (E : Life V S → ℕ → Type 0) → GoodForm c → HoldsOn m c R B E → (s : S) (g : Lives V S) (e : Option V)
    → IsBegun m c s g e → R (root_of m c s) → AreHeld R B E g
begun_holds {V} {S} m c R B E good rule s g e b first =
    settles_hold m c R B E rule 1 b.lives g None e (b.changes 0 ∙ changed_other nobody 1 (Some b.root) 0 (λ z. omega (arith, z))) b.settles (record {
      root = λ l lives. subst R (is_root 1 l lives).1 (rule.root_runs (root_of m c s) b.root first b.runs);
      branches = λ n p l low other lives parent. absurd (other (is_root n l lives).0);
      ended = λ n p i some low high lives none. rule.awake p i (subst (λ (z : Life V S). is_waiting z.stage ≡ false) (is_root n p lives).1 (runs_awake m c (root_of m c s) b.root refl b.runs));
      named = λ n l lives other. absurd (other (is_root n l lives).0);
    })
  where
    is_root : (n : ℕ) (l : Life V S) → b.lives n ≡ Some l → (n ≡ 1) × (b.root ≡ l)
    is_root n l lives = ⊎_elim
        (λ (same : n ≡ 1).
        let both : Some b.root ≡ Some l = sym (changed_here nobody 1 (Some b.root)) ∙ ap (changed nobody 1 (Some b.root)) (sym same) ∙ sym (b.changes n) ∙ lives in
        let is : b.root ≡ l = cc in
        (same, is))
        (λ (other : n ≡ 1 → ⊥). let none : None ≡ Some l = sym (changed_other nobody 1 (Some b.root) n other) ∙ sym (b.changes n) ∙ lives in absurd (cc))
        (cases_eq n 1)

module _ {V S F : Type 0} (m : Meaning V S) (c : Code) (good : GoodForm c) (s : S) (say : Saying V S F) (R : Life V S → Type 0) (B : Life V S → ℕ → Life V S → Type 0) (E : Life V S → ℕ → Type 0) (kept : IsKeptAlong m c s say R B E) where
  pub kept_along : (h : List F) (f : Lives V S) (d : Option V) → IsTreeAfter m c s say h f d → AreHeld R B E f
  kept_along h f d (begins f2 d2 tree b) = begun_holds m c R B E good kept.rule s f d b kept.begins
  kept_along h g b (feeds old e n reply f g2 d b2 chain tree fed awake moved told) =
      let was = tree_of m c s say old f d chain in
      let keeps = kept.answers old e n fed.life reply told awake moved in
      fed_holds m c R B E kept.rule n f g d b reply (nobody_zero m c f was) (no_zero m c f n fed.life was.threads fed.lived) fed (no_branches f was.threads.parents n fed.life fed.lived awake)
      (record { root = keeps.root; branch = keeps.branch; ended = λ i. kept.rule.awake (answered m c fed.life reply) i moved })
      (λ i. kept.rule.awake fed.next i (runs_awake m c (answered m c fed.life reply) fed.next moved fed.runs)) (kept_along old f d chain)
  kept_along h g b (forks old e n stacks f g2 d b2 chain tree forked awake told shares some join entries is count few) =
      let was = tree_of m c s say old f d chain in
      let keeps = kept.forks old e n forked.life stacks told shares awake join entries is count few in
      forked_holds m c R B E kept.rule n f g d b stacks (nobody_zero m c f was) forked (no_branches f was.threads.parents n forked.life forked.lived awake) was.threads.parents some few
      keeps.waits.root keeps.waits.branch (begin keeps) (λ i past. keeps.beyond i (let same = forked.begin.count in omega (arith, same, past))) fresh (kept_along old f d chain)
    where
      stack_at : (i : ℕ) (b : Life V S) → slice_get forked.branches i ≡ Some b → (t : S) × (slice_get stacks i ≡ Some t)
      stack_at i b listed = (let within = slice_get_within forked.branches i b listed in let same = forked.begin.count in some_at stacks i (omega (arith, within, same)))

      begin : HoldsForked m c R B E forked.life stacks → (i : ℕ) (b : Life V S) → slice_get forked.branches i ≡ Some b → B (at_fork forked.life) (suc i) b
      begin keeps i b listed = (let t = stack_at i b listed in keeps.begins i t.0 b t.1 (forked.begin.each i t.0 b t.1 listed))

      fresh : (i j : ℕ) (b : Life V S) → slice_get forked.branches i ≡ Some b → E b j
      fresh i j b listed = (let t = stack_at i b listed in kept.rule.awake b j (runs_awake m c (branch_of m c forked.life (i + 1) t.0) b refl (forked.begin.each i t.0 b t.1 listed)))
  kept_along h f d (halts old e n l f2 d2 chain lives awake stopped) = kept_along old f d chain
  kept_along h g b (sticks old e n f g2 d b2 chain tree stuck awake stays) =
      let was = tree_of m c s say old f d chain in
      let keeps = kept.sticks old e n stuck.life stays awake in
      replaced R B E f g n stuck.life (at_fork stuck.life) stuck.lived (no_branches f was.threads.parents n stuck.life stuck.lived awake)
      (record { root = keeps.0.root; branch = keeps.0.branch; ended = keeps.1 }) stuck.changes (kept_along old f d chain)
