-- Each log that grows step by step has its chain of trees, over any values.
use Rattle.std.proofs.Common.{◌≡◌, ℕ, Bool, true, false, List, [], ◌∷◌, length, refl, sym, ap, ◌∙◌, subst, Option, Some, None}
use Rattle.std.specs.Prelude.{IsTrue}
use Rattle.tac_ir.specs.declared.code.Code.{Code}
use Rattle.tac_ir.specs.GoodForm.{GoodForm}
use Rattle.tac_thread.specs.declared.want.Want.{Want}
use Rattle.tac_thread.specs.Meaning.{Meaning}
use Rattle.tac_thread.specs.Life.{Life}
use Rattle.tac_thread.specs.Doing.{want_of}
use Rattle.tac_thread.specs.Answered.{answered}
use Rattle.tac_thread.specs.Threads.{Lives, IsTree, IsStuck, at_fork, changed, is_waiting, running, want_of_life}
use Rattle.tac_thread.proofs.Trees.{taking}
use Rattle.tac_thread.proofs.Forking.{few_branches, forking, no_zero, stuck_tree}
use Rattle.tree_law.specs.Chain.{Saying, IsTreeAfter}
use Rattle.tree_law.specs.Chain.IsTreeAfter.{begins, feeds, forks, halts, sticks}
use Rattle.tree_law.specs.Growing.{Does, HasChain, Grows}
use Rattle.tree_law.specs.Growing.Does.{tells, splits, ends, waits}
use Rattle.tree_law.proofs.trees.Going.{feeds_to, forks_to, begins_as, runs_of}
use Rattle.tree_law.proofs.trees.Waking.{answered_awake, at_fork_is}

module _ {V S E : Type 0} (m : Meaning V S) (c : Code) (good : GoodForm c) (s : S) (frame : IsTrue (m.has_frame c c.main s)) (say : Saying V S E) (Holds : List E → Lives V S → Option V → Type 0) where
  abbrev Chained : List E → Type 0
  Chained h = HasChain m c s say Holds h

  step : (h : List E) (e : E) (f : Lives V S) (d : Option V) → IsTreeAfter m c s say h f d → IsTree m c f → Does m c say Holds h e f d → Chained (e ∷ h)
  step h e f d chain tree (tells n reply takes told holds) =
      let on = feeds_to m c good f d n reply tree takes in
      let t = taking m c f n reply takes in
      let both : Some on.fed.life ≡ Some t.0 = sym on.fed.lived ∙ t.1 in
      let same : t.0 ≡ on.fed.life = cc in
      let awake = answered_awake m c t.0 reply (λ k z. takes.no_fork k (not_it t.0 t.1 t.2 k z)) t.2 in
      record {
        lives = on.lives;
        value = on.value;
        tree = on.tree;
        holds = holds on.lives on.value on.fed on.tree;
        chain = feeds h e n reply f on.lives d on.value chain on.tree on.fed (subst (λ (z : Life V S). is_waiting z.stage ≡ false) same t.2)
            (subst (λ (z : Life V S). is_waiting (answered m c z reply).stage ≡ false) same awake) (told on.fed.life on.fed.lived);
      }
    where
      not_it : (l : Life V S) → f n ≡ Some l → is_waiting l.stage ≡ false → (k : ℕ) → want_of m c l ≡ Some (Want.Fork k) → takes.want ≡ Want.Fork k
      not_it l lives awake k want =
          let now : running (f n) ≡ Some l = ap running lives ∙ ap (λ (b : Bool). elim b as (λ z. Option (Life V S)) [ true ↦ None | false ↦ Some l ]) awake in
          let both : Some takes.want ≡ Some (Want.Fork k) = sym takes.wants ∙ ap (want_of_life m c) now ∙ want in
          cc
  step h e f d chain tree (splits n stacks takes told holds) =
      let on = forks_to m c good f d n stacks tree takes in
      let r = runs_of m c f n stacks takes in
      let both : Some on.forked.life ≡ Some r.0 = sym on.forked.lived ∙ r.1.0 in
      let same : r.0 ≡ on.forked.life = cc in
      let want = forking m c f n stacks on.forked.life on.forked.lived takes in
      let fork = at_fork_is m c on.forked.life (length stacks) want in
      let t = told on.forked.life on.forked.lived in
      record {
        lives = on.lives;
        value = on.value;
        tree = on.tree;
        holds = holds on.lives on.value on.forked on.tree;
        chain = forks h e n stacks f on.lives d on.value chain on.tree on.forked (subst (λ (z : Life V S). is_waiting z.stage ≡ false) same r.1.1) t.0 t.1
            (no_zero m c f n on.forked.life tree.threads on.forked.lived) fork.join fork.entries fork.is fork.count (few_branches m c on.forked.life (length stacks) good want);
      }
  step h e f d chain tree (ends n l lives awake stopped last) =
      record { lives = f; value = d; tree = tree; holds = last; chain = halts h e n l f d chain lives awake stopped }
  step h e f d chain tree (waits n stacks takes told holds) =
      let r = runs_of m c f n stacks takes in
      let g = changed f n (Some (at_fork r.0)) in
      let stuck : IsStuck f d n g d = record { life = r.0; lived = r.1.0; changes = λ k. refl; done = refl } in
      let after = stuck_tree m c f g d d n stacks tree takes stuck in
      record { lives = g; value = d; tree = after; holds = holds g d stuck after; chain = sticks h e n f g d d chain after stuck r.1.1 (told r.0 r.1.0) }

  -- for any logs that grow
  pub grows : (IsLog : List E → Type 0) → Grows m c s say Holds IsLog → (h : List E) → IsLog h → Chained h
  grows IsLog rule [] log =
      let b = begins_as m c good s frame in
      record { lives = b.lives; value = b.value; tree = b.tree; holds = rule.begins b.lives b.value b.begun b.tree; chain = begins b.lives b.value b.tree b.begun }
  grows IsLog rule (e ∷ h) log =
      let k = grows IsLog rule h (rule.before h e log) in
      step h e k.lives k.value k.chain k.tree (rule.next h e k.lives k.value log k.holds k.tree)
