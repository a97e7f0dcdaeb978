-- Along the chain of a run each frame has the link of its own call, whatever is checked.
use Rattle.std.proofs.Common.{◌≡◌, ℕ, suc, ◌+◌, ⊎_elim, List, [], ◌∷◌, Bool, true, false, refl, Option, Some, arith, sym, ◌∙◌, ap, subst}
use Rattle.std.specs.Prelude.{ℤ, slice_get, nat_le, if◌then◌else◌}
use Rattle.std.proofs.lemmas.Bool.{cases_eq}
use Rattle.std.proofs.lemmas.Option.{slice_get_within}
use Rattle.tac_ir.specs.declared.code.Code.{Code}
use Rattle.tac_ir.specs.declared.run.Answer.{Answer}
use Rattle.tac_ir.specs.declared.run.Stop.{Stop}
use Rattle.tac_ir.specs.declared.run.Entry.{Entry}
use Rattle.tac_ir.specs.Module.{Module}
use Rattle.tac_ir.specs.Layout.{memory_words}
use Rattle.tac_ir.specs.GoodForm.{GoodForm}
use Rattle.tac_ir.specs.Path.{stops}
use Rattle.tac_ir.specs.Answers.{IsAnswer}
use Rattle.tac_thread.specs.declared.guest.Stage.{Stage}
use Rattle.tac_thread.specs.Begun.{root_of, branch_of}
use Rattle.tac_thread.specs.Flat.{flat_meaning}
use Rattle.tac_thread.specs.Threads.{at_fork, is_waiting}
use Rattle.tac_thread.proofs.Forking.{no_zero}
use Rattle.path_law.specs.Standing.{FlatActivation, FlatLife}
use Rattle.path_law.specs.Begins.{root_stack}
use Rattle.path_law.specs.Wants.{room_in}
use Rattle.path_law.specs.InPlace.{FlatLives}
use Rattle.tree_law.specs.Chain.IsTreeAfter.{begins, feeds, forks, halts, sticks}
use Rattle.tree_law.specs.tools.Held.{AreHeld, HoldsOn}
use Rattle.tree_law.proofs.lives.Placing.{Nothing}
use Rattle.tree_law.proofs.trees.Ancestors.{HaveParents}
use Rattle.tree_law.proofs.trees.Along.{tree_of, nobody_zero, no_branches, begun_holds}
use Rattle.tree_law.proofs.trees.Changed.{some_at}
use Rattle.tree_law.proofs.trees.Keeping.{fed_holds, forked_holds}
use Rattle.chain_law.specs.RunTree.{IsAsked, run_says, IsRunTree}
use Rattle.chain_law.proofs.frames.Shares.{shares_along}
use Rattle.link_law.specs.tools.Links.{IsLinked, AllLinked, AllTell}
use Rattle.link_law.proofs.links.Writes.{first_linked}
use Rattle.link_law.proofs.links.Asked.{op_in, WritesIn, writes_in, itself}
use Rattle.link_law.proofs.links.Linking.{lifted, runs_linked, joined_linked, answered_linked}

-- the fold speaks of each life alone
abbrev Beside : Code → List Entry → FlatLife → ℕ → FlatLife → Type 0
Beside c h p i l = (is_waiting p.stage ≡ true) × IsLinked c h l

linked_rule : (c : Code) → GoodForm c → (h : List Entry) → HoldsOn flat_meaning c (IsLinked c h) (Beside c h) Nothing
linked_rule c good h = record {
  root_runs = λ l k. runs_linked c good h l k;
  branch_runs = λ p l k i b on. (b.0, runs_linked c good h l k b.1 on);
  root_joins = λ l linked waits ended. joined_linked c good h l linked;
  branch_joins = λ p l i b waits ended. (b.0, joined_linked c good h l b.1);
  branch_ends = λ p l i v b ends. tt;
  waits = λ p l i b. b.0;
  awake = λ p i awake. tt;
  rested = λ p q waits on i all. tt;
}

held_of : (c : Code) (h : List Entry) (f : FlatLives) → HaveParents f → AllLinked c h f → AreHeld (IsLinked c h) (Beside c h) Nothing f
held_of c h f parents linked = record {
  root = λ l lives. linked 1 l lives;
  branches = λ n p l low other lives parent. (let up = parents n l lives other in
      let both : Some up.1.0 ≡ Some p = sym up.1.1 ∙ parent in
      let one : up.1.0 ≡ p = cc in
      (subst (λ (z : FlatLife). is_waiting z.stage ≡ true) one up.1.2, linked n l lives));
  ended = λ n p i some low high lives none. tt;
  named = λ n l lives other. (parents n l lives other).0;
}

all_of : (c : Code) (h : List Entry) (f : FlatLives) → HaveParents f → AreHeld (IsLinked c h) (Beside c h) Nothing f → AllLinked c h f
all_of c h f parents held n l lives = ⊎_elim (λ (one : n ≡ 1). held.root l (ap f (sym one) ∙ lives))
    (λ (other : n ≡ 1 → ⊥). let up = parents n l lives other in (held.branches n up.1.0 l up.0 other lives up.1.1).1) (cases_eq n 1)

-- what an entry's op writes
pub asked_writes : (m : Module) (input : List ℤ) → GoodForm m.code → (h : List Entry) (n : ℕ) (l : FlatLife) (e : Entry) → IsAsked m input h n l e → WritesIn m.code l.top e.op l.stage
asked_writes m input good h n l e a = writes_in m.code good l.top l.stage e.op (ap op_in a.wants ∙ a.event)

write_goes : (past : Bool) (answer : Answer) → answer ≡ (if past then Answer.Stop Stop.Address else Answer.Unit) → stops answer ≡ false → answer ≡ Answer.Unit
write_goes true answer is goes = (let clash : true ≡ false = ap stops (sym is) ∙ goes in cc)
write_goes false answer is goes = is

-- a link write that goes on is answered by nothing
link_answer : (m : Module) (input : List ℤ) → GoodForm m.code → (h : List Entry) (n : ℕ) (l : FlatLife) (e : Entry) → IsAsked m input h n l e → stops e.answer ≡ false → (x : FlatActivation) → l.stage ≡ Stage.Entering x → e.answer ≡ Answer.Unit
link_answer m input good h n l e a goes x entering =
    let t = subst (WritesIn m.code l.top e.op) entering (asked_writes m input good h n l e a) in
    write_goes (nat_le (memory_words m.size) x.stack.base) e.answer (subst (λ o. IsAnswer m input h n (room_in l.top.stack) o e.answer) t.is a.answer) goes

pub record AreLinksOf (c : Code) (h : List Entry) (f : FlatLives) : Type 0 where
  pub linked : AllLinked c h f
  pub tell : AllTell c h

module _ (m : Module) (input : List ℤ) (good : GoodForm m.code) where
  tell_more : (h : List Entry) (n : ℕ) (l : FlatLife) (e : Entry) → IsAsked m input h n l e → AllTell m.code h → AllTell m.code (e ∷ h)
  tell_more h n l e a tell = ((λ w d v is calls. itself m.code l.top e.op l.stage (asked_writes m input good h n l e a) w d v is calls), tell)

  pub links_along : (h : List Entry) (f : FlatLives) (d : Option ℕ) → IsRunTree m input h f d → AreLinksOf m.code h f
  links_along h f d (begins f2 d2 tree b) = record {
    linked = all_of m.code [] f tree.threads.parents (begun_holds flat_meaning m.code (IsLinked m.code []) (Beside m.code []) Nothing good (linked_rule m.code good []) (root_stack m) f d b
        (first_linked m.code [] (root_of flat_meaning m.code (root_stack m)).top [] refl));
    tell = tt;
  }
  links_along h g b (feeds old e n reply f g2 d b2 chain tree fed awake moved told) =
      let was = tree_of flat_meaning m.code (root_stack m) (run_says m input) old f d chain in
      let before = links_along old f d chain in
      let alone = no_branches f was.threads.parents n fed.life fed.lived awake in
      let writes = asked_writes m input good old n fed.life e told.asked in
      let up = lifted m.code _ _ old e f was.threads.parents (shares_along m input good old f d chain) n fed.life fed.lived alone awake writes before.linked in
      let next = answered_linked m.code good old e fed.life reply writes (link_answer m input good old n fed.life e told.asked told.goes) (up n fed.life fed.lived) in
      record {
        linked = all_of m.code (e ∷ old) g tree.threads.parents (fed_holds flat_meaning m.code (IsLinked m.code (e ∷ old)) (Beside m.code (e ∷ old)) Nothing (linked_rule m.code good (e ∷ old)) n f g d b reply
            (nobody_zero flat_meaning m.code f was) (no_zero flat_meaning m.code f n fed.life was.threads fed.lived) fed alone
            (record { root = λ linked. next; branch = λ p i beside. (beside.0, next); ended = λ i. tt }) (λ i. tt) (held_of m.code (e ∷ old) f was.threads.parents up));
        tell = tell_more old n fed.life e told.asked before.tell;
      }
  links_along h g b (forks old e n stacks f g2 d b2 chain tree forked awake told shares some join entries is count few) =
      let was = tree_of flat_meaning m.code (root_stack m) (run_says m input) old f d chain in
      let before = links_along old f d chain in
      let alone = no_branches f was.threads.parents n forked.life forked.lived awake in
      let up = lifted m.code _ _ old e f was.threads.parents (shares_along m input good old f d chain) n forked.life forked.lived alone awake (asked_writes m input good old n forked.life e told.asked) before.linked in
      record {
        linked = all_of m.code (e ∷ old) g tree.threads.parents (forked_holds flat_meaning m.code (IsLinked m.code (e ∷ old)) (Beside m.code (e ∷ old)) Nothing (linked_rule m.code good (e ∷ old)) n f g d b stacks
            (nobody_zero flat_meaning m.code f was) forked alone was.threads.parents some few (λ linked. linked) (λ p i beside. beside) begin (λ i past. tt) (λ i j q listed. tt) (held_of m.code (e ∷ old) f was.threads.parents up));
        tell = tell_more old n forked.life e told.asked before.tell;
      }
    where
      begin : (i : ℕ) (q : FlatLife) → slice_get forked.branches i ≡ Some q → Beside m.code (e ∷ old) (at_fork forked.life) (suc i) q
      begin i q listed =
          let within = slice_get_within forked.branches i q listed in
          let same = forked.begin.count in
          let t = some_at stacks i (omega (arith, within, same)) in (
            refl,
            runs_linked m.code good (e ∷ old) (branch_of flat_meaning m.code forked.life (i + 1) t.0) q
                (first_linked m.code (e ∷ old) (branch_of flat_meaning m.code forked.life (i + 1) t.0).top [] refl) (forked.begin.each i t.0 q t.1 listed),
          )
  links_along h f d (halts old e n l f2 d2 chain lives awake stopped) =
      let was = tree_of flat_meaning m.code (root_stack m) (run_says m input) old f d chain in
      let before = links_along old f d chain in
      record {
        linked = lifted m.code _ _ old e f was.threads.parents (shares_along m input good old f d chain) n l lives (no_branches f was.threads.parents n l lives awake) awake (asked_writes m input good old n l e stopped.asked) before.linked;
        tell = tell_more old n l e stopped.asked before.tell;
      }
  links_along h g b (sticks old e n f g2 d b2 chain tree stuck awake stays) = absurd stays
