-- A thread of a tree that forks.
use Rattle.std.proofs.Common.{◌≡◌, ℕ, suc, ◌+◌, ◌-◌, ◌*◌, ◌≤◌, ◌<◌, List, ◌∷◌, length, get_or, refl, Option, Some, None, arith, sym, ◌∙◌, ap, subst}
use Rattle.std.specs.Prelude.{slice_get}
use Rattle.std.proofs.lemmas.Option.{slice_get-get_or}
use Rattle.dfi_base.specs.Lives.{own}
use Rattle.tac_ir.specs.declared.code.Code.{Code}
use Rattle.tac_ir.specs.declared.run.Op.{Op}
use Rattle.tac_ir.specs.declared.run.Answer.{Answer}
use Rattle.tac_ir.specs.declared.run.Entry.{Entry}
use Rattle.tac_ir.specs.Module.{Module}
use Rattle.tac_ir.specs.GoodForm.{GoodForm}
use Rattle.tac_ir.specs.Path.{Start}
use Rattle.tac_ir.specs.Threads.{forked_by, threads_of}
use Rattle.tac_thread.specs.declared.flat.FlatStack.{FlatStack}
use Rattle.tac_thread.specs.declared.guest.Stage.{Stage}
use Rattle.tac_thread.specs.declared.want.Want.{Want}
use Rattle.tac_thread.specs.declared.want.ReplyOf.{ReplyOf}
use Rattle.tac_thread.specs.Life.{instr_of}
use Rattle.tac_thread.specs.Doing.{link_write, want_at, want_of}
use Rattle.tac_thread.specs.RunsOn.{RunsOn}
use Rattle.tac_thread.specs.Begun.{branch_of}
use Rattle.tac_thread.specs.Answered.{answered_first, answered_at, answered}
use Rattle.tac_thread.specs.Threads
use Rattle.tac_thread.specs.Threads.{HasBranch, at_fork, AreBranches}
use Rattle.tac_thread.specs.Flat.{flat_meaning}
use Rattle.tac_thread.proofs.Trees.{running_is}
use Rattle.tac_thread.proofs.Forking.{few_branches, runs_alone}
use Rattle.path_law.specs.Standing.{FlatLife, StandsIn, IsAt}
use Rattle.path_law.specs.Alive.{AreAlive, IsNextTold, AreShares}
use Rattle.path_law.specs.InPlace.{FlatLives, IsInPlace, AreInPlace}
use Rattle.path_law.proofs.Laws
use Rattle.path_law.proofs.Replies.{unit_told}
use Rattle.tree_law.proofs.trees.Waking.{fork_is}
use Rattle.tree_law.proofs.trees.Waking.{runs_awake}
use Rattle.path_law.proofs.Placed.{AreLiving, no_zero}
use Rattle.path_law.proofs.Settled.{IsChanged, here_is, other_is}
use Rattle.path_law.proofs.Planted.{kept, planted_other, planted_branch}
use Rattle.path_law.proofs.Forked.{IsSprout, resumed}
use Rattle.path_law.proofs.Telling.{wants_fork}

-- a thread that is told that it has forked waits
waits_at_fork : (c : Code) (s : Start) (mine : List Entry) (l : FlatLife) (n : ℕ) → IsAt c s mine l → want_of flat_meaning c l ≡ Some (Want.Fork n) → answered flat_meaning c l ReplyOf.Unit ≡ at_fork l
waits_at_fork c s mine l n now want = by l.stage now.stands.spot want
  where
    by : (stage : Stage ℕ FlatStack) → StandsIn c s now.steps l stage → want_at flat_meaning c l.top stage ≡ Some (Want.Fork n) → answered_at flat_meaning c l stage ReplyOf.Unit ≡ at_fork l
    by Stage.Ready b want = let fork = fork_is flat_meaning c l.top n (instr_of c l.top) want in ap (λ i. answered_first flat_meaning c l i ReplyOf.Unit) fork.is
    by (Stage.Entering z) b want =
        let pushes : Some (Want.Push (record { 0 = b.def }) z.stack.base) ≡ Some (Want.Fork n) = ap (λ i. link_write i (Some z.stack.base)) (sym b.call) ∙ want in cc
    by (Stage.Leaving link) b want = cc
    by Stage.Waiting b want = cc

-- the answer of a fork
fork_count : (op : Op) (answer : Answer) (n : ℕ) → Some (Op.Fork n) ≡ Some op → answer ≡ Answer.Unit → forked_by op answer ≡ n
fork_count op answer n event told =
    let same : Op.Fork n ≡ op = cc in
    ap (λ o. forked_by o answer) (sym same) ∙ ap (forked_by (Op.Fork n)) told

-- a thread that runs has no branches
no_branch : (f : FlatLives) (n i : ℕ) → (HasBranch f n → ⊥) → 1 ≤ i → i ≤ 15 → f (16 * n + i) ≡ None
no_branch f n i alone low high = by (f (16 * n + i)) refl
  where
    by : (o : Option FlatLife) → f (16 * n + i) ≡ o → o ≡ None
    by None is = refl
    by (Some b) is = absurd (alone (i, low, high, (b, is)))

-- one branch
sprout : (m : Module) (h : List Entry) (f g : FlatLives) (life : FlatLife) (n i : ℕ) (stacks : List FlatStack) (branches : List FlatLife) → (p : IsInPlace m h n life)
    → want_of flat_meaning m.code life ≡ Some (Want.Fork (length stacks)) → AreShares life.top.stack stacks → AreBranches flat_meaning m.code life stacks branches
    → IsChanged (Threads.planted flat_meaning m.code f n 1 branches) n (Some (at_fork life)) g → (HasBranch f n → ⊥) → 1 ≤ n → length stacks ≤ 15 → i < length stacks → IsSprout m h p.start n (suc i) g
sprout m h f g life n i stacks branches p want shares begin changes alone some few within =
    let c = m.code in
    let t = get_or stacks i life.top.stack in
    let b = get_or branches i life in
    let at_stack : slice_get stacks i ≡ Some t = slice_get-get_or stacks i life.top.stack within in
    let at_branch : slice_get branches i ≡ Some b = slice_get-get_or branches i life (omega (arith, within, begin.count)) in
    let next : i + 1 ≡ suc i = omega arith in
    let ran : RunsOn flat_meaning c (branch_of flat_meaning c life (suc i) t) b = subst (λ k. RunsOn flat_meaning c (branch_of flat_meaning c life k t) b) next (begin.each i t b at_stack at_branch) in
    let spot : 16 * n + suc i ≡ 16 * n + (1 + i) = omega arith in
    record {
      life = b;
      stands = Laws.branches c p.start (own (threads_of m) n h) life b (length stacks) (suc i) t p.stands want (omega arith) (shares i t at_stack) ran;
      awake = runs_awake flat_meaning c (branch_of flat_meaning c life (suc i) t) b refl ran;
      lives = other_is (Threads.planted flat_meaning c f n 1 branches) g n (Some (at_fork life)) changes (16 * n + suc i) (λ e. omega (arith, e, some))
          ∙ ap (Threads.planted flat_meaning c f n 1 branches) spot ∙ planted_branch c branches f n 1 i b at_branch
          ∙ ap (kept c b) (no_branch f n (1 + i) alone (omega arith) (omega (arith, within, few)));
    }

pub tree_forked : (m : Module) (h : List Entry) (f g : FlatLives) (d b : Option ℕ) (e : Entry) (stacks : List FlatStack) → GoodForm m.code → AreAlive m h f d → (now : IsNextTold m f e ReplyOf.Unit)
    → e.op ≡ Op.Fork (length stacks) → AreShares now.life.top.stack stacks → Threads.IsForked flat_meaning m.code f d e.name.0 stacks g b → AreInPlace m (e ∷ h) g b
tree_forked m h f g d b e stacks good whole now op shares fork =
    let alive : AreLiving m h f = record { place = whole.place.settled; tree = whole.tree } in
    let n = e.name.0 in
    let c = m.code in
    let life = now.life in
    let found = running_is (f n) life now.runs in
    let lives = found.0 in
    let p = alive.place.threads.lives n life lives in
    let same : fork.life ≡ life = (let both : Some fork.life ≡ Some life = sym fork.lived ∙ lives in cc) in
    let is = wants_fork now.told.want (length stacks) (now.told.event ∙ ap Some op) in
    let want : want_of flat_meaning c life ≡ Some (Want.Fork (length stacks)) = now.told.wants ∙ ap Some is in
    let told = unit_told c life.top.stack e.op e.answer now.told.tells in
    let event : Some (Op.Fork (length stacks)) ≡ Some e.op = ap Some (sym op) in
    let few = few_branches flat_meaning c life (length stacks) good want in
    let some = no_zero m h f n life alive.place.threads lives in
    let alone = runs_alone flat_meaning c f n life alive.tree lives found.1 in
    let begin = subst (λ z. AreBranches flat_meaning c z stacks fork.branches) same fork.begin in
    let changes : IsChanged (Threads.planted flat_meaning c f n 1 fork.branches) n (Some (at_fork life)) fork.lives = λ k. fork.changes k ∙ ap (λ z. Threads.changed (Threads.planted flat_meaning c f n 1 fork.branches) n (Some (at_fork z)) k) same in
    resumed m h f fork.lives g e n (length stacks) life d b alive whole.place.main (record {
      name = refl;
      forks = fork_count e.op e.answer (length stacks) event told;
      few = few;
      lived = lives;
      awake = found.1;
      start = p.start;
      begins = p.begins;
      stands = subst (IsAt c p.start (e ∷ own (threads_of m) n h)) (waits_at_fork c p.start (own (threads_of m) n h) life (length stacks) p.stands want)
          (Laws.answered_at_path c p.start (own (threads_of m) n h) life e ReplyOf.Unit good p.stands now.told);
      here = here_is (Threads.planted flat_meaning c f n 1 fork.branches) fork.lives n (Some (at_fork life)) changes;
      sprouts = λ j low high. (
          let before : j ≡ suc (j - 1) = omega (arith, low) in
          subst (λ k. IsSprout m h p.start n k fork.lives) (sym before)
          (sprout m h f fork.lives life n (j - 1) stacks fork.branches p want shares begin changes alone some few (omega (arith, low, high))));
      others = λ k apart_from apart. other_is (Threads.planted flat_meaning c f n 1 fork.branches) fork.lives n (Some (at_fork life)) changes k apart_from
          ∙ planted_other c fork.branches f n 1 k (λ j low high. apart j low (omega (arith, high, begin.count)));
      alone = alone;
    }) fork.resumes
