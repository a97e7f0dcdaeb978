-- Along a run each thread in front of a covered read knows, so each core run is lawful.
use Rattle.std.proofs.Common.{◌≡◌, ℕ, zero, suc, ◌+◌, ◌-◌, ◌*◌, ◌/◌, ◌%◌, ◌≤◌, ◌<◌, ◌⊎◌, inl, inr, Bool, true, false, List, [], ◌∷◌, ◌++◌, length, reverse, refl, sym, ap, ◌∙◌, subst, arith, Option, Some, None, ⊎_elim, not}
use Rattle.std.specs.Prelude.{ℤ, ◌&&◌, nat_eq, nat_le, slice_get, if◌then◌else◌}
use Rattle.std.proofs.lemmas.Bool.{eq-eqb, leb-true, cases_eq}
use Rattle.dfi_base.specs.declared.numbers.DefNo.{DefNo}
use Rattle.dfi_base.specs.declared.numbers.Point.{Point}
use Rattle.tac_ir.specs.declared.code.Code.{Code}
use Rattle.tac_ir.specs.declared.code.Instr.{Instr}
use Rattle.tac_ir.specs.declared.code.Place.{Place}
use Rattle.tac_ir.specs.declared.run.Op.{Op}
use Rattle.tac_ir.specs.declared.run.Answer.{Answer}
use Rattle.tac_ir.specs.declared.run.Stop.{Stop}
use Rattle.tac_ir.specs.declared.run.Entry.{Entry}
use Rattle.tac_ir.specs.declared.run.Journal.{Journal}
use Rattle.tac_ir.specs.Module.{Module}
use Rattle.tac_ir.specs.Words.{int_of}
use Rattle.tac_ir.specs.Edges.{calls_fun}
use Rattle.tac_ir.specs.Numbers.{new_def}
use Rattle.tac_ir.specs.GoodForm.{GoodForm, all_targets_of}
use Rattle.tac_ir.specs.Layout.{lines_of, instr_at, place_word, memory_words}
use Rattle.tac_ir.specs.Last.{Written, last_write, write_to}
use Rattle.tac_ir.specs.Lawful.{IsLawfulRead, IsNoAlarm, EndsWithoutAlarm, IsLawful, Lawful}
use Rattle.tac_ir.specs.Path.{stops, calls_in}
use Rattle.tac_ir.specs.Answers.{class_of, is_checked, is_allowed, read_answer, write_answer, IsAnswer}
use Rattle.tac_ir.specs.CoreRun.{GoesOn, Follows, IsHistory, CoreRun}
use Rattle.tac_ir.proofs.Checked.{read_lawful}
use Rattle.tac_ir.proofs.Numbering.{has_line, within_funs}
use Rattle.tac_thread.specs.declared.flat.FlatStack.{FlatStack}
use Rattle.tac_thread.specs.declared.guest.Stage.{Stage}
use Rattle.tac_thread.specs.declared.doing.Doing.{Doing}
use Rattle.tac_thread.specs.declared.want.ReplyOf.{ReplyOf}
use Rattle.tac_thread.specs.declared.want.Want.{Want}
use Rattle.tac_thread.specs.Meaning.{divides_by_zero}
use Rattle.tac_thread.specs.tools.Fetched.{instr_in}
use Rattle.tac_thread.specs.Life.{instr_of, temp}
use Rattle.tac_thread.specs.Doing.{doing, asked, given, tested, link_write, want_at, want_of}
use Rattle.tac_thread.specs.RunsOn.{RunsOn}
use Rattle.tac_thread.specs.Begun.{root_of, branch_of, entry_of}
use Rattle.tac_thread.specs.Answered.{answered, answered_first, answered_at, returned, returns, behind_call, back_at, IsReplyTo}
use Rattle.tac_thread.specs.Flat.{flat_meaning}
use Rattle.tac_thread.specs.Threads.{changed, is_waiting, nobody, at_fork, HasParent}
use Rattle.tac_thread.proofs.Trees.{running_is, changed_here, changed_other}
use Rattle.path_law.specs.Asked.{op_of}
use Rattle.path_law.specs.Standing.{FlatLife, FlatActivation, IsCall, AreCallers, StandsIn, point_of}
use Rattle.path_law.specs.Begins.{root_stack}
use Rattle.path_law.specs.Wants.{room_in}
use Rattle.path_law.specs.InPlace.{FlatLives}
use Rattle.path_law.specs.Alive.{AreAlive}
use Rattle.path_law.proofs.Returns.{back_is_call}
use Rattle.lawful_law.specs.Covered.{IsNamed, AreCovered}
use Rattle.lawful_law.specs.tools.Knows.{Knows, LifeKnows, Keeps, Does}
use Rattle.std.proofs.lemmas.Option.{slice_get_within}
use Rattle.tac_ir.proofs.regions.Outside.{front_is}
use Rattle.tree_law.specs.Chain.IsTreeAfter.{begins, feeds, forks, halts, sticks}
use Rattle.tree_law.specs.tools.Held.{AreHeld, HoldsOn}
use Rattle.tree_law.proofs.lives.Placing.{Nothing, places_along}
use Rattle.tree_law.proofs.trees.Along.{tree_of, nobody_zero, no_branches, begun_holds}
use Rattle.tree_law.proofs.trees.Ancestors.{HaveParents}
use Rattle.tree_law.proofs.trees.Changed.{some_at, which}
use Rattle.tree_law.proofs.trees.Keeping.{settles_hold, forked_holds}
use Rattle.chain_law.specs.RunTree.{IsAsked, run_says, IsRunTree}
use Rattle.chain_law.proofs.histories.Chained.{IsHere, chain_of, goes_alive, is_here}
use Rattle.live_law.proofs.Points.{points_along}
use Rattle.lawful_law.specs.Laws.{CoveredRunsAreLawful}
use Rattle.lawful_law.proofs.Knowing.{at_target, at_first}
use Rattle.lawful_law.proofs.Silent.{Stuck, stuck_knows, idle, runs_keep, join_keep}
use Rattle.lawful_law.proofs.Entry.{own_of, own_knows}
use Rattle.lawful_law.proofs.Reading.{past_or, known_read}

-- the fold speaks of each life alone
abbrev Beside : Module → List Entry → FlatLife → ℕ → FlatLife → Type 0
Beside m h p i l = (is_waiting p.stage ≡ true) × Keeps m h l

keeps_rule : (m : Module) (h : List Entry) → HoldsOn flat_meaning m.code (Keeps m h) (Beside m h) Nothing
keeps_rule m h = record {
  root_runs = λ l k. runs_keep m h l k;
  branch_runs = λ p l k i b on. (b.0, runs_keep m h l k b.1 on);
  root_joins = λ l keeps waits ended. join_keep m h l keeps;
  branch_joins = λ p l i b waits ended. (b.0, join_keep m h l b.1);
  branch_ends = λ p l i v b ends. tt;
  waits = λ p l i b. b.0;
  awake = λ p i awake. tt;
  rested = λ p q waits on i all. tt;
}

abbrev pub AllKeep : Module → List Entry → FlatLives → Type 0
AllKeep m h f = (n : ℕ) (l : FlatLife) → f n ≡ Some l → Keeps m h l

held_of : (m : Module) (h : List Entry) (f : FlatLives) → HaveParents f → AllKeep m h f → AreHeld (Keeps m h) (Beside m h) Nothing f
held_of m h f parents all = record {
  root = λ l lives. all 1 l lives;
  branches = λ n p l low other lives parent. (let up = parents n l lives other in
      let both : Some up.1.0 ≡ Some p = sym up.1.1 ∙ parent in
      let one : up.1.0 ≡ p = cc in
      (subst (λ (z : FlatLife). is_waiting z.stage ≡ true) one up.1.2, all n l lives));
  ended = λ n p i some low high lives none. tt;
  named = λ n l lives other. (parents n l lives other).0;
}

all_of : (m : Module) (h : List Entry) (f : FlatLives) → HaveParents f → AreHeld (Keeps m h) (Beside m h) Nothing f → AllKeep m h f
all_of m h f parents held n l lives = ⊎_elim (λ (one : n ≡ 1). held.root l (ap f (sym one) ∙ lives))
    (λ (other : n ≡ 1 → ⊥). let up = parents n l lives other in (held.branches n up.1.0 l up.0 other lives up.1.1).1) (cases_eq n 1)

-- a thread that runs may become another life: nobody waits for branches of it
parents_changed : (f g : FlatLives) → HaveParents f → (n : ℕ) (l k : FlatLife) → f n ≡ Some l → is_waiting l.stage ≡ false → ((j : ℕ) → g j ≡ changed f n (Some k) j) → HaveParents g
parents_changed f g parents n l k lives awake is j q there other =
    ⊎_elim (λ (a : (j ≡ n) × (k ≡ q)). up j l (ap f a.0 ∙ lives)) (λ (a : (j ≡ n → ⊥) × (f j ≡ Some q)). up j q a.1) (which f n j k q (sym (is j) ∙ there))
  where
    above_other : (i : ℕ) (p : FlatLife) → f i ≡ Some p → is_waiting p.stage ≡ true → i ≡ n → ⊥
    above_other i p at waits same =
        let both : Some p ≡ Some l = sym at ∙ ap f same ∙ lives in
        let one : p ≡ l = cc in
        let clash : true ≡ false = sym waits ∙ ap (λ (z : FlatLife). is_waiting z.stage) one ∙ awake in
        cc

    up : (i : ℕ) (z : FlatLife) → f j ≡ Some z → HasParent g j
    up i z at =
        let h = parents j z at other in
        (h.0, (h.1.0, is (j / 16) ∙ changed_other f n (Some k) (j / 16) (above_other (j / 16) h.1.0 h.1.1 h.1.2) ∙ h.1.1, h.1.2))

module _ (m : Module) (input : List ℤ) (good : GoodForm m.code) (covered : AreCovered m) where
  -- while a thread runs, nobody else who runs stands in front of a covered read
  others_keep : (h g : List Entry) (f : FlatLives) (d : Option ℕ) → IsRunTree m input h f d → (n : ℕ) (l : FlatLife) → f n ≡ Some l → is_waiting l.stage ≡ false
      → (k : ℕ) (q : FlatLife) → (k ≡ n → ⊥) → f k ≡ Some q → Keeps m g q
  others_keep h g f d tree n l lives awake k q other there running =
      idle m g good q (point_of l.top) (points_along flat_meaning m.code good (root_stack m) (run_says m input) h f d tree k n q l other there lives running awake)

  pub knows_along : (h : List Entry) (f : FlatLives) (d : Option ℕ) → IsRunTree m input h f d → GoesOn h → IsHistory m input h → AllKeep m h f
  unfolding IsHistory
  knows_along h f d (begins f2 d2 tree b) going history =
      all_of m [] f tree.threads.parents (begun_holds flat_meaning m.code (Keeps m []) (Beside m []) Nothing good (keeps_rule m []) (root_stack m) f d b (λ awake. at_first m [] m.code.main (root_stack m).base))
  knows_along h g b (feeds old e n reply f g2 d b2 chain tree fed awake moved told) going history =
      let was = tree_of flat_meaning m.code (root_stack m) (run_says m input) old f d chain in
      let knew = knows_along old f d chain history.0.going history.1 n fed.life fed.lived awake in
      all_of m (e ∷ old) g tree.threads.parents (settles_hold flat_meaning m.code (Keeps m (e ∷ old)) (Beside m (e ∷ old)) Nothing (keeps_rule m (e ∷ old)) n fed.lives g d b
      (none_zero was.threads.parents) fed.settles (held_of m (e ∷ old) fed.lives (parents_changed f fed.lives was.threads.parents n fed.life fed.next fed.lived awake fed.changes) (now knew)))
    where
      none_zero : HaveParents f → fed.lives 0 ≡ None
      none_zero parents = by (fed.lives 0) refl
        where
          by : (o : Option FlatLife) → fed.lives 0 ≡ o → fed.lives 0 ≡ None
          by None is = is
          by (Some q) is = (let h = (parents_changed f fed.lives parents n fed.life fed.next fed.lived awake fed.changes 0 q is (λ z. omega (arith, z))).0 in absurd (omega (arith, h)))

      next_keeps : LifeKnows m old fed.life → Keeps m (e ∷ old) fed.next
      next_keeps knew = runs_keep m (e ∷ old) (answered flat_meaning m.code fed.life reply) fed.next
          (λ up. own_knows m input old n fed.life e (own_of m input good covered old n fed.life e told.asked told.goes) knew told.told.want reply told.told.wants told.told.event told.told.kind) fed.runs

      now : LifeKnows m old fed.life → AllKeep m (e ∷ old) fed.lives
      now knew k q there = ⊎_elim
          (λ (a : (k ≡ n) × (fed.next ≡ q)). subst (Keeps m (e ∷ old)) a.1 (next_keeps knew))
          (λ (a : (k ≡ n → ⊥) × (f k ≡ Some q)). others_keep old (e ∷ old) f d chain n fed.life fed.lived awake k q a.0 a.1)
          (which f n k fed.next q (sym (fed.changes k) ∙ there))
  knows_along h g b (forks old e n stacks f g2 d b2 chain tree forked awake told shares some join entries is count few) going history =
      let was = tree_of flat_meaning m.code (root_stack m) (run_says m input) old f d chain in
      all_of m (e ∷ old) g tree.threads.parents (forked_holds flat_meaning m.code (Keeps m (e ∷ old)) (Beside m (e ∷ old)) Nothing (keeps_rule m (e ∷ old)) n f g d b stacks
      (nobody_zero flat_meaning m.code f was) forked (no_branches f was.threads.parents n forked.life forked.lived awake) was.threads.parents some few
      (λ keeps. asleep) (λ p i beside. (beside.0, asleep)) begin (λ i past. tt) (λ i j q listed. tt) (held_of m (e ∷ old) f was.threads.parents all))
    where
      asleep : Keeps m (e ∷ old) (at_fork forked.life)
      asleep running = cc

      own_keeps : Keeps m (e ∷ old) forked.life
      own_keeps running = stuck_knows m (e ∷ old) forked.life.top.fun forked.life.top.stack.base forked.life.top.at (subst Stuck (sym is) tt)

      all : AllKeep m (e ∷ old) f
      all k q there = ⊎_elim
          (λ (same : k ≡ n). let both : Some forked.life ≡ Some q = sym forked.lived ∙ ap f (sym same) ∙ there in let one : forked.life ≡ q = cc in subst (Keeps m (e ∷ old)) one own_keeps)
          (λ (other : k ≡ n → ⊥). others_keep old (e ∷ old) f d chain n forked.life forked.lived awake k q other there)
          (cases_eq k n)

      begin : (i : ℕ) (q : FlatLife) → slice_get forked.branches i ≡ Some q → Beside m (e ∷ old) (at_fork forked.life) (suc i) q
      begin i q listed =
          let within = slice_get_within forked.branches i q listed in
          let as_many = forked.begin.count in
          let t = some_at stacks i (omega (arith, within, as_many)) in
          let entry = some_at entries i (omega (arith, within, as_many, count)) in
          let at : i + 1 - 1 ≡ i = omega arith in
          let begins_at : entry_of (instr_of m.code forked.life.top) (i + 1) ≡ entry.0 =
          ap (λ z. entry_of z (i + 1)) is ∙ ap (λ (o : Option ℕ). elim o [ None ↦ 0 | Some z ↦ z ]) (ap (slice_get entries) at ∙ entry.1) in
          let named : IsNamed (lines_of m.code forked.life.top.fun) entry.0 = (forked.life.top.at, (i, subst (λ z. slice_get (all_targets_of z) i ≡ Some entry.0) (sym is) (front_is entries (join ∷ []) i entry.0 entry.1))) in (
            refl,
            runs_keep m (e ∷ old) (branch_of flat_meaning m.code forked.life (i + 1) t.0) q
                (λ running. subst (Knows m (e ∷ old) forked.life.top.fun t.0.base) (sym begins_at) (at_target m (e ∷ old) forked.life.top.fun t.0.base entry.0 named)) (forked.begin.each i t.0 q t.1 listed),
          )
  knows_along h f d (halts old e n l f2 d2 chain lives awake stopped) going history = (let clash : true ≡ false = sym stopped.stopped ∙ going in cc)
  knows_along h g b (sticks old e n f g2 d b2 chain tree stuck awake stays) going history = absurd stays

-- Reads.

entry_lawful : (m : Module) (input : List ℤ) → AreCovered m → (h : List Entry) (f : FlatLives) (e : Entry) → AllKeep m h f → IsHere m input h f e → IsLawfulRead m h e.op e.answer
entry_lawful m input covered h f e all here = by e.op refl here.asked.answer
  where
    by : (op : Op) → e.op ≡ op → IsAnswer m input h e.name.0 (room_in here.life.top.stack) op e.answer → IsLawfulRead m h op e.answer
    by (Op.Read r w) op answer = checks (is_checked m r.0) refl
      where
        checks : (b : Bool) → is_checked m r.0 ≡ b → IsLawfulRead m h (Op.Read r w) e.answer
        checks true on = read_lawful m h r.0 w e.answer on answer
        checks false off =
            let run = running_is (f e.name.0) here.life here.runs in
            let allowed = known_read m covered h here.life r.0 w off (all e.name.0 here.life run.0) here.asked.want here.asked.wants (here.asked.event ∙ ap Some op) in
            past_or m h r.0 w (nat_le (memory_words m.size) w) (last_write m.code h w) refl refl allowed e.answer
            (answer ∙ ap (λ b. if nat_le (memory_words m.size) w then Answer.Stop Stop.Address else (if (b && not (is_allowed m r.0 (last_write m.code h w))) then Answer.Stop (Stop.Alarm (class_of m (last_write m.code h w).def)) else Answer.Value (last_write m.code h w).value)) off)
    by op is answer = tt

no_alarm : (m : Module) (op : Op) (answer : Answer) → stops answer ≡ false → IsNoAlarm m op answer
no_alarm m (Op.Read r w) (Answer.Stop (Stop.Alarm found)) goes = cc
no_alarm m op answer goes = tt

ends_without : (m : Module) (h : List Entry) → GoesOn h → EndsWithoutAlarm m h
ends_without m [] going = tt
ends_without m (e ∷ h) going = no_alarm m e.op e.answer going

pub lawful_history : (m : Module) (input : List ℤ) → GoodForm m.code → AreCovered m → (h : List Entry) → IsHistory m input h → IsLawful m h
unfolding IsHistory IsLawful
lawful_history m input good covered [] history = tt
lawful_history m input good covered (e ∷ h) history =
    let k = chain_of m input good h history.1 in
    let alive = goes_alive m h k.lives k.value history.0.going k.last in (
      entry_lawful m input covered h k.lives e (knows_along m input good covered h k.lives k.value k.chain history.0.going history.1) (is_here m input h k.lives k.value e alive history.0),
      ends_without m h history.0.going,
      lawful_history m input good covered h history.1,
    )

-- each core run is lawful, removed reads included
pub lawful_run : CoveredRunsAreLawful
lawful_run m good covered input budget j run = lawful_history m input good covered (reverse j.entries) run.history
