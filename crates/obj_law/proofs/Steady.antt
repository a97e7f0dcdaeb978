-- Along the chain of an object run each life that does not wait stands ready: nothing is done of its instruction.
use Rattle.std.proofs.Common.{◌≡◌, ℕ, ◌+◌, ℤ, List, [], ◌∷◌, ◌++◌, true, false, refl, Option, Some, None, sym, ◌∙◌, ap, subst, ⊎_elim}
use Rattle.std.proofs.lemmas.Bool.{cases_eq}
use Rattle.obj_mem.specs.declared.value.Value.{Value}
use Rattle.obj_mem.specs.declared.event.Event.{Event}
use Rattle.obj_mem.specs.declared.event.SrcAnswer.{SrcAnswer}
use Rattle.obj_mem.specs.declared.event.Stamp.{Stamp}
use Rattle.tac_ir.specs.declared.code.Code.{Code}
use Rattle.tac_ir.specs.declared.code.Instr.{Instr}
use Rattle.tac_ir.specs.GoodForm.{GoodForm}
use Rattle.tac_thread.specs.declared.guest.Stage.{Stage}
use Rattle.tac_thread.specs.declared.doing.Doing.{Doing}
use Rattle.tac_thread.specs.declared.want.ReplyOf.{ReplyOf}
use Rattle.tac_thread.specs.Life.{instr_of, with_top, at_index, with_temp}
use Rattle.tac_thread.specs.Doing.{doing, done, silent_at, silent_next}
use Rattle.tac_thread.specs.Answered
use Rattle.tac_thread.specs.Answered.{answered, answered_first, joined, joined_at, returned, behind_call}
use Rattle.tac_thread.specs.Begun.{branch_of}
use Rattle.tac_thread.specs.RunsOn.{RunsOn}
use Rattle.tac_thread.specs.Threads.{is_waiting, at_fork, IsTree}
use Rattle.tree_law.specs.tools.Held.{AreHeld, HoldsOn}
use Rattle.tree_law.specs.tools.Kept.{IsKeptAlong}
use Rattle.tree_law.proofs.trees.Along.{kept_along, tree_of}
use Rattle.obj_run.specs.declared.values.ObjStack.{ObjStack}
use Rattle.obj_run.specs.Objects.{object_meaning, main_stack}
use Rattle.obj_run.specs.Asked.{reply_of}
use Rattle.obj_run.specs.Entries.{Entry, stamps_of}
use Rattle.obj_run.specs.Starts.{opening}
use Rattle.obj_run.specs.Runs.{ObjLife, ObjLives, IsTold, IsObjTree, object_says}
use Rattle.obj_law.specs.Did.{ObjActivation, Did, value_in}
use Rattle.obj_law.specs.Did.Did.{gets, loads, sets, stores, compares, news, frees, ins, lefts, outs, calls, rets, turns, forks, traps}
use Rattle.obj_law.proofs.Seeing.{seen}

abbrev pub IsSteady : ObjLife → Type 0
IsSteady l = is_waiting l.stage ≡ false → l.stage ≡ Stage.Ready

abbrev Steady : ObjLife → ℕ → ObjLife → Type 0
Steady p i l = IsSteady l × (is_waiting p.stage ≡ true)

abbrev Nothing : ObjLife → ℕ → Type 0
Nothing p i = Unit {0}

silent_steady : (c : Code) (l k : ObjLife) → silent_next object_meaning c l ≡ Some k → k.stage ≡ Stage.Ready
silent_steady c l k is = by l.stage is
  where
    did : (w : Doing Value) → done l w ≡ Some k → k.stage ≡ Stage.Ready
    did (Doing.Gives to v) z = (let one : with_top l (at_index (with_temp l.top to v) (l.top.at + 1)) ≡ k = cc in sym (ap (λ (q : ObjLife). q.stage) one))
    did (Doing.Goes t) z = (let one : with_top l (at_index l.top t) ≡ k = cc in sym (ap (λ (q : ObjLife). q.stage) one))
    did (Doing.Asks w) z = cc

    by : (s : Stage Value ObjStack) → silent_at object_meaning c l s ≡ Some k → k.stage ≡ Stage.Ready
    by Stage.Ready z = did (doing object_meaning c l.top (instr_of c l.top)) z
    by (Stage.Entering callee) z = cc
    by (Stage.Leaving link) z = cc
    by Stage.Waiting z = cc

runs_steady : (c : Code) (l k : ObjLife) → IsSteady l → RunsOn object_meaning c l k → IsSteady k
runs_steady c l k h (RunsOn.rests one rest) = h
runs_steady c l k h (RunsOn.runs first next last step on) = runs_steady c next k (λ awake. silent_steady c l next step) on

joined_steady : (c : Code) (l : ObjLife) → IsSteady l → IsSteady (joined c l)
joined_steady c l h = by (instr_of c l.top)
  where
    by : (i : Instr) → IsSteady (joined_at l i)
    by (Instr.Fork join entries) = λ awake. refl
    by i = h

steady_rule : (c : Code) → HoldsOn object_meaning c IsSteady Steady Nothing
steady_rule c = record {
  root_runs = λ l k h on. runs_steady c l k h on;
  branch_runs = λ p l k i h on. (runs_steady c l k h.0 on, h.1);
  root_joins = λ l h waits all. joined_steady c l h;
  branch_joins = λ p l i h waits all. (joined_steady c l h.0, h.1);
  branch_ends = λ p l i v h ends. tt;
  waits = λ p l i h. h.1;
  awake = λ p i asleep. tt;
  rested = λ p q waits on i all. tt;
}

-- what an answer does to a life that stands ready
module _ (c : Code) (h : List Stamp) (n : ℕ) (l : ObjLife) (ready : l.stage ≡ Stage.Ready) where
  abbrev now : Instr → ReplyOf Value ObjStack → ObjLife
  now i reply = answered_first object_meaning c l i reply

  back_steady : (v : Value) (callers : List ObjActivation) → IsSteady (returned object_meaning c l callers None v)
  back_steady v [] = λ awake. ready
  back_steady v (y ∷ callers) = λ awake. refl

  after : (i : Instr) (e : Event) (a : SrcAnswer) → Did c h n l.top i e a → IsSteady (now i (reply_of a))
  after i e a (gets to k place v was) = λ awake. refl
  after i e a (loads to x k v was) = λ awake. refl
  after i e a (sets place x d was) = λ awake. refl
  after i e a (stores x y d was) = λ awake. refl
  after i e a (compares to x y ne true was) = λ awake. refl
  after i e a (compares to x y ne false was) = λ awake. refl
  after i e a (news to x site k int) = λ awake. refl
  after i e a (frees x was) = λ awake. refl
  after i e a (ins to) = λ awake. refl
  after i e a (lefts to) = λ awake. refl
  after i e a (outs x k int) = λ awake. refl
  after i e a (calls to g def args) = λ awake. refl
  after i e a (rets x k) = back_steady (value_in l.top x) l.callers
  after i e a turns = λ awake. refl
  after i e a (forks join entries) = λ awake. cc
  after i e a (traps to x y op zero) = λ awake. ready

  after_ready : (reply : ReplyOf Value ObjStack) → now (instr_of c l.top) reply ≡ answered object_meaning c l reply
  after_ready reply = sym (ap (λ s. Answered.answered_at object_meaning c l s reply) ready)

told_steady : (c : Code) (first h : List Stamp) (n : ℕ) (l : ObjLife) (e : Entry) (reply : ReplyOf Value ObjStack) → IsTold c first h n l e reply → is_waiting l.stage ≡ false → IsSteady l
    → IsSteady (answered object_meaning c l reply)
told_steady c first h n l e reply told awake steady =
    let ready = steady awake in
    subst IsSteady (ap (λ r. answered_first object_meaning c l (instr_of c l.top) r) told.replies ∙ after_ready c (h ++ first) n l ready reply)
    (after c (h ++ first) n l ready (instr_of c l.top) e.stamp.event e.stamp.answer (seen c first h n l e ready told.asked).0)

fork_steady : (l : ObjLife) → IsSteady (at_fork l)
fork_steady l awake = cc

steady_kept : (c : Code) (input : List ℤ) → IsKeptAlong object_meaning c main_stack (object_says c (opening c input)) IsSteady Steady Nothing
steady_kept c input = record {
  rule = steady_rule c;
  begins = λ awake. refl;
  answers = λ h e n l reply told awake moved. record {
    root = λ steady. told_steady c (opening c input) (stamps_of h) n l e reply told awake steady;
    branch = λ p i b. (told_steady c (opening c input) (stamps_of h) n l e reply told awake b.0, b.1);
  };
  forks = λ h e n l stacks told shares awake join entries is count few. record {
    waits = record { root = λ steady. fork_steady l; branch = λ p i b. (fork_steady l, b.1) };
    begins = λ i s b listed on. (runs_steady c (branch_of object_meaning c l (i + 1) s) b (λ awake. refl) on, refl);
    beyond = λ i past. tt;
  };
  sticks = λ h e n l stays awake. (record { root = λ steady. fork_steady l; branch = λ p i b. (fork_steady l, b.1) }, λ i. tt);
}

pub steady : (c : Code) (input : List ℤ) → GoodForm c → (h : List Entry) (f : ObjLives) (d : Option Value) → IsObjTree c input h f d → (n : ℕ) (l : ObjLife) → f n ≡ Some l → IsSteady l
steady c input good h f d chain n l lives =
    ⊎_elim (λ (one : n ≡ 1). held.root l (ap f (sym one) ∙ lives))
    (λ (other : n ≡ 1 → ⊥). let up = tree.threads.parents n l lives other in (held.branches n up.1.0 l up.0 other lives up.1.1).0) (cases_eq n 1)
  where
    tree : IsTree object_meaning c f
    tree = tree_of object_meaning c main_stack (object_says c (opening c input)) h f d chain

    held : AreHeld IsSteady Steady Nothing f
    held = kept_along object_meaning c good main_stack (object_says c (opening c input)) IsSteady Steady Nothing (steady_kept c input) h f d chain
