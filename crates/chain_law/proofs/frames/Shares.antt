-- Frames stand in shares along the chain of a run.
use Rattle.std.proofs.Common.{◌≡◌, ℕ, zero, suc, ◌+◌, ◌-◌, ◌*◌, ◌/◌, ◌≤◌, ◌<◌, List, [], ◌∷◌, length, Bool, true, false, refl, Option, Some, None, arith, sym, ◌∙◌, ap, subst}
use Rattle.std.specs.Prelude.{ℤ, slice_get, nat_eq, if◌then◌else◌}
use Rattle.std.proofs.lemmas.Bool.{eqb-true}
use Rattle.std.proofs.lemmas.Option.{slice_get_within}
use Rattle.tac_ir.specs.declared.code.Code.{Code}
use Rattle.tac_ir.specs.declared.code.Fun.{Fun}
use Rattle.tac_ir.specs.declared.code.Instr.{Instr}
use Rattle.tac_ir.specs.declared.module.Size.{Size}
use Rattle.tac_ir.specs.declared.run.Answer.{Answer}
use Rattle.tac_ir.specs.declared.run.Op.{Op}
use Rattle.tac_ir.specs.declared.run.Entry.{Entry}
use Rattle.tac_ir.specs.Module.{Module}
use Rattle.tac_ir.specs.Layout.{frame_words, memory_words, stack_from}
use Rattle.tac_ir.specs.Edges.{calls_fun}
use Rattle.tac_ir.specs.GoodForm.{GoodForm}
use Rattle.tac_thread.specs.declared.flat.FlatStack.{FlatStack}
use Rattle.tac_thread.specs.declared.guest.Stage.{Stage}
use Rattle.tac_thread.specs.declared.want.Want
use Rattle.tac_thread.specs.declared.want.ReplyOf.{ReplyOf}
use Rattle.tac_thread.specs.Life.{instr_of}
use Rattle.tac_thread.specs.Doing.{asked, doing, link_write, want_at, want_of}
use Rattle.tac_thread.specs.Answered.{answered, joined, IsReplyTo}
use Rattle.tac_thread.specs.RunsOn.{RunsOn}
use Rattle.tac_thread.specs.Begun.{root_of, branch_of}
use Rattle.tac_thread.specs.Flat.{flat_meaning, with_frame, with_share}
use Rattle.tac_thread.specs.Threads.{at_fork}
use Rattle.path_law.specs.Asked.{op_of, Tells}
use Rattle.path_law.specs.Standing.{FlatLife}
use Rattle.path_law.specs.Begins.{root_stack}
use Rattle.path_law.specs.Told.{IsTold}
use Rattle.path_law.specs.InPlace.{FlatLives}
use Rattle.path_law.specs.Alive.{AreShares}
use Rattle.tree_law.specs.tools.Held.{HoldsOn}
use Rattle.tree_law.specs.tools.Kept.{HoldsUnder, IsKeptAlong}
use Rattle.tree_law.proofs.lives.Moving.{answered_moves}
use Rattle.tree_law.proofs.lives.Placing.{Nothing}
use Rattle.tree_law.proofs.trees.Along.{kept_along}
use Rattle.chain_law.specs.RunTree.{run_says, IsRunTree}
use Rattle.chain_law.specs.Frames.{IsStacked, branches_at, share_of, IsShareOf, AreShared}
use Rattle.chain_law.proofs.frames.Stacked.{Fits, moves_stacked, runs_stacked, joined_stacked, begin_stacked}

to_share : (c : Code) (p l k : FlatLife) (i : ℕ) → ((lo hi : ℕ) → IsStacked c lo hi l → IsStacked c lo hi k) → IsShareOf c p i l → IsShareOf c p i k
to_share c p l k i goes b = record { waits = b.waits; low = b.low; high = b.high; stacked = goes (p.top.stack.top + (i - 1) * share_of c p) (p.top.stack.top + i * share_of c p) b.stacked }

shared_rule : (c : Code) → GoodForm c → (lo hi : ℕ) → HoldsOn flat_meaning c (IsStacked c lo hi) (IsShareOf c) Nothing
shared_rule c good lo hi = record {
  root_runs = λ l k h on. runs_stacked c good lo hi l k h on;
  branch_runs = λ p l k i b on. to_share c p l k i (λ a z h. runs_stacked c good a z l k h on) b;
  root_joins = λ l h waits ended. joined_stacked c good lo hi l h waits;
  branch_joins = λ p l i b waits ended. to_share c p l (joined c l) i (λ a z h. joined_stacked c good a z l h waits) b;
  branch_ends = λ p l i v b ends. tt;
  waits = λ p l i b. b.waits;
  awake = λ p i awake. tt;
  rested = λ p q waits on i all. tt;
}

-- Who is told a stack called a function, and it has the frame of that.

stack_call : (c : Code) (w : Want.Want ℕ) (s : FlatStack) → IsReplyTo flat_meaning c w (ReplyOf.Stack s) → (g : ℕ) × (w ≡ Want.Want.Call g)
stack_call c (Want.Want.Call g) s kind = (g, refl)
stack_call c w s kind = absurd kind

call_tells : (c : Code) (s t : FlatStack) (g : ℕ) (answer : Answer) → Tells c s (Op.Call g) answer (ReplyOf.Stack t) → with_frame (frame_words c g) s ≡ Some t
call_tells c s t g Answer.Unit tells = tells
call_tells c s t g (Answer.Value v) tells = absurd tells
call_tells c s t g (Answer.Stop stop) tells = absurd tells

called_is : (c : Code) (l : FlatLife) (f g : ℕ) → want_of flat_meaning c l ≡ Some (Want.Want.Call f) → calls_fun g (instr_of c l.top) ≡ true → f ≡ g
called_is c l f g wants call = by l.stage wants
  where
    ready : (i : Instr) → asked (doing flat_meaning c l.top i) ≡ Some (Want.Want.Call f) → calls_fun g i ≡ true → f ≡ g
    ready (Instr.Call to h d args) z is = (let same : h ≡ f = cc in sym same ∙ sym (eqb-true g h is))
    ready i z is = cc

    link : (i : Instr) (o : Option ℕ) → link_write {V = ℕ} i o ≡ Some (Want.Want.Call f) → f ≡ g
    link (Instr.Call to h d args) (Some w) e = cc
    link (Instr.Call to h d args) None e = cc
    link i o e = cc

    by : (s : Stage ℕ FlatStack) → want_at flat_meaning c l.top s ≡ Some (Want.Want.Call f) → f ≡ g
    by Stage.Ready z = ready (instr_of c l.top) z call
    by (Stage.Entering callee) z = link (instr_of c l.top) (flat_meaning.link callee.stack) z
    by (Stage.Leaving v) z = cc
    by Stage.Waiting z = cc

told_fits : (c : Code) (l : FlatLife) (e : Entry) (reply : ReplyOf ℕ FlatStack) → IsTold c l e reply → Fits c l reply
told_fits c l e reply told g s is call =
    let k = stack_call c told.want s (subst (IsReplyTo flat_meaning c told.want) is told.kind) in
    let ops : Some (Op.Call k.0) ≡ Some e.op = ap op_of (sym k.1) ∙ told.event in
    let op : Op.Call k.0 ≡ e.op = cc in
    let same = called_is c l k.0 g (told.wants ∙ ap Some k.1) call in
    let tells : Tells c l.top.stack (Op.Call k.0) e.answer (ReplyOf.Stack s) =
    subst (λ o. Tells c l.top.stack o e.answer (ReplyOf.Stack s)) (sym op) (subst (Tells c l.top.stack e.op e.answer) is told.tells) in
    subst (λ z. with_frame (frame_words c z) l.top.stack ≡ Some s) same (call_tells c l.top.stack s k.0 e.answer tells)

-- Branches.

share_is : (words : ℕ) (s t : FlatStack) (i : ℕ) → with_share words s i ≡ Some t → (t.top ≡ s.top + (i - 1) * words) × (t.«end» ≡ s.top + i * words)
share_is words s t i is = by (nat_eq words 0) is
  where
    by : (b : Bool) → (if b then None else Some (record { base = s.base; top = s.top + (i - 1) * words; «end» = s.top + i * words })) ≡ Some t → (t.top ≡ s.top + (i - 1) * words) × (t.«end» ≡ s.top + i * words)
    by true z = cc
    by false z =
        let one : record { base = s.base; top = s.top + (i - 1) * words; «end» = s.top + i * words } ≡ t = cc in
        (ap (λ (w : FlatStack). w.top) (sym one), ap (λ (w : FlatStack). w.«end») (sym one))

begins_shared : (c : Code) → GoodForm c → (l : FlatLife) (stacks : List FlatStack) → AreShares l.top.stack stacks → (join : ℕ) (entries : List ℕ) → instr_of c l.top ≡ Instr.Fork join entries → length entries ≡ length stacks
    → (i : ℕ) (t : FlatStack) (b : FlatLife) → slice_get stacks i ≡ Some t → RunsOn flat_meaning c (branch_of flat_meaning c l (i + 1) t) b → IsShareOf c (at_fork l) (suc i) b
begins_shared c good l stacks shares join entries is count i t b listed on =
    let within = slice_get_within stacks i t listed in
    let many : branches_at (instr_of c l.top) ≡ length stacks = ap branches_at is ∙ count in
    let words = (l.top.stack.«end» - l.top.stack.top) / length stacks in
    let share : share_of c (at_fork l) ≡ words = ap (λ z. (l.top.stack.«end» - l.top.stack.top) / z) many in
    let place = share_is words l.top.stack t (suc i) (shares i t listed) in
    let lo = l.top.stack.top + (suc i - 1) * share_of c (at_fork l) in
    let hi = l.top.stack.top + suc i * share_of c (at_fork l) in
    let low : t.top ≡ l.top.stack.top + (suc i - 1) * share_of c (at_fork l) = place.0 ∙ ap (λ z. l.top.stack.top + (suc i - 1) * z) (sym share) in
    let high : t.«end» ≡ l.top.stack.top + suc i * share_of c (at_fork l) = place.1 ∙ ap (λ z. l.top.stack.top + suc i * z) (sym share) in
    record {
      waits = refl;
      low = omega arith;
      high = omega (arith, within, many);
      stacked = runs_stacked c good lo hi (branch_of flat_meaning c l (i + 1) t) b
          (begin_stacked c lo hi (branch_of flat_meaning c l (i + 1) t) refl refl low high (ordered (share_of c (at_fork l)))) on;
    }
  where
    ordered : (w : ℕ) → l.top.stack.top + (suc i - 1) * w ≤ l.top.stack.top + suc i * w
    ordered w =
        let back : (suc i - 1) * w ≡ i * w = (let one : suc i - 1 ≡ i = omega arith in ap (λ z. z * w) one) in
        let more : suc i * w ≡ i * w + w = omega arith in
        omega (arith, back, more)

-- The chain.

-- main's frame fits into the memory
pub root_fits : (m : Module) → GoodForm m.code → (root_stack m).top ≤ memory_words m.size
root_fits m good = by (slice_get m.code.funs m.code.main) refl
  where
    sized : (w : ℕ) → w ≤ 4096 → (s : Size) → stack_from s + w ≤ memory_words s
    sized w small Size.Small = omega (arith, small)
    sized w small Size.Large = omega (arith, small)

    by : (o : Option Fun) → slice_get m.code.funs m.code.main ≡ o → stack_from m.size + frame_words m.code m.code.main ≤ memory_words m.size
    by None is = absurd (none m.code.funs m.code.main good.funs.main is)
      where
        none : (xs : List Fun) (k : ℕ) → k < length xs → slice_get xs k ≡ None → ⊥
        none [] k within z = omega (arith, within)
        none (x ∷ xs) zero within z = cc
        none (x ∷ xs) (suc k) within z = none xs k (omega (arith, within)) z
    by (Some fun) is = sized (frame_words m.code m.code.main) (good.funs.frames m.code.main fun is).words m.size

shared_kept : (m : Module) (input : List ℤ) → GoodForm m.code → IsKeptAlong flat_meaning m.code (root_stack m) (run_says m input) (IsStacked m.code (root_stack m).top (memory_words m.size)) (IsShareOf m.code) Nothing
shared_kept m input good = record {
  rule = shared_rule m.code good (root_stack m).top (memory_words m.size);
  begins = begin_stacked m.code (root_stack m).top (memory_words m.size) (root_of flat_meaning m.code (root_stack m)) refl refl refl refl (root_fits m good);
  answers = λ h e n l reply told awake moved. under l (answered flat_meaning m.code l reply)
      (λ lo hi s. moves_stacked m.code lo hi reply l (answered flat_meaning m.code l reply) (answered_moves flat_meaning m.code good l reply) (told_fits m.code l e reply told.told) s);
  forks = λ h e n l stacks told shares awake join entries is count few. record {
    waits = under l (at_fork l) (λ lo hi s. record { stands = s.stands; enters = tt });
    begins = begins_shared m.code good l stacks shares join entries is count;
    beyond = λ i past. tt;
  };
  sticks = λ h e n l stuck awake. absurd stuck;
}
  where
    under : (l k : FlatLife) → ((lo hi : ℕ) → IsStacked m.code lo hi l → IsStacked m.code lo hi k) → HoldsUnder (IsStacked m.code (root_stack m).top (memory_words m.size)) (IsShareOf m.code) l k
    under l k goes = record { root = goes (root_stack m).top (memory_words m.size); branch = λ p i b. to_share m.code p l k i goes b }

pub shares_along : (m : Module) (input : List ℤ) → GoodForm m.code → (h : List Entry) (f : FlatLives) (d : Option ℕ) → IsRunTree m input h f d → AreShared m.code (root_stack m).top (memory_words m.size) f
shares_along m input good h f d chain =
    let held = kept_along flat_meaning m.code good (root_stack m) (run_says m input) (IsStacked m.code (root_stack m).top (memory_words m.size)) (IsShareOf m.code) Nothing (shared_kept m input good) h f d chain in
    record { root = held.root; branches = held.branches }
