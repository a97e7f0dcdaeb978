-- Each branch begins on the frame of its parent.
use Rattle.std.proofs.Common.{◌≡◌, ℕ, ◌+◌, ℤ, List, [], ◌∷◌, true, refl, Option, Some, sym, ◌∙◌, subst}
use Rattle.std.specs.Prelude.{slice_get, get_or}
use Rattle.std.specs.List.{All}
use Rattle.std.proofs.lemmas.Option.{slice_get_within, slice_get-get_or}
use Rattle.obj_mem.specs.declared.value.Value.{Value}
use Rattle.tac_ir.specs.declared.code.Code.{Code}
use Rattle.tac_ir.specs.GoodForm.{GoodForm}
use Rattle.tac_thread.specs.declared.want.ReplyOf.{ReplyOf}
use Rattle.tac_thread.specs.Answered.{answered, joined}
use Rattle.tac_thread.specs.Begun.{branch_of}
use Rattle.tac_thread.specs.RunsOn.{RunsOn}
use Rattle.tac_thread.specs.Threads.{is_waiting}
use Rattle.tree_law.specs.Moves.{Moves}
use Rattle.tree_law.specs.Moves.Moves.{goes_on, to_enter, enters_now, enters, leaves, stays}
use Rattle.tree_law.specs.tools.Held.{HoldsOn}
use Rattle.tree_law.specs.tools.Kept.{IsKeptAlong}
use Rattle.tree_law.proofs.lives.Moving.{answered_moves}
use Rattle.tree_law.proofs.lives.Silent.{runs_keep, joined_is}
use Rattle.tree_law.proofs.trees.Along.{kept_along}
use Rattle.obj_run.specs.declared.values.ObjStack.{ObjStack}
use Rattle.obj_run.specs.Objects.{object_meaning, main_stack}
use Rattle.obj_run.specs.Entries.{Entry}
use Rattle.obj_run.specs.Starts.{opening}
use Rattle.obj_run.specs.Runs.{ObjLife, ObjLives, IsObjTree, object_says}
use Rattle.obj_law.specs.Did.{ObjActivation}
use Rattle.obj_law.specs.Frames.{first_of, FramesAreShared}

abbrev On : ObjStack → ObjActivation → List ObjActivation → Type 0
On s x callers = (first_of x callers).stack ≡ s

restack : (s : ObjStack) (x y : ObjActivation) (callers : List ObjActivation) → y.stack ≡ x.stack → On s x callers → On s y callers
restack s x y [] same h = same ∙ h
restack s x y (z ∷ callers) same h = h

moves_on : (c : Code) (s : ObjStack) (reply : ReplyOf Value ObjStack) (l k : ObjLife) → Moves object_meaning c reply l k → On s l.top l.callers → On s k.top k.callers
moves_on c s reply l k (goes_on k2 go) h = subst (On s k.top) (sym go.callers) (restack s l.top k.top l.callers go.onward.stack h)
moves_on c s reply l k (to_enter k2 callee is top below stage) h = subst (λ x. On s x k.callers) (sym top) (subst (On s l.top) (sym below) h)
moves_on c s reply l k (enters_now k2 callee is top below stage) h = subst (On s k.top) (sym below) h
moves_on c s reply l k (enters k2 callee stage top below plain) h = subst (On s k.top) (sym below) h
moves_on c s reply l k (leaves k2 y callers left) h = subst (On s k.top) (sym left.below) (restack s y k.top callers left.onward.stack (subst (On s l.top) left.called_by h))
moves_on c s reply l k (stays k2 top below stage) h = subst (λ x. On s x k.callers) (sym top) (subst (On s l.top) (sym below) h)

runs_on : (c : Code) → GoodForm c → (s : ObjStack) (l k : ObjLife) → On s l.top l.callers → RunsOn object_meaning c l k → On s k.top k.callers
runs_on c good s l k h on =
    runs_keep object_meaning c good (λ x. On s x.top x.callers) (λ x y go held. subst (On s y.top) (sym go.callers) (restack s x.top y.top x.callers go.onward.stack held)) l k h on

joined_on : (c : Code) → GoodForm c → (s : ObjStack) (l : ObjLife) → On s l.top l.callers → On s (joined c l).top (joined c l).callers
joined_on c good s l h = (let j = joined_is c good l in subst (On s (joined c l).top) (sym j.callers) (restack s l.top (joined c l).top l.callers j.onward.stack h))

abbrev Root : ObjLife → Type 0
Root l = On main_stack l.top l.callers

abbrev Branch : ObjLife → ℕ → ObjLife → Type 0
Branch p i l = On p.top.stack l.top l.callers × (is_waiting p.stage ≡ true)

abbrev Nothing : ObjLife → ℕ → Type 0
Nothing p i = Unit {0}

pub member_of : {A : Type 0} (P : A → Type 0) (xs : List A) → All P xs → (i : ℕ) (x : A) → slice_get xs i ≡ Some x → P x
member_of P xs all i x there =
    let within = slice_get_within xs i x there in
    let both : Some (get_or xs i x) ≡ Some x = sym (slice_get-get_or xs i x within) ∙ there in
    let same : get_or xs i x ≡ x = cc in
    subst P same (all i x within)

shared_rule : (c : Code) → GoodForm c → HoldsOn object_meaning c Root Branch Nothing
shared_rule c good = record {
  root_runs = λ l k h on. runs_on c good main_stack l k h on;
  branch_runs = λ p l k i h on. (runs_on c good p.top.stack l k h.0 on, h.1);
  root_joins = λ l h waits all. joined_on c good main_stack l h;
  branch_joins = λ p l i h waits all. (joined_on c good p.top.stack l h.0, h.1);
  branch_ends = λ p l i v h ends. tt;
  waits = λ p l i h. h.1;
  awake = λ p i asleep. tt;
  rested = λ p q waits on i all. tt;
}

shared_kept : (c : Code) (input : List ℤ) → GoodForm c → IsKeptAlong object_meaning c main_stack (object_says c (opening c input)) Root Branch Nothing
shared_kept c input good = record {
  rule = shared_rule c good;
  begins = refl;
  answers = λ h e n l reply told awake moved. record {
    root = λ held. moves_on c main_stack reply l (answered object_meaning c l reply) (answered_moves object_meaning c good l reply) held;
    branch = λ p i b. (moves_on c p.top.stack reply l (answered object_meaning c l reply) (answered_moves object_meaning c good l reply) b.0, b.1);
  };
  forks = λ h e n l stacks told shares awake join entries is count few. record {
    waits = record { root = λ held. held; branch = λ p i b. b };
    begins = λ i s b listed on. (runs_on c good l.top.stack (branch_of object_meaning c l (i + 1) s) b (member_of (λ x. x ≡ l.top.stack) stacks shares i s listed) on, refl);
    beyond = λ i past. tt;
  };
  sticks = λ h e n l stays awake. (record { root = λ held. held; branch = λ p i b. b }, λ i. tt);
}

pub sharing : (c : Code) (input : List ℤ) → GoodForm c → (h : List Entry) (f : ObjLives) (d : Option Value) → IsObjTree c input h f d → FramesAreShared f
sharing c input good h f d chain =
    let held = kept_along object_meaning c good main_stack (object_says c (opening c input)) Root Branch Nothing (shared_kept c input good) h f d chain in
    record { root = held.root; branches = λ n p l low other lives up. (held.branches n p l low other lives up).0 }
