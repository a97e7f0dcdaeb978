-- Behind an entry each activation is one that was there before, but for the one that the entry's call has made.
use Rattle.std.proofs.Common.{◌≡◌, ℕ, ◌+◌, ◌/◌, ◌⊎◌, ℤ, List, [], ◌∷◌, true, refl, Option, Some, arith, sym, ◌∙◌, ap, subst, inl, inr, ⊎_elim}
use Rattle.std.specs.Prelude.{slice_get}
use Rattle.std.proofs.lemmas.Bool.{cases_eq}
use Rattle.std.proofs.lemmas.Option.{slice_get_within}
use Rattle.obj_mem.specs.declared.value.Value.{Value}
use Rattle.obj_mem.specs.declared.event.SrcAnswer.{SrcAnswer}
use Rattle.tac_ir.specs.declared.code.Code.{Code}
use Rattle.tac_ir.specs.GoodForm.{GoodForm}
use Rattle.tac_thread.specs.declared.guest.Stage.{Stage}
use Rattle.tac_thread.specs.declared.want.ReplyOf.{ReplyOf}
use Rattle.tac_thread.specs.Answered.{answered, joined}
use Rattle.tac_thread.specs.Begun.{branch_of}
use Rattle.tac_thread.specs.RunsOn.{RunsOn}
use Rattle.tac_thread.specs.Threads.{is_waiting, at_fork, IsTree}
use Rattle.tac_thread.proofs.Forking.{no_zero}
use Rattle.tree_law.specs.Moves.{Moves}
use Rattle.tree_law.specs.Moves.Moves.{goes_on, to_enter, enters_now, enters, leaves, stays}
use Rattle.tree_law.specs.Chain.IsTreeAfter.{feeds, forks, halts, sticks}
use Rattle.tree_law.specs.tools.Held.{AreHeld, HoldsOn}
use Rattle.tree_law.proofs.lives.Moving.{answered_moves}
use Rattle.tree_law.proofs.lives.Silent.{runs_keep, joined_is}
use Rattle.tree_law.proofs.trees.Along.{tree_of, nobody_zero, no_branches}
use Rattle.tree_law.proofs.trees.Changed.{which, some_at}
use Rattle.tree_law.proofs.trees.Keeping.{fed_holds, forked_holds}
use Rattle.obj_run.specs.declared.values.ObjStack.{ObjStack}
use Rattle.obj_run.specs.Objects.{object_meaning, main_stack}
use Rattle.obj_run.specs.Asked.{reply_of}
use Rattle.obj_run.specs.Entries.{Entry}
use Rattle.obj_run.specs.Starts.{opening}
use Rattle.obj_run.specs.Runs.{ObjLife, ObjLives, IsObjTree, object_says}
use Rattle.obj_law.specs.Did.{ObjActivation}
use Rattle.obj_law.specs.Frames.{Stands, IsActive}
use Rattle.obj_law.proofs.Steady.{steady}
use Rattle.obj_law.proofs.Sharing.{member_of}
use Rattle.obj_law.proofs.One.{histories_one}

-- Properties of all activations of a life, by their functions and stacks.

abbrev pub ActsIn : (ℕ → ObjStack → Type 0) → ObjActivation → List ObjActivation → Type 0
ActsIn Q x [] = Q x.fun x.stack
ActsIn Q x (y ∷ callers) = Q x.fun x.stack × ActsIn Q y callers

one_of : (Q : ℕ → ObjStack → Type 0) (x : ObjActivation) (callers : List ObjActivation) (g : ℕ) (s : ObjStack) → ActsIn Q x callers → Stands x callers g s → Q g s
one_of Q x [] g s all is = subst (Q g) is.1 (subst (λ k. Q k x.stack) is.0 all)
one_of Q x (y ∷ callers) g s all (inl is) = subst (Q g) is.1 (subst (λ k. Q k x.stack) is.0 all.0)
one_of Q x (y ∷ callers) g s all (inr more) = one_of Q y callers g s all.1 more

all_of : (Q : ℕ → ObjStack → Type 0) (x : ObjActivation) (callers : List ObjActivation) → ((g : ℕ) (s : ObjStack) → Stands x callers g s → Q g s) → ActsIn Q x callers
all_of Q x [] each = each x.fun x.stack (refl, refl)
all_of Q x (y ∷ callers) each = (each x.fun x.stack (inl (refl, refl)), all_of Q y callers (λ g s more. each g s (inr more)))

react : (Q : ℕ → ObjStack → Type 0) (x y : ObjActivation) (callers : List ObjActivation) → y.fun ≡ x.fun → y.stack ≡ x.stack → ActsIn Q x callers → ActsIn Q y callers
react Q x y [] fun stack h = subst (Q y.fun) (sym stack) (subst (λ k. Q k x.stack) (sym fun) h)
react Q x y (z ∷ callers) fun stack h = (subst (Q y.fun) (sym stack) (subst (λ k. Q k x.stack) (sym fun) h.0), h.1)

moves_acts : (c : Code) (Q : ℕ → ObjStack → Type 0) (reply : ReplyOf Value ObjStack) (l k : ObjLife) → Moves object_meaning c reply l k → l.stage ≡ Stage.Ready → ((g : ℕ) (s : ObjStack) → reply ≡ ReplyOf.Stack s → Q g s)
    → ActsIn Q l.top l.callers → ActsIn Q k.top k.callers
moves_acts c Q reply l k (goes_on k2 go) ready new h = subst (ActsIn Q k.top) (sym go.callers) (react Q l.top k.top l.callers go.onward.fun go.onward.stack h)
moves_acts c Q reply l k (to_enter k2 callee is top below stage) ready new h = subst (λ x. ActsIn Q x k.callers) (sym top) (subst (ActsIn Q l.top) (sym below) h)
moves_acts c Q reply l k (enters_now k2 callee is top below stage) ready new h = subst (λ x. ActsIn Q x k.callers) (sym top) (subst (ActsIn Q callee) (sym below) (new callee.fun callee.stack is.stack, h))
moves_acts c Q reply l k (enters k2 callee stage top below plain) ready new h = (let clash : Stage.Ready ≡ Stage.Entering callee = sym ready ∙ stage in cc)
moves_acts c Q reply l k (leaves k2 y callers left) ready new h =
    subst (ActsIn Q k.top) (sym left.below) (react Q y k.top callers left.onward.fun left.onward.stack (subst (ActsIn Q l.top) left.called_by h).1)
moves_acts c Q reply l k (stays k2 top below stage) ready new h = subst (λ x. ActsIn Q x k.callers) (sym top) (subst (ActsIn Q l.top) (sym below) h)

runs_acts : (c : Code) → GoodForm c → (Q : ℕ → ObjStack → Type 0) (l k : ObjLife) → ActsIn Q l.top l.callers → RunsOn object_meaning c l k → ActsIn Q k.top k.callers
runs_acts c good Q l k h on =
    runs_keep object_meaning c good (λ (x : ObjLife). ActsIn Q x.top x.callers)
    (λ x y go held. subst (ActsIn Q y.top) (sym go.callers) (react Q x.top y.top x.callers go.onward.fun go.onward.stack held)) l k h on

joined_acts : (c : Code) → GoodForm c → (Q : ℕ → ObjStack → Type 0) (l : ObjLife) → ActsIn Q l.top l.callers → ActsIn Q (joined c l).top (joined c l).callers
joined_acts c good Q l h = (let j = joined_is c good l in subst (ActsIn Q (joined c l).top) (sym j.callers) (react Q l.top (joined c l).top l.callers j.onward.fun j.onward.stack h))

-- Trees.

abbrev pub Root : (ℕ → ObjStack → Type 0) → ObjLife → Type 0
Root Q l = ActsIn Q l.top l.callers

abbrev pub Branch : (ℕ → ObjStack → Type 0) → ObjLife → ℕ → ObjLife → Type 0
Branch Q p i l = ActsIn Q l.top l.callers × (is_waiting p.stage ≡ true)

abbrev pub Nothing : ObjLife → ℕ → Type 0
Nothing p i = Unit {0}

pub acts_rule : (c : Code) → GoodForm c → (Q : ℕ → ObjStack → Type 0) → HoldsOn object_meaning c (Root Q) (Branch Q) Nothing
acts_rule c good Q = record {
  root_runs = λ l k h on. runs_acts c good Q l k h on;
  branch_runs = λ p l k i h on. (runs_acts c good Q l k h.0 on, h.1);
  root_joins = λ l h waits all. joined_acts c good Q l h;
  branch_joins = λ p l i h waits all. (joined_acts c good Q l h.0, h.1);
  branch_ends = λ p l i v h ends. tt;
  waits = λ p l i h. h.1;
  awake = λ p i asleep. tt;
  rested = λ p q waits on i all. tt;
}

module _ (c : Code) (good : GoodForm c) where
  held_all : (f : ObjLives) (Q : ℕ → ObjStack → Type 0) → IsTree object_meaning c f → ((g : ℕ) (s : ObjStack) → IsActive f g s → Q g s) → AreHeld (Root Q) (Branch Q) Nothing f
  held_all f Q tree each = record {
    root = λ l lives. own 1 l lives;
    branches = λ n p l low other lives up. (own n l lives, waits n p l lives other up);
    ended = λ n p i some low high lives none. tt;
    named = λ n l lives other. (tree.threads.parents n l lives other).0;
  }
    where
      own : (n : ℕ) (l : ObjLife) → f n ≡ Some l → ActsIn Q l.top l.callers
      own n l lives = all_of Q l.top l.callers (λ g s is. each g s (n, l, lives, is))

      waits : (n : ℕ) (p l : ObjLife) → f n ≡ Some l → (n ≡ 1 → ⊥) → f (n / 16) ≡ Some p → is_waiting p.stage ≡ true
      waits n p l lives other up =
          let parent = tree.threads.parents n l lives other in
          let both : Some parent.1.0 ≡ Some p = sym parent.1.1 ∙ up in
          let one : parent.1.0 ≡ p = cc in
          ap (λ (x : ObjLife). is_waiting x.stage) (sym one) ∙ parent.1.2

  pub of_held : (f : ObjLives) (Q : ℕ → ObjStack → Type 0) → IsTree object_meaning c f → AreHeld (Root Q) (Branch Q) Nothing f → (g : ℕ) (s : ObjStack) → IsActive f g s → Q g s
  of_held f Q tree held g s a = one_of Q a.1.top a.1.callers g s (⊎_elim
      (λ (one : a.0 ≡ 1). held.root a.1 (ap f (sym one) ∙ a.2))
      (λ (other : a.0 ≡ 1 → ⊥). let up = tree.threads.parents a.0 a.1 a.2 other in (held.branches a.0 up.1.0 a.1 up.0 other a.2 up.1.1).0)
      (cases_eq a.0 1)) a.3

frame_told : (a : SrcAnswer) (s : ObjStack) → reply_of a ≡ ReplyOf.Stack s → a ≡ SrcAnswer.Frame s.maker
frame_told SrcAnswer.Unit s is = cc
frame_told (SrcAnswer.Value v) s is = cc
frame_told (SrcAnswer.Frame m) s is = (let same : record { maker = m } ≡ s = cc in ap (λ (z : ObjStack). SrcAnswer.Frame z.maker) same)

module _ (c : Code) (input : List ℤ) (good : GoodForm c) where
  tree_in : (h : List Entry) (f : ObjLives) (d : Option Value) → IsObjTree c input h f d → IsTree object_meaning c f
  tree_in h f d chain = tree_of object_meaning c main_stack (object_says c (opening c input)) h f d chain

  abbrev OldOr : ObjLives → SrcAnswer → ℕ → ObjStack → Type 0
  OldOr f a g s = IsActive f g s ⊎ (a ≡ SrcAnswer.Frame s.maker)

  aged : (e : Entry) (h : List Entry) (g : ObjLives) (b : Option Value) → IsObjTree c input (e ∷ h) g b → (f : ObjLives) × ((d : Option Value) × IsObjTree c input h f d × ((k : ℕ) (s : ObjStack) → IsActive g k s → OldOr f e.stamp.answer k s))
  aged e h g b (feeds old e2 n reply f g2 d b2 chain tree fed awake moved told) =
      let was = tree_in h f d chain in
      let Q : ℕ → ObjStack → Type 0 = OldOr f e.stamp.answer in
      let l = fed.life in
      let ready = steady c input good h f d chain n l fed.lived awake in
      let change = moves_acts c Q reply l (answered object_meaning c l reply) (answered_moves object_meaning c good l reply) ready (λ k s is. inr (frame_told e.stamp.answer s (told.replies ∙ is))) in
      let held = fed_holds object_meaning c (Root Q) (Branch Q) Nothing (acts_rule c good Q) n f g d b reply (nobody_zero object_meaning c f was) (no_zero object_meaning c f n l was.threads fed.lived) fed
      (no_branches f was.threads.parents n l fed.lived awake) (record { root = change; branch = λ p i x. (change x.0, x.1); ended = λ i. tt }) (λ i. tt) (held_all c good f Q was (λ k s a. inl a)) in
      (f, (d, chain, of_held c good g Q tree held))
  aged e h g b (forks old e2 n stacks f g2 d b2 chain tree forked awake told shares some join entries is count few) =
      let was = tree_in h f d chain in
      let l = forked.life in
      let begins = λ (i : ℕ) (q : ObjLife) (listed : slice_get forked.branches i ≡ Some q).
      (let within = slice_get_within forked.branches i q listed in
      let same = forked.begin.count in
      let t = some_at stacks i (omega (arith, within, same)) in
      let stack = member_of (λ x. x ≡ l.top.stack) stacks shares i t.0 t.1 in
      runs_acts c good (IsActive f) (branch_of object_meaning c l (i + 1) t.0) q (n, l, forked.lived, top_stands l t.0 stack) (forked.begin.each i t.0 q t.1 listed)) in
      let held = forked_holds object_meaning c (Root (IsActive f)) (Branch (IsActive f)) Nothing (acts_rule c good (IsActive f)) n f g d b stacks (nobody_zero object_meaning c f was) forked
      (no_branches f was.threads.parents n l forked.lived awake) was.threads.parents some few (λ x. x) (λ p i x. x) (λ i q listed. (begins i q listed, refl)) (λ i past. tt) (λ i j q listed. tt) (held_all c good f (IsActive f) was (λ k s a. a)) in
      (f, (d, chain, λ k s a. inl (of_held c good g (IsActive f) tree held k s a)))
    where
      top_stands : (l : ObjLife) (t : ObjStack) → t ≡ l.top.stack → Stands l.top l.callers l.top.fun t
      top_stands l t same = by l.callers
        where
          by : (callers : List ObjActivation) → Stands l.top callers l.top.fun t
          by [] = (refl, sym same)
          by (y ∷ callers) = inl (refl, sym same)
  aged e h g b (halts old e2 n l f d2 chain lives awake halted) = (g, (b, chain, λ k s a. inl a))
  aged e h g b (sticks old e2 n f g2 d b2 chain tree stuck awake sticky) = (f, (d, chain, λ k s a. inl (back k s a)))
    where
      back : (k : ℕ) (s : ObjStack) → IsActive g k s → IsActive f k s
      back k s a = ⊎_elim
          (λ (x : (a.0 ≡ n) × (at_fork stuck.life ≡ a.1)). (n, stuck.life, stuck.lived, subst (λ (z : ObjLife). Stands z.top z.callers k s) (sym x.1) a.3))
          (λ (x : (a.0 ≡ n → ⊥) × (f a.0 ≡ Some a.1)). (a.0, a.1, x.1, a.3))
          (which f n a.0 (at_fork stuck.life) a.1 (sym (stuck.changes a.0) ∙ a.2))

  pub old_activations : (e : Entry) (h : List Entry) (f g : ObjLives) (d b : Option Value) → IsObjTree c input h f d → IsObjTree c input (e ∷ h) g b → (k : ℕ) (s : ObjStack) → IsActive g k s → OldOr f e.stamp.answer k s
  old_activations e h f g d b before after k s a =
      let x = aged e h g b after in
      let same = histories_one c input good h h x.0 f x.1.0 d refl x.1.1 before in
      subst (λ z. OldOr z e.stamp.answer k s) same.1 (x.1.2 k s a)
