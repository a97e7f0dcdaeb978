-- An entry changes no link but that of the frame to be entered, and an answer keeps the links of its life.
use Rattle.std.proofs.Common.{◌≡◌, ℕ, zero, suc, ◌+◌, ◌/◌, ◌≤◌, ◌<◌, ◌⊎◌, inl, inr, ⊎_elim, List, [], ◌∷◌, length, true, false, refl, Option, Some, arith, sym, ◌∙◌, ap, subst}
use Rattle.std.specs.Prelude.{Contains}
use Rattle.std.proofs.lemmas.Bool.{cases_eq}
use Rattle.tac_ir.specs.declared.code.Code.{Code}
use Rattle.tac_ir.specs.declared.code.Instr.{Instr}
use Rattle.tac_ir.specs.declared.run.Answer.{Answer}
use Rattle.tac_ir.specs.declared.run.Entry.{Entry}
use Rattle.tac_ir.specs.Edges.{calls_fun}
use Rattle.tac_ir.specs.GoodForm.{GoodForm}
use Rattle.tac_thread.specs.declared.flat.FlatStack.{FlatStack}
use Rattle.tac_thread.specs.declared.guest.Stage.{Stage}
use Rattle.tac_thread.specs.declared.want.ReplyOf.{ReplyOf}
use Rattle.tac_thread.specs.Life.{instr_of}
use Rattle.tac_thread.specs.RunsOn.{RunsOn}
use Rattle.tac_thread.specs.Answered.{answered, answered_at, answered_first, entered, joined, returns, with_stack}
use Rattle.tac_thread.specs.Flat.{flat_meaning}
use Rattle.tac_thread.specs.Threads.{changed, HasBranch, HasParent, is_waiting}
use Rattle.tac_thread.proofs.Trees.{changed_here, changed_other}
use Rattle.path_law.specs.Standing.{FlatActivation, FlatLife}
use Rattle.path_law.specs.InPlace.{FlatLives}
use Rattle.tree_law.specs.Moves.{GoesOn, IsCallee, Moves}
use Rattle.tree_law.specs.Moves.Moves.{goes_on, to_enter, enters_now, enters, leaves, stays}
use Rattle.tree_law.specs.tools.Held.{AreHeld}
use Rattle.tree_law.proofs.lives.Moving.{answered_moves}
use Rattle.tree_law.proofs.lives.Placing.{Nothing}
use Rattle.tree_law.proofs.lives.Silent.{runs_keep, joined_is}
use Rattle.tree_law.proofs.trees.Ancestors.{HaveParents}
use Rattle.tree_law.proofs.trees.Changed.{which}
use Rattle.tree_law.proofs.trees.Keeping.{replaced}
use Rattle.chain_law.specs.Frames.{AreStacked, IsStacked, IsShareOf, AreShared, framed_of}
use Rattle.chain_law.proofs.frames.Apart.{HasSpace, frame_within, space_of, apart}
use Rattle.chain_law.proofs.frames.Stacked.{moves_stacked}
use Rattle.link_law.specs.tools.Links.{AreLinked, IsLinked, AllLinked, HasNoLinkAt}
use Rattle.link_law.proofs.links.Writes.{linked_kept, linked_apart, pushed_linked, linked_as, unlink}
use Rattle.link_law.proofs.links.Asked.{IsNoLinkOp, WritesIn, no_link_to}

-- each frame has its link
framed_some : (c : Code) (lo hi : ℕ) (x z : FlatActivation) (callers : List FlatActivation) → AreStacked c lo hi x callers → Contains (framed_of x callers) z → z.stack.base < z.stack.top
unfolding AreStacked
framed_some c lo hi x z [] h (k, within, same) = absurd (omega (arith, within))
framed_some c lo hi x z (y ∷ callers) h (zero, within, same) =
    let top : x.stack.top < z.stack.top + 1 = (let t : x.stack.top ≡ z.stack.top = ap (λ (w : FlatActivation). w.stack.top) same in omega (arith, t)) in
    let base : x.stack.base ≡ z.stack.base = ap (λ (w : FlatActivation). w.stack.base) same in
    let words = h.1 in
    omega (arith, top, base, words)
framed_some c lo hi x z (y ∷ callers) h (suc k, within, same) = framed_some c lo hi y z callers h.4 (k, omega (arith, within), same)

-- the frames below a callee's end where it begins
below_callee : (c : Code) (lo hi : ℕ) (callee x z : FlatActivation) (callers : List FlatActivation) → AreStacked c lo hi callee (x ∷ callers) → Contains (framed_of x callers) z → z.stack.base < callee.stack.base
unfolding AreStacked
below_callee c lo hi callee x z callers h listed =
    let up = (frame_within c lo hi x z callers h.4 listed).1 in
    let some = framed_some c lo hi x z callers h.4 listed in
    let base = h.0 in
    omega (arith, up, some, base)

-- The tree in which a frame that is to be entered was entered.
module _ (c : Code) (lo hi : ℕ) (f : FlatLives) (parents : HaveParents f) (shared : AreShared c lo hi f) (n : ℕ) (l : FlatLife) (lives : f n ≡ Some l) (alone : HasBranch f n → ⊥) (awake : is_waiting l.stage ≡ false)
    (callee : FlatActivation) (entering : l.stage ≡ Stage.Entering callee) where
  after : FlatLives
  after = changed f n (Some (entered l callee))

  held : AreHeld (IsStacked c lo hi) (IsShareOf c) Nothing f
  held = record { root = shared.root; branches = shared.branches; ended = λ k p i some low high there none. tt; named = λ k q there other. (parents k q there other).0 }

  stacked : (a z : ℕ) → IsStacked c a z l → IsStacked c a z (entered l callee)
  stacked a z s = moves_stacked c a z ReplyOf.Unit l (entered l callee) (enters (entered l callee) callee entering refl refl refl) (λ g t is call. cc) s

  -- who waits is another
  above_other : (k : ℕ) (p : FlatLife) → f k ≡ Some p → is_waiting p.stage ≡ true → k ≡ n → ⊥
  above_other k p there waits same =
      let both : Some p ≡ Some l = sym there ∙ ap f same ∙ lives in
      let one : p ≡ l = cc in
      let clash : true ≡ false = sym waits ∙ ap (λ (z : FlatLife). is_waiting z.stage) one ∙ awake in
      cc

  still : (k : ℕ) (q : FlatLife) → f k ≡ Some q → (k ≡ n → ⊥) → changed f n (Some (entered l callee)) k ≡ Some q
  still k q there other = changed_other f n (Some (entered l callee)) k other ∙ there

  up : (k : ℕ) (q : FlatLife) → f k ≡ Some q → (k ≡ 1 → ⊥) → HasParent (changed f n (Some (entered l callee))) k
  up k q there other =
      let h = parents k q there other in
      (h.0, (h.1.0, still (k / 16) h.1.0 h.1.1 (above_other (k / 16) h.1.0 h.1.1 h.1.2), h.1.2))

  parents_after : HaveParents (changed f n (Some (entered l callee)))
  parents_after k q there other = ⊎_elim (λ (a : (k ≡ n) × (entered l callee ≡ q)). up k l (ap f a.0 ∙ lives) other) (λ (a : (k ≡ n → ⊥) × (f k ≡ Some q)). up k q a.1 other) (which f n k (entered l callee) q there)

  shared_after : AreShared c lo hi (changed f n (Some (entered l callee)))
  shared_after =
      let k = replaced (IsStacked c lo hi) (IsShareOf c) Nothing f (changed f n (Some (entered l callee))) n l (entered l callee) lives alone
      (record { root = stacked lo hi; branch = λ p i b. record { waits = b.waits; low = b.low; high = b.high; stacked = stacked _ _ b.stacked }; ended = λ i. tt }) (λ k. refl) held in
      record { root = k.root; branches = k.branches }

  -- no frame of a thread that lives begins where the new frame does
  pub no_link_at : (k : ℕ) (q : FlatLife) → f k ≡ Some q → HasNoLinkAt callee.stack.base q.top q.callers
  no_link_at k q there z listed same = by (cases_eq k n)
    where
      mine : HasSpace c (entered l callee)
      mine = (space_of c (changed f n (Some (entered l callee))) lo hi parents_after shared_after n (entered l callee) (changed_here f n (Some (entered l callee)))).1.space

      by : (k ≡ n) ⊎ (k ≡ n → ⊥) → ⊥
      by (inl is) =
          let both : Some q ≡ Some l = sym there ∙ ap f is ∙ lives in
          let one : q ≡ l = cc in
          let low = below_callee c mine.lo mine.hi callee l.top z l.callers mine.stacked (subst (λ (w : FlatLife). Contains (framed_of w.top w.callers) z) one listed) in
          omega (arith, low, same)
      by (inr other) =
          let there_after = still k q there other in
          let theirs = (space_of c (changed f n (Some (entered l callee))) lo hi parents_after shared_after k q there_after).1.space in
          let some = framed_some c theirs.lo theirs.hi q.top z q.callers theirs.stacked listed in
          let new = framed_some c mine.lo mine.hi callee callee (l.top ∷ l.callers) mine.stacked (0, omega arith, refl) in
          ⊎_elim (λ (past : callee.stack.top ≤ z.stack.base). omega (arith, past, new, same)) (λ (before : z.stack.top ≤ callee.stack.base). omega (arith, before, some, same))
          (apart c (changed f n (Some (entered l callee))) lo hi parents_after shared_after n k (entered l callee) q callee z (λ e. other (sym e)) (changed_here f n (Some (entered l callee))) there_after (0, omega arith, refl) listed)

-- an entry keeps the links of all threads that live
pub lifted : (c : Code) (lo hi : ℕ) (h : List Entry) (e : Entry) (f : FlatLives) → HaveParents f → AreShared c lo hi f → (n : ℕ) (l : FlatLife) → f n ≡ Some l → (HasBranch f n → ⊥) → is_waiting l.stage ≡ false
    → WritesIn c l.top e.op l.stage → AllLinked c h f → AllLinked c (e ∷ h) f
lifted c lo hi h e f parents shared n l lives alone awake writes linked k q there = by l.stage refl writes
  where
    quiet : IsNoLinkOp c e.op → IsLinked c (e ∷ h) q
    quiet none = linked_kept c h e q.top q.callers (λ z listed. no_link_to c e.op e.answer none z.stack.base) (linked k q there)

    by : (s : Stage ℕ FlatStack) → l.stage ≡ s → WritesIn c l.top e.op s → IsLinked c (e ∷ h) q
    by Stage.Ready is none = quiet none
    by (Stage.Entering callee) is t = linked_apart c h e callee.stack.base t.def t.def t.is q.top q.callers (no_link_at c lo hi f parents shared n l lives alone awake callee is k q there) (linked k q there)
    by (Stage.Leaving link) is none = quiet none
    by Stage.Waiting is none = quiet none

-- Silent steps and joins.

goes_linked : (c : Code) (h : List Entry) (l k : FlatLife) → GoesOn c l k → IsLinked c h l → IsLinked c h k
goes_linked c h l k goes linked = linked_as c h k.top l.top k.callers l.callers goes.onward.stack goes.callers linked

pub runs_linked : (c : Code) → GoodForm c → (h : List Entry) (l k : FlatLife) → IsLinked c h l → RunsOn flat_meaning c l k → IsLinked c h k
runs_linked c good h l k linked on = runs_keep flat_meaning c good (IsLinked c h) (goes_linked c h) l k linked on

pub joined_linked : (c : Code) → GoodForm c → (h : List Entry) (l : FlatLife) → IsLinked c h l → IsLinked c h (joined c l)
joined_linked c good h l linked = (let j = joined_is c good l in linked_as c h (joined c l).top l.top (joined c l).callers l.callers j.onward.stack j.callers linked)

-- Answers.

-- words have links: a call is entered by its link write alone
not_at_once : (c : Code) (l : FlatLife) (reply : ReplyOf ℕ FlatStack) (callee : FlatActivation) → ((x : FlatActivation) → l.stage ≡ Stage.Entering x → ⊥) → IsCallee c l.top reply callee
    → (answered flat_meaning c l reply).callers ≡ l.top ∷ l.callers → (answered flat_meaning c l reply).stage ≡ Stage.Ready → ⊥
not_at_once c l reply callee apart is below ready = by l.stage refl below ready
  where
    longer : (xs : List FlatActivation) (x : FlatActivation) → xs ≡ x ∷ xs → ⊥
    longer xs x same = (let long = ap length same in omega (arith, long))

    call : (i : Instr) → calls_fun callee.fun i ≡ true → (with_stack flat_meaning c l callee.stack i).stage ≡ Stage.Ready → ⊥
    call (Instr.Call to g d args) named now = cc
    call i named now = cc

    left : (link : Option ℕ) (i : Instr) → calls_fun callee.fun i ≡ true → (returns flat_meaning c l link i).callers ≡ l.top ∷ l.callers → ⊥
    left link (Instr.Call to g d args) named now = longer l.callers l.top now
    left link i named now = cc

    by : (s : Stage ℕ FlatStack) → l.stage ≡ s → (answered_at flat_meaning c l s reply).callers ≡ l.top ∷ l.callers → (answered_at flat_meaning c l s reply).stage ≡ Stage.Ready → ⊥
    by Stage.Ready at under now = call (instr_of c l.top) is.call (subst (λ r. (answered_first flat_meaning c l (instr_of c l.top) r).stage ≡ Stage.Ready) is.stack now)
    by (Stage.Entering x) at under now = apart x at
    by (Stage.Leaving link) at under now = left (Some link) (instr_of c l.top) is.call under
    by Stage.Waiting at under now = longer l.callers l.top under

moves_linked : (c : Code) (h : List Entry) (reply : ReplyOf ℕ FlatStack) (l k : FlatLife) → ((x : FlatActivation) → l.stage ≡ Stage.Entering x → ⊥)
    → ((callee : FlatActivation) → IsCallee c l.top reply callee → k.callers ≡ l.top ∷ l.callers → k.stage ≡ Stage.Ready → ⊥) → Moves flat_meaning c reply l k → IsLinked c h l → IsLinked c h k
moves_linked c h reply l k outside later (goes_on k2 goes) linked = goes_linked c h l k goes linked
moves_linked c h reply l k outside later (to_enter k2 callee is top below stage) linked = linked_as c h k.top l.top k.callers l.callers (ap (λ (z : FlatActivation). z.stack) top) below linked
moves_linked c h reply l k outside later (enters_now k2 callee is top below ready) linked = absurd (later callee is below ready)
moves_linked c h reply l k outside later (enters k2 callee stage top below ready) linked = absurd (outside callee stage)
moves_linked c h reply l k outside later (leaves k2 y callers left) linked =
    linked_as c h k.top y k.callers callers left.onward.stack left.below (unlink c h l.top y callers (subst (AreLinked c h l.top) left.called_by linked)).1
moves_linked c h reply l k outside later (stays k2 top below how) linked = linked_as c h k.top l.top k.callers l.callers (ap (λ (z : FlatActivation). z.stack) top) below linked

is_entering : (s : Stage ℕ FlatStack) → ((x : FlatActivation) × (s ≡ Stage.Entering x)) ⊎ ((x : FlatActivation) → s ≡ Stage.Entering x → ⊥)
is_entering (Stage.Entering x) = inl (x, refl)
is_entering Stage.Ready = inr (λ x is. cc)
is_entering (Stage.Leaving link) = inr (λ x is. cc)
is_entering Stage.Waiting = inr (λ x is. cc)

pub answered_linked : (c : Code) → GoodForm c → (h : List Entry) (e : Entry) (l : FlatLife) (reply : ReplyOf ℕ FlatStack) → WritesIn c l.top e.op l.stage → ((x : FlatActivation) → l.stage ≡ Stage.Entering x → e.answer ≡ Answer.Unit)
    → IsLinked c (e ∷ h) l → IsLinked c (e ∷ h) (answered flat_meaning c l reply)
answered_linked c good h e l reply writes unit linked = by (is_entering l.stage)
  where
    by : ((x : FlatActivation) × (l.stage ≡ Stage.Entering x)) ⊎ ((x : FlatActivation) → l.stage ≡ Stage.Entering x → ⊥) → IsLinked c (e ∷ h) (answered flat_meaning c l reply)
    by (inl entering) =
        let t = subst (WritesIn c l.top e.op) entering.1 writes in
        subst (λ s. IsLinked c (e ∷ h) (answered_at flat_meaning c l s reply)) (sym entering.1) (pushed_linked c h e l.top entering.0 l.callers t.def t.def t.call t.calls t.is (unit entering.0 entering.1) linked)
    by (inr apart) = moves_linked c (e ∷ h) reply l (answered flat_meaning c l reply) apart (λ callee is below ready. not_at_once c l reply callee apart is below ready) (answered_moves flat_meaning c good l reply) linked
