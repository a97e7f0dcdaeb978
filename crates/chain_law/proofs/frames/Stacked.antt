-- A life's frames stay one behind the other.
use Rattle.std.proofs.Common.{◌≡◌, ℕ, ◌+◌, ◌-◌, ◌≤◌, ⊎_elim, List, [], ◌∷◌, Bool, true, false, refl, Some, None, arith, sym, ap, subst}
use Rattle.std.specs.Prelude.{nat_lt, if◌then◌else◌}
use Rattle.std.proofs.lemmas.Bool.{ltb-false}
use Rattle.tac_ir.specs.declared.code.Code.{Code}
use Rattle.tac_ir.specs.Layout.{frame_words}
use Rattle.tac_ir.specs.Edges.{calls_fun}
use Rattle.tac_ir.specs.GoodForm.{GoodForm}
use Rattle.tac_thread.specs.declared.flat.FlatStack.{FlatStack}
use Rattle.tac_thread.specs.declared.guest.Stage.{Stage}
use Rattle.tac_thread.specs.declared.want.ReplyOf.{ReplyOf}
use Rattle.tac_thread.specs.Life.{instr_of}
use Rattle.tac_thread.specs.RunsOn.{RunsOn}
use Rattle.tac_thread.specs.Answered.{joined}
use Rattle.tac_thread.specs.Flat.{flat_meaning, with_frame}
use Rattle.tac_thread.specs.Threads.{is_waiting}
use Rattle.path_law.specs.Standing.{FlatActivation, FlatLife}
use Rattle.tree_law.specs.Moves.{IsPlain, IsOnward, Moves}
use Rattle.tree_law.specs.Moves.Moves.{goes_on, to_enter, enters_now, enters, leaves, stays}
use Rattle.tree_law.proofs.lives.Silent.{runs_keep, joined_is}
use Rattle.tree_law.proofs.lives.Placing.{ready_plain}
use Rattle.chain_law.specs.Frames.{AreStacked, EntersStacked, IsStacked}

-- only the newest activation's function and stack count
restack : (c : Code) (lo hi : ℕ) (x y : FlatActivation) (callers : List FlatActivation) → y.fun ≡ x.fun → y.stack ≡ x.stack → AreStacked c lo hi x callers → AreStacked c lo hi y callers
unfolding AreStacked
restack c lo hi x y [] fun stack h = rw stack h
restack c lo hi x y (z ∷ callers) fun stack h = rw (stack, fun) h

-- the answer of a call has the stack with the callee's frame
abbrev pub Fits : Code → FlatLife → ReplyOf ℕ FlatStack → Type 0
Fits c l reply = (g : ℕ) (s : FlatStack) → reply ≡ ReplyOf.Stack s → calls_fun g (instr_of c l.top) ≡ true → with_frame (frame_words c g) l.top.stack ≡ Some s

framed : (c : Code) (hi g : ℕ) (x callee : FlatActivation) → callee.fun ≡ g → x.stack.«end» ≡ hi → x.stack.top ≤ hi → with_frame (frame_words c g) x.stack ≡ Some callee.stack → EntersStacked c hi x (Stage.Entering callee)
framed c hi g x callee fun last top is = by (nat_lt (x.stack.«end» - x.stack.top) (frame_words c g)) refl is
  where
    by : (b : Bool) → nat_lt (x.stack.«end» - x.stack.top) (frame_words c g) ≡ b
        → (if b then None else Some (record { base = x.stack.top; top = x.stack.top + frame_words c g; «end» = x.stack.«end» })) ≡ Some callee.stack → EntersStacked c hi x (Stage.Entering callee)
    by true small is = cc
    by false small is =
        let s : record { base = x.stack.top; top = x.stack.top + frame_words c g; «end» = x.stack.«end» } ≡ callee.stack = cc in
        let room = ltb-false (x.stack.«end» - x.stack.top) (frame_words c g) small in
        let b = ap (λ (z : FlatStack). z.base) s in
        let t = ap (λ (z : FlatStack). z.top) s in
        let e = ap (λ (z : FlatStack). z.«end») s in
        let words : frame_words c callee.fun ≡ frame_words c g = ap (frame_words c) fun in
        (omega (arith, b), omega (arith, b, t, words), omega (arith, e, last), omega (arith, t, room, top, last))

-- the newest frame ends within the region
pub ends_is : (c : Code) (lo hi : ℕ) (x : FlatActivation) (callers : List FlatActivation) → AreStacked c lo hi x callers → (x.stack.«end» ≡ hi) × (x.stack.top ≤ hi)
unfolding AreStacked
ends_is c lo hi x [] h = (h.1, (let a = h.0 in let b = h.2 in omega (arith, a, b)))
ends_is c lo hi x (y ∷ callers) h = (h.2, h.3)

plain_enters : (c : Code) (hi : ℕ) (x : FlatActivation) (s : Stage ℕ FlatStack) → IsPlain s → EntersStacked c hi x s
plain_enters c hi x (Stage.Entering callee) plain = absurd plain
plain_enters c hi x s plain = tt

on_top : (c : Code) (lo hi : ℕ) (callee x : FlatActivation) (callers : List FlatActivation) → EntersStacked c hi x (Stage.Entering callee) → AreStacked c lo hi x callers → AreStacked c lo hi callee (x ∷ callers)
unfolding AreStacked
on_top c lo hi callee x callers e h = (e.0, e.1, e.2, e.3, h)

below_top : (c : Code) (lo hi : ℕ) (x y : FlatActivation) (callers : List FlatActivation) → AreStacked c lo hi x (y ∷ callers) → AreStacked c lo hi y callers
unfolding AreStacked
below_top c lo hi x y callers h = h.4

stacked_is : (c : Code) (lo hi : ℕ) (k : FlatLife) (x : FlatActivation) (callers : List FlatActivation) → k.top ≡ x → k.callers ≡ callers → AreStacked c lo hi x callers → AreStacked c lo hi k.top k.callers
stacked_is c lo hi k x callers top below h = subst (λ z. AreStacked c lo hi z k.callers) (sym top) (subst (AreStacked c lo hi x) (sym below) h)

onward_stacked : (c : Code) (lo hi : ℕ) (l k : FlatLife) → IsOnward c l.top k.top → k.callers ≡ l.callers → IsPlain k.stage → IsStacked c lo hi l → IsStacked c lo hi k
onward_stacked c lo hi l k on below plain s = record {
  stands = stacked_is c lo hi k k.top l.callers refl below (restack c lo hi l.top k.top l.callers on.fun on.stack s.stands);
  enters = plain_enters c hi k.top k.stage plain;
}

pub moves_stacked : (c : Code) (lo hi : ℕ) (reply : ReplyOf ℕ FlatStack) (l k : FlatLife) → Moves flat_meaning c reply l k → Fits c l reply → IsStacked c lo hi l → IsStacked c lo hi k
moves_stacked c lo hi reply l k (goes_on k2 goes) fits s = onward_stacked c lo hi l k goes.onward goes.callers (ready_plain k.stage goes.stage) s
moves_stacked c lo hi reply l k (to_enter k2 callee is top below stage) fits s =
    let ends = ends_is c lo hi l.top l.callers s.stands in
    let frame = framed c hi callee.fun l.top callee refl ends.0 ends.1 (fits callee.fun callee.stack is.stack is.call) in
    record {
      stands = stacked_is c lo hi k l.top l.callers top below s.stands;
      enters = subst (EntersStacked c hi k.top) (sym stage) (subst (λ z. EntersStacked c hi z (Stage.Entering callee)) (sym top) frame);
    }
moves_stacked c lo hi reply l k (enters_now k2 callee is top below stage) fits s =
    let ends = ends_is c lo hi l.top l.callers s.stands in
    let frame = framed c hi callee.fun l.top callee refl ends.0 ends.1 (fits callee.fun callee.stack is.stack is.call) in
    record { stands = stacked_is c lo hi k callee (l.top ∷ l.callers) top below (on_top c lo hi callee l.top l.callers frame s.stands); enters = plain_enters c hi k.top k.stage (ready_plain k.stage stage) }
moves_stacked c lo hi reply l k (enters k2 callee stage top below ready) fits s =
    let frame = subst (EntersStacked c hi l.top) stage s.enters in
    record { stands = stacked_is c lo hi k callee (l.top ∷ l.callers) top below (on_top c lo hi callee l.top l.callers frame s.stands); enters = plain_enters c hi k.top k.stage (ready_plain k.stage ready) }
moves_stacked c lo hi reply l k (leaves k2 y callers left) fits s =
    let rest = below_top c lo hi l.top y callers (subst (AreStacked c lo hi l.top) left.called_by s.stands) in
    record {
      stands = stacked_is c lo hi k k.top callers refl left.below (restack c lo hi y k.top callers left.onward.fun left.onward.stack rest);
      enters = plain_enters c hi k.top k.stage (ready_plain k.stage left.stage);
    }
moves_stacked c lo hi reply l k (stays k2 top below how) fits s = record {
  stands = stacked_is c lo hi k l.top l.callers top below s.stands;
  enters = ⊎_elim (λ (same : k.stage ≡ l.stage). subst (EntersStacked c hi k.top) (sym same) (subst (λ z. EntersStacked c hi z l.stage) (sym top) s.enters)) (λ (plain : IsPlain k.stage). plain_enters c hi k.top k.stage plain) how;
}

pub runs_stacked : (c : Code) → GoodForm c → (lo hi : ℕ) (l k : FlatLife) → IsStacked c lo hi l → RunsOn flat_meaning c l k → IsStacked c lo hi k
runs_stacked c good lo hi l k s on =
    runs_keep flat_meaning c good (IsStacked c lo hi) (λ a b goes h. onward_stacked c lo hi a b goes.onward goes.callers (ready_plain b.stage goes.stage) h) l k s on

waiting_plain : (s : Stage ℕ FlatStack) → is_waiting s ≡ true → IsPlain s
waiting_plain Stage.Ready is = tt
waiting_plain (Stage.Entering callee) is = cc
waiting_plain (Stage.Leaving link) is = tt
waiting_plain Stage.Waiting is = tt

pub joined_stacked : (c : Code) → GoodForm c → (lo hi : ℕ) (l : FlatLife) → IsStacked c lo hi l → is_waiting l.stage ≡ true → IsStacked c lo hi (joined c l)
joined_stacked c good lo hi l s waits =
    let j = joined_is c good l in
    onward_stacked c lo hi l (joined c l) j.onward j.callers
    (⊎_elim (λ (same : (joined c l).stage ≡ l.stage). subst IsPlain (sym same) (waiting_plain l.stage waits)) (λ (ready : (joined c l).stage ≡ Stage.Ready). ready_plain (joined c l).stage ready) j.stage) s

pub begin_stacked : (c : Code) (lo hi : ℕ) (l : FlatLife) → l.callers ≡ [] → l.stage ≡ Stage.Ready → l.top.stack.top ≡ lo → l.top.stack.«end» ≡ hi → lo ≤ hi → IsStacked c lo hi l
unfolding AreStacked
begin_stacked c lo hi l none ready low high order = record {
  stands = subst (AreStacked c lo hi l.top) (sym none) (low, high, order);
  enters = plain_enters c hi l.top l.stage (ready_plain l.stage ready);
}
