-- What a life wants is what the run says of its thread.
use Rattle.std.proofs.Common.{◌≡◌, ℕ, ◌-◌, List, ◌∷◌, Bool, true, false, refl, Option, Some, None, sym, ◌∙◌, ap, subst}
use Rattle.tac_ir.specs.declared.code.Code.{Code}
use Rattle.tac_ir.specs.declared.code.Instr.{Instr}
use Rattle.tac_ir.specs.declared.run.Op.{Op}
use Rattle.tac_ir.specs.declared.run.Entry.{Entry}
use Rattle.tac_ir.specs.Layout.{instr_at}
use Rattle.tac_ir.specs.Effect.{Spot, effect_of, is_last}
use Rattle.tac_ir.specs.Path.{Step, Start, here_at, calls_in, call_of, frame_end, base_of, temp_of, next_spot, event_at, IsPath}
use Rattle.tac_ir.specs.Threads.{room_at, IsWanted}
use Rattle.tac_thread.specs.declared.flat.FlatStack.{FlatStack}
use Rattle.tac_thread.specs.declared.guest.Stage.{Stage}
use Rattle.tac_thread.specs.declared.want.Want.{Want}
use Rattle.tac_thread.specs.declared.doing.Doing.{Doing}
use Rattle.tac_thread.specs.Life.{instr_of, temp}
use Rattle.tac_thread.specs.Doing.{doing, asked, link_write, want_at, want_of}
use Rattle.tac_thread.specs.Flat.{flat_meaning}
use Rattle.path_law.specs.Asked.{op_of}
use Rattle.path_law.specs.Wants.{next_of, ended_with, EndsWith}
use Rattle.path_law.specs.Standing.{FlatActivation, FlatLife, point_of, first_spot, second_spot, IsActivation, AreCallers, IsStack, StandsIn, IsAt}
use Rattle.path_law.proofs.Table.{AsksAs, DoesAs, first_does}
use Rattle.path_law.proofs.Moves.{spot_in, effect_in, asks_there}

-- what a life asks for, by the table
pub asks_by_table : (val : ℕ → ℕ) (i : Instr) (event : Option Op) (w : Want ℕ) (op : Op) → AsksAs val i event w → op_of w ≡ Some op → (is_last i ≡ false) × (event ≡ Some op)
asks_by_table val i event (Want.Ended v) op does is = cc
asks_by_table val i event Want.Bad op does is = absurd does
asks_by_table val i event Want.Waits op does is = absurd does
asks_by_table val i event w op does is = (does.0, does.1 ∙ is)

-- the life before the first or the second step of an instruction that asks
pub wanted_at : (c : Code) (s : Start) (own : List Entry) (steps : List Step) (second : Bool) (a : ℕ) (x : FlatActivation) (op : Op) → IsPath c s steps own
    → next_spot c s steps ≡ spot_in second a x → IsActivation c s steps a x → (effect_in c s steps second a x).event (temp flat_meaning x) ≡ Some op
    → IsWanted c s own (record { point = point_of x; op = op; room = x.stack.«end» - x.stack.top })
wanted_at c s own steps second a x op path spot h event = record {
  steps = steps;
  path = path;
  point = ap (λ q. q.point) spot;
  event = ap (event_at c s steps) spot ∙ asks_there c s steps second a x h.temps ∙ event;
  room = ap (λ (q : Spot). room_at c s steps q.act) spot ∙ ap (λ n. n - frame_end c s steps a) h.limit ∙ ap (λ n. x.stack.«end» - n) h.top;
}

abbrev act_of : Option Spot → ℕ
act_of o = elim o [ None ↦ 0 | Some spot ↦ spot.act ]

-- the caller of an activation that was made at this spot
pub caller_is : (c : Code) (s : Start) (steps : List Step) (k a : ℕ) (x : FlatActivation) (callers : List FlatActivation) → AreCallers c s steps k (x ∷ callers)
    → call_of c steps k ≡ Some (first_spot a x) → IsStack c s steps a x callers
unfolding AreCallers
caller_is c s steps k a x callers h made =
    let same : h.0 ≡ a = ap act_of (sym h.2 ∙ made) in
    subst (λ b. IsStack c s steps b x callers) same (record { own = h.4; below = h.5 })

-- the event of what it asks for
asked_event : (c : Code) (s : Start) (steps : List Step) (a : ℕ) (x : FlatActivation) (d : Doing ℕ) (w : Want ℕ) (op : Op)
    → DoesAs (here_at c s steps (first_spot a x)) (temp flat_meaning x) (instr_of c x) (effect_in c s steps false a x) d → asked d ≡ Some w → op_of w ≡ Some op
    → (is_last (instr_of c x) ≡ false) × ((effect_in c s steps false a x).event (temp flat_meaning x) ≡ Some op)
asked_event c s steps a x (Doing.Gives to v) w op does want is = cc
asked_event c s steps a x (Doing.Goes at) w op does want is = cc
asked_event c s steps a x (Doing.Asks q) w op does want is =
    let same : q ≡ w = cc in
    asks_by_table (temp flat_meaning x) (instr_of c x) ((effect_in c s steps false a x).event (temp flat_meaning x)) q op does (ap op_of same ∙ is)

pub first_event : (c : Code) (s : Start) (steps : List Step) (a : ℕ) (x : FlatActivation) (w : Want ℕ) (op : Op) → IsActivation c s steps a x
    → asked (doing flat_meaning c x (instr_of c x)) ≡ Some w → op_of w ≡ Some op
    → (is_last (instr_of c x) ≡ false) × ((effect_in c s steps false a x).event (temp flat_meaning x) ≡ Some op)
unfolding here_at
first_event c s steps a x w op h want is =
    asked_event c s steps a x (doing flat_meaning c x (instr_of c x)) w op
    (first_does c (here_at c s steps (first_spot a x)) x (instr_of c x) refl refl h.base) want is

-- the link write: the number of the call's definition
pub link_event : (c : Code) (s : Start) (steps : List Step) (a k : ℕ) (x callee : FlatActivation) (to f def : ℕ) (args : List ℕ) (w : Want ℕ) (op : Op)
    → k ≡ calls_in c steps → IsActivation c s steps k callee → instr_of c x ≡ Instr.Call to f def args
    → link_write (instr_of c x) (Some callee.stack.base) ≡ Some w → op_of w ≡ Some op → (effect_in c s steps true a x).event (temp flat_meaning x) ≡ Some op
unfolding here_at
link_event c s steps a k x callee to f def args w op newest h call want is =
    let pushes : Some (Want.Push (record { 0 = def }) callee.stack.base) ≡ Some w = ap (λ i. link_write i (Some callee.stack.base)) (sym call) ∙ want in
    let same : Want.Push (record { 0 = def }) callee.stack.base ≡ w = cc in
    ap (λ i. (effect_of c (here_at c s steps (second_spot a x)) i).event (temp flat_meaning x)) call
    ∙ ap (λ n. Some (Op.Write (record { 0 = def }) (base_of c s steps n) def)) (sym newest)
    ∙ ap (λ n. Some (Op.Write (record { 0 = def }) n def)) h.base ∙ ap op_of same ∙ is

-- the return
pub return_event : (c : Code) (s : Start) (steps : List Step) (a : ℕ) (x : FlatActivation) (v r : ℕ) (op : Op) → instr_of c x ≡ Instr.Ret v (Some r) → Some Op.Ret ≡ Some op
    → (effect_in c s steps true a x).event (temp flat_meaning x) ≡ Some op
unfolding here_at
return_event c s steps a x v r op ret is = ap (λ i. (effect_of c (here_at c s steps (second_spot a x)) i).event (temp flat_meaning x)) ret ∙ is

-- Each event is the one that the thread wants.
pub wanted : (c : Code) (s : Start) (own : List Entry) (l : FlatLife) (w : Want ℕ) (op : Op) → IsAt c s own l → want_of flat_meaning c l ≡ Some w → op_of w ≡ Some op
    → IsWanted c s own (next_of l op)
wanted c s own l w op now want is = by l.stage now.stands.spot want
  where
    by : (stage : Stage ℕ FlatStack) → StandsIn c s now.steps l stage → want_at flat_meaning c l.top stage ≡ Some w
        → IsWanted c s own (next_of l op)
    by Stage.Ready b want =
        wanted_at c s own now.steps false b.act l.top op now.path b.spot b.stack.own (first_event c s now.steps b.act l.top w op b.stack.own want is).1
    by (Stage.Entering callee) b want =
        let caller = caller_is c s now.steps (calls_in c now.steps) b.act l.top l.callers b.stack.below b.made in
        wanted_at c s own now.steps true b.act l.top op now.path b.spot caller.own
        (link_event c s now.steps b.act (calls_in c now.steps) l.top callee b.to callee.fun b.def b.args w op refl b.stack.own b.call want is)
    by (Stage.Leaving link) b want =
        let same : Want.Ret ≡ w = cc in
        wanted_at c s own now.steps true b.act l.top op now.path b.spot b.stack.own (return_event c s now.steps b.act l.top b.value b.read op b.ret (ap op_of same ∙ is))
    by Stage.Waiting b want =
        let same : Want.Waits ≡ w = cc in
        let none : None ≡ Some op = ap op_of same ∙ is in cc

-- An end.

ended_at : (c : Code) (s : Start) (steps : List Step) (a : ℕ) (x : FlatActivation) (d : Doing ℕ) (v : Option ℕ)
    → DoesAs (here_at c s steps (first_spot a x)) (temp flat_meaning x) (instr_of c x) (effect_in c s steps false a x) d → asked d ≡ Some (Want.Ended v)
    → (is_last (instr_of c x) ≡ true) × (v ≡ ended_with (temp flat_meaning x) (instr_of c x))
ended_at c s steps a x (Doing.Gives to u) v does want = cc
ended_at c s steps a x (Doing.Goes at) v does want = cc
ended_at c s steps a x (Doing.Asks q) v does want =
    let same : q ≡ Want.Ended v = cc in
    subst (λ w. AsksAs (temp flat_meaning x) (instr_of c x) ((effect_in c s steps false a x).event (temp flat_meaning x)) w) same does

pub ends : (c : Code) (s : Start) (own : List Entry) (l : FlatLife) (v : Option ℕ) → IsAt c s own l → want_of flat_meaning c l ≡ Some (Want.Ended v) → EndsWith c s own v
unfolding here_at
ends c s own l v now want = by l.stage now.stands.spot want
  where
    by : (stage : Stage ℕ FlatStack) → StandsIn c s now.steps l stage → want_at flat_meaning c l.top stage ≡ Some (Want.Ended v) → EndsWith c s own v
    by Stage.Ready b want =
        let x = l.top in
        let steps = now.steps in
        let last = ended_at c s steps b.act x (doing flat_meaning c x (instr_of c x)) v
        (first_does c (here_at c s steps (first_spot b.act x)) x (instr_of c x) refl refl b.stack.own.base) want in
        record {
          steps = steps;
          path = now.path;
          last = ap (λ (q : Spot). is_last (instr_at c q.point)) b.spot ∙ last.0;
          value = last.1 ∙ ap (λ val. ended_with val (instr_of c x)) (sym b.stack.own.temps)
              ∙ ap (λ (q : Spot). ended_with (temp_of c s steps q.act) (instr_at c q.point)) (sym b.spot);
        }
    by (Stage.Entering callee) b want =
        let pushes : Some (Want.Push (record { 0 = b.def }) callee.stack.base) ≡ Some (Want.Ended v) = ap (λ i. link_write i (Some callee.stack.base)) (sym b.call) ∙ want in cc
    by (Stage.Leaving link) b want = cc
    by Stage.Waiting b want = cc
