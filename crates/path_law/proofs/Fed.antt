-- A life that takes the answer of its event.
use Rattle.std.proofs.Common.{◌≡◌, ℕ, ◌≤◌, ◌<◌, List, [], ◌∷◌, length, Bool, true, false, refl, Option, Some, None, arith, sym, ◌∙◌, ap, subst}
use Rattle.std.specs.Prelude.{nat_eq, not, slice_get}
use Rattle.tac_ir.specs.declared.code.Code.{Code}
use Rattle.tac_ir.specs.declared.code.Fun.{Fun}
use Rattle.tac_ir.specs.declared.code.Lined.{Lined}
use Rattle.tac_ir.specs.declared.code.Instr.{Instr}
use Rattle.tac_ir.specs.declared.run.Op.{Op}
use Rattle.tac_ir.specs.declared.run.Answer.{Answer}
use Rattle.tac_ir.specs.declared.run.Entry.{Entry}
use Rattle.tac_ir.specs.Counts.{temps_of}
use Rattle.tac_ir.specs.GoodForm.{GoodForm, NamesExist}
use Rattle.tac_ir.specs.Layout.{lines_of, frame_words}
use Rattle.tac_ir.specs.Effect.{divides}
use Rattle.tac_ir.specs.Path.{Step, Start, here_at, calls_in, temp_of, stops, IsPath}
use Rattle.tac_ir.specs.Words.{bin_of}
use Rattle.tac_thread.specs.declared.flat.FlatStack.{FlatStack}
use Rattle.tac_thread.specs.declared.guest.Stage.{Stage}
use Rattle.tac_thread.specs.declared.want.Want.{Want}
use Rattle.tac_thread.specs.declared.want.ReplyOf.{ReplyOf}
use Rattle.tac_thread.specs.tools.Fetched.{instr_in}
use Rattle.tac_thread.specs.Life.{instr_of, temp, with_stage}
use Rattle.tac_thread.specs.Doing.{doing, asked, link_write, want_at, want_of, tested}
use Rattle.tac_thread.specs.Answered.{IsReplyTo, returned, returns, answered_first, answered_at, answered}
use Rattle.tac_thread.specs.Flat.{flat_meaning}
use Rattle.path_law.specs.Asked.{op_of, Tells}
use Rattle.path_law.specs.Standing.{FlatActivation, FlatLife, point_of, AreCallers, IsBefore, IsLeaving, StandsIn, IsAt}
use Rattle.path_law.proofs.Table.{divided_by}
use Rattle.path_law.proofs.Temps.{params_below}
use Rattle.path_law.proofs.Moves.{IsFresh}
use Rattle.path_law.proofs.Wants.{caller_is, first_event, link_event, return_event}
use Rattle.path_law.proofs.Replies.{FlatReply, asks_value, value_reply, asks_unit, unit_reply, stack_reply, value_told, unit_told, stack_told, framed}
use Rattle.path_law.proofs.Answers.{IsEntryOf, IsAsking, value_answer, told_next}
use Rattle.path_law.proofs.Calls.{fork_told, call_told, entering_told, link_told, return_alone, return_told}

-- a call's arguments are temporaries of the callee
arguments_below : (c : Code) → GoodForm c → (f at : ℕ) (to g def : ℕ) (args : List ℕ) → instr_in (lines_of c f) at ≡ Instr.Call to g def args → length args ≤ temps_of c g
arguments_below c good f at to g def args is = in_fun (slice_get c.funs f) refl is
  where
    in_code : (fun : Fun) → slice_get c.funs f ≡ Some fun → (o : Option Lined) → slice_get fun.code at ≡ o
        → elim o [ None ↦ Instr.End | Some l ↦ l.instr ] ≡ Instr.Call to g def args → length args ≤ temps_of c g
    in_code fun found None here is = cc
    in_code fun found (Some l) here is =
        let names : NamesExist c f (Instr.Call to g def args) = subst (NamesExist c f) is (((good.code f fun found).instrs at l here).names) in
        omega (arith, names.count, params_below c g)

    in_fun : (o : Option Fun) → slice_get c.funs f ≡ o → instr_in (elim o [ None ↦ [] | Some fun ↦ fun.code ]) at ≡ Instr.Call to g def args → length args ≤ temps_of c g
    in_fun None found is = cc
    in_fun (Some fun) found is = in_code fun found (slice_get fun.code at) refl is

-- the parts of what a life is told
pub record IsToldOf (c : Code) (l : FlatLife) (e : Entry) (w : Want ℕ) (op : Op) (reply : FlatReply) : Type 0 where
  pub is : op_of w ≡ Some op
  pub kind : IsReplyTo flat_meaning c w reply
  pub tells : Tells c l.top.stack op e.answer reply
  pub point : e.point ≡ point_of l.top
  pub event : e.op ≡ op
  pub goes : stops e.answer ≡ false

entry_of : (c : Code) (l : FlatLife) (e : Entry) (w : Want ℕ) (op : Op) (reply : FlatReply) (answer : Answer) → IsToldOf c l e w op reply → e.answer ≡ answer → IsEntryOf e l.top op answer
entry_of c l e w op reply answer told is = record { point = told.point; event = told.event; answer = is; goes = ap stops (sym is) ∙ told.goes }

-- before the first step of an instruction that asks
pub record IsReady (c : Code) (s : Start) (own : List Entry) (l : FlatLife) (w : Want ℕ) : Type 0 where
  pub steps : List Step
  pub path : IsPath c s steps own
  pub stands : IsBefore c s steps l.top l.callers
  pub fresh : (a t : ℕ) → calls_in c steps < a → temp_of c s steps a t ≡ 0
  pub asks : asked (doing flat_meaning c l.top (instr_of c l.top)) ≡ Some w

asking : (c : Code) (s : Start) (own : List Entry) (l : FlatLife) (e : Entry) (w : Want ℕ) (op : Op) (reply : FlatReply) (answer : Answer) → IsReady c s own l w
    → IsToldOf c l e w op reply → e.answer ≡ answer → IsAsking c s own l e answer
asking c s own l e w op reply answer now told is =
    let first = first_event c s now.steps now.stands.act l.top w op now.stands.stack.own now.asks told.is in
    record {
      steps = now.steps;
      path = now.path;
      before = now.stands;
      fresh = now.fresh;
      op = op;
      last = first.0;
      event = first.1;
      entry = entry_of c l e w op reply answer told is;
    }

by_value : (c : Code) (s : Start) (own : List Entry) (l : FlatLife) (e : Entry) (w : Want ℕ) (op : Op) (reply : FlatReply) (i : Instr) → IsToldOf c l e w op reply → asks_value w ≡ true
    → ((v : ℕ) → e.answer ≡ Answer.Value v → IsAt c s (e ∷ own) (answered_first flat_meaning c l i (ReplyOf.Value v))) → IsAt c s (e ∷ own) (answered_first flat_meaning c l i reply)
by_value c s own l e w op reply i told asks go =
    let r = value_reply c w reply asks told.kind in
    let tells : Tells c l.top.stack op e.answer (ReplyOf.Value r.0) = subst (Tells c l.top.stack op e.answer) r.1 told.tells in
    subst (λ q. IsAt c s (e ∷ own) (answered_first flat_meaning c l i q)) (sym r.1) (go r.0 (value_told c l.top.stack op e.answer r.0 tells))

by_unit : (c : Code) (s : Start) (own : List Entry) (l : FlatLife) (e : Entry) (w : Want ℕ) (op : Op) (reply : FlatReply) (i : Instr) → IsToldOf c l e w op reply → asks_unit w ≡ true
    → (e.answer ≡ Answer.Unit → IsAt c s (e ∷ own) (answered_first flat_meaning c l i ReplyOf.Unit)) → IsAt c s (e ∷ own) (answered_first flat_meaning c l i reply)
by_unit c s own l e w op reply i told asks go =
    let is = unit_reply c w reply asks told.kind in
    let tells : Tells c l.top.stack op e.answer ReplyOf.Unit = subst (Tells c l.top.stack op e.answer) is told.tells in
    subst (λ q. IsAt c s (e ∷ own) (answered_first flat_meaning c l i q)) (sym is) (go (unit_told c l.top.stack op e.answer tells))

abbrev value_wanted : Option (Want ℕ) → Bool
value_wanted o = elim o [ None ↦ false | Some w ↦ asks_value w ]

abbrev unit_wanted : Option (Want ℕ) → Bool
unit_wanted o = elim o [ None ↦ false | Some w ↦ asks_unit w ]

abbrev op_wanted : Option (Want ℕ) → Option Op
op_wanted o = elim o [ None ↦ None | Some w ↦ op_of w ]

-- by the instruction
ready : (c : Code) → GoodForm c → (s : Start) (own : List Entry) (l : FlatLife) (e : Entry) (w : Want ℕ) (op : Op) (reply : FlatReply) → (now : IsReady c s own l w) → (told : IsToldOf c l e w op reply)
    → (i : Instr) → instr_of c l.top ≡ i → asked (doing flat_meaning c l.top i) ≡ Some w → IsAt c s (e ∷ own) (answered_first flat_meaning c l i reply)
unfolding here_at
ready c good s own l e w op reply now told (Instr.Get to place r) is want =
    by_value c s own l e w op reply (Instr.Get to place r) told (sym (ap value_wanted want))
    (λ v answer. value_answer c s own l e v (asking c s own l e w op reply (Answer.Value v) now told answer) (Instr.Get to place r) to is refl refl (λ b t. refl) refl)
ready c good s own l e w op reply now told (Instr.Load to a r) is want =
    by_value c s own l e w op reply (Instr.Load to a r) told (sym (ap value_wanted want))
    (λ v answer. value_answer c s own l e v (asking c s own l e w op reply (Answer.Value v) now told answer) (Instr.Load to a r) to is refl refl (λ b t. refl) refl)
ready c good s own l e w op reply now told (Instr.Same to ne a b) is want =
    by_value c s own l e w op reply (Instr.Same to ne a b) told (sym (ap value_wanted want))
    (λ v answer. value_answer c s own l e v (asking c s own l e w op reply (Answer.Value v) now told answer) (Instr.Same to ne a b) to is refl refl (λ k t. refl) refl)
ready c good s own l e w op reply now told (Instr.New to a site) is want =
    by_value c s own l e w op reply (Instr.New to a site) told (sym (ap value_wanted want))
    (λ v answer. value_answer c s own l e v (asking c s own l e w op reply (Answer.Value v) now told answer) (Instr.New to a site) to is refl refl (λ b t. refl) refl)
ready c good s own l e w op reply now told (Instr.In to) is want =
    by_value c s own l e w op reply (Instr.In to) told (sym (ap value_wanted want))
    (λ v answer. value_answer c s own l e v (asking c s own l e w op reply (Answer.Value v) now told answer) (Instr.In to) to is refl refl (λ b t. refl) refl)
ready c good s own l e w op reply now told (Instr.Left to) is want =
    by_value c s own l e w op reply (Instr.Left to) told (sym (ap value_wanted want))
    (λ v answer. value_answer c s own l e v (asking c s own l e w op reply (Answer.Value v) now told answer) (Instr.Left to) to is refl refl (λ b t. refl) refl)
ready c good s own l e w op reply now told (Instr.Set place a d) is want =
    by_unit c s own l e w op reply (Instr.Set place a d) told (sym (ap unit_wanted want))
    (λ answer. told_next c s own l e Answer.Unit (asking c s own l e w op reply Answer.Unit now told answer) (Instr.Set place a d) is refl (λ k t. refl) refl)
ready c good s own l e w op reply now told (Instr.Store a b d) is want =
    by_unit c s own l e w op reply (Instr.Store a b d) told (sym (ap unit_wanted want))
    (λ answer. told_next c s own l e Answer.Unit (asking c s own l e w op reply Answer.Unit now told answer) (Instr.Store a b d) is refl (λ k t. refl) refl)
ready c good s own l e w op reply now told (Instr.Free a) is want =
    by_unit c s own l e w op reply (Instr.Free a) told (sym (ap unit_wanted want))
    (λ answer. told_next c s own l e Answer.Unit (asking c s own l e w op reply Answer.Unit now told answer) (Instr.Free a) is refl (λ k t. refl) refl)
ready c good s own l e w op reply now told (Instr.Out a) is want =
    by_unit c s own l e w op reply (Instr.Out a) told (sym (ap unit_wanted want))
    (λ answer. told_next c s own l e Answer.Unit (asking c s own l e w op reply Answer.Unit now told answer) (Instr.Out a) is refl (λ k t. refl) refl)
ready c good s own l e w op reply now told Instr.Turn is want =
    by_unit c s own l e w op reply Instr.Turn told (sym (ap unit_wanted want))
    (λ answer. told_next c s own l e Answer.Unit (asking c s own l e w op reply Answer.Unit now told answer) Instr.Turn is refl (λ k t. refl) refl)
ready c good s own l e w op reply now told (Instr.Fork join entries) is want =
    by_unit c s own l e w op reply (Instr.Fork join entries) told (sym (ap unit_wanted want))
    (λ answer. fork_told c s own l e (asking c s own l e w op reply Answer.Unit now told answer) join entries is)
ready c good s own l e w op reply now told (Instr.Call to f def args) is want =
    let same : Want.Call f ≡ w = cc in
    let called : Some (Op.Call f) ≡ Some op = ap op_wanted want ∙ told.is in
    let event : op ≡ Op.Call f = cc in
    let r = stack_reply c f reply (subst (λ (q : Want ℕ). IsReplyTo flat_meaning c q reply) (sym same) told.kind) in
    let tells : Tells c l.top.stack (Op.Call f) e.answer (ReplyOf.Stack r.0) =
    subst (λ q. Tells c l.top.stack (Op.Call f) e.answer q) r.1 (subst (λ q. Tells c l.top.stack q e.answer reply) event told.tells) in
    let at = stack_told c l.top.stack f e.answer r.0 tells in
    subst (λ q. IsAt c s (e ∷ own) (answered_first flat_meaning c l (Instr.Call to f def args) q)) (sym r.1)
    (call_told c s own l e (asking c s own l e w op reply Answer.Unit now told at.0) to f def args r.0 is
    (arguments_below c good l.top.fun l.top.at to f def args is) (framed (frame_words c f) l.top.stack r.0 at.1))
ready c good s own l e w op reply now told (Instr.Ret x (Some r)) is want =
    by_value c s own l e w op reply (Instr.Ret x (Some r)) told (sym (ap value_wanted want))
    (λ v answer. link_told c s own l e v (asking c s own l e w op reply (Answer.Value v) now told answer) x r is)
ready c good s own l e w op reply now told (Instr.Ret x None) is want = let none : None ≡ Some op = ap op_wanted want ∙ told.is in cc
ready c good s own l e w op reply now told Instr.End is want = let none : None ≡ Some op = ap op_wanted want ∙ told.is in cc
ready c good s own l e w op reply now told (Instr.Bin to bin a b) is want = by (divides bin) (nat_eq (temp flat_meaning l.top b) 0) want
  where
    by : (d z : Bool) → asked (divided_by d z to (bin_of bin (temp flat_meaning l.top a) (temp flat_meaning l.top b))) ≡ Some w
        → IsAt c s (e ∷ own) (answered_first flat_meaning c l (Instr.Bin to bin a b) reply)
    by true true want = let same : Want.Zero ≡ w = cc in absurd (subst (λ (q : Want ℕ). IsReplyTo flat_meaning c q reply) (sym same) told.kind)
    by true false want = cc
    by false true want = cc
    by false false want = cc
ready c good s own l e w op reply now told (Instr.Test x at_other at_zero) is want = by (nat_eq (temp flat_meaning l.top x) 0) want
  where
    by : (z : Bool) → asked (tested {V = ℕ} at_other at_zero (Some (not z))) ≡ Some w → IsAt c s (e ∷ own) (answered_first flat_meaning c l (Instr.Test x at_other at_zero) reply)
    by true want = cc
    by false want = cc
ready c good s own l e w op reply now told i is want = cc

-- a return, with or without a caller to go back to
returning : (c : Code) → GoodForm c → (s : Start) (own : List Entry) (l : FlatLife) (e : Entry) (link : ℕ) (steps : List Step) (op : Op) (callers : List FlatActivation)
    → IsPath c s steps own → IsFresh c s steps → IsLeaving c s steps link l.top callers → Some Op.Ret ≡ Some op → IsEntryOf e l.top op Answer.Unit
    → l.stage ≡ Stage.Leaving link → l.callers ≡ callers → IsAt c s (e ∷ own) (returns flat_meaning c l (Some link) (instr_of c l.top))
unfolding AreCallers
returning c good s own l e link steps op [] path fresh b is entry stage none =
    let event = return_event c s steps b.act l.top b.value b.read op b.ret is in
    let still = return_alone c s own l e link steps op path fresh b event entry none in
    subst (λ i. IsAt c s (e ∷ own) (returns flat_meaning c l (Some link) i)) (sym b.ret)
    (subst (λ q. IsAt c s (e ∷ own) (returned flat_meaning c l q (Some link) (temp flat_meaning l.top b.value))) (sym none)
    (subst (IsAt c s (e ∷ own)) (ap (with_stage l) (sym stage)) still))
returning c good s own l e link steps op (y ∷ callers) path fresh b is entry stage some =
    let event = return_event c s steps b.act l.top b.value b.read op b.ret is in
    subst (λ i. IsAt c s (e ∷ own) (returns flat_meaning c l (Some link) i)) (sym b.ret)
    (subst (λ q. IsAt c s (e ∷ own) (returned flat_meaning c l q (Some link) (temp flat_meaning l.top b.value))) (sym some)
    (return_told c good s own l e link y callers steps op path fresh b event entry))

-- by what is done of the instruction
pub fed : (c : Code) → GoodForm c → (s : Start) (own : List Entry) (l : FlatLife) (e : Entry) (w : Want ℕ) (op : Op) (reply : FlatReply) → IsAt c s own l → want_of flat_meaning c l ≡ Some w
    → IsToldOf c l e w op reply → IsAt c s (e ∷ own) (answered flat_meaning c l reply)
fed c good s own l e w op reply now want told = by l.stage refl now.stands.spot want
  where
    by : (stage : Stage ℕ FlatStack) → l.stage ≡ stage → StandsIn c s now.steps l stage → want_at flat_meaning c l.top stage ≡ Some w → IsAt c s (e ∷ own) (answered_at flat_meaning c l stage reply)
    by Stage.Ready at b want =
        ready c good s own l e w op reply (record { steps = now.steps; path = now.path; stands = b; fresh = now.stands.fresh; asks = want }) told (instr_of c l.top) refl want
    by (Stage.Entering z) at b want =
        let caller = caller_is c s now.steps (calls_in c now.steps) b.act l.top l.callers b.stack.below b.made in
        let pushes : Some (Want.Push (record { 0 = b.def }) z.stack.base) ≡ Some w = ap (λ i. link_write i (Some z.stack.base)) (sym b.call) ∙ want in
        let is = unit_reply c w reply (sym (ap unit_wanted pushes)) told.kind in
        let answer = unit_told c l.top.stack op e.answer (subst (Tells c l.top.stack op e.answer) is told.tells) in
        entering_told c s own l e z now.steps op now.path now.stands.fresh b
        (link_event c s now.steps b.act (calls_in c now.steps) l.top z b.to z.fun b.def b.args w op refl b.stack.own b.call want told.is)
        (entry_of c l e w op reply Answer.Unit told answer)
    by (Stage.Leaving link) at b want =
        let is = unit_reply c w reply (sym (ap unit_wanted want)) told.kind in
        let answer = unit_told c l.top.stack op e.answer (subst (Tells c l.top.stack op e.answer) is told.tells) in
        returning c good s own l e link now.steps op l.callers now.path now.stands.fresh b (ap op_wanted want ∙ told.is) (entry_of c l e w op reply Answer.Unit told answer) at refl
    by Stage.Waiting at b want = let none : None ≡ Some op = ap op_wanted want ∙ told.is in cc
