-- What guests keep: an answer leaves each activation its frame, and a thread that rests wants something.
use Rattle.std.proofs.Common.{◌≡◌, ℕ, List, [], ◌∷◌, refl, sym, ap, ◌∙◌, subst, Option, Some, None, suc, ◌-◌, ◌≤◌, length, map, replicate, max, arith}
use Rattle.std.specs.Prelude.{IsTrue, slice_get}
use Rattle.tac_ir.specs.declared.code.Code.{Code}
use Rattle.tac_ir.specs.declared.code.Instr.{Instr}
use Rattle.tac_thread.specs.declared.guest.Activation.{Activation}
use Rattle.tac_thread.specs.declared.guest.Stage.{Stage}
use Rattle.tac_thread.specs.declared.doing.Doing.{Doing}
use Rattle.tac_thread.specs.declared.want.Want.{Want}
use Rattle.tac_thread.specs.declared.want.ReplyOf.{ReplyOf}
use Rattle.tac_thread.specs.Meaning.{Meaning}
use Rattle.std.proofs.lemmas.List.{length-append, length-map}
use Rattle.std.proofs.Math.ListN.{length-set, length-replicate}
use Rattle.tac_ir.specs.declared.code.Fun.{Fun}
use Rattle.tac_ir.specs.declared.code.Lined.{Lined}
use Rattle.tac_ir.specs.Layout.{lines_of}
use Rattle.tac_ir.specs.Counts.{temps_named, past, temps_in, temps_of_fun, temps_of}
use Rattle.tac_ir.specs.GoodForm.{GoodForm, NamesExist, params_of}
use Rattle.tac_thread.specs.tools.Fetched.{instr_in}
use Rattle.tac_thread.proofs.Usable.{usable_line}
use Rattle.tac_thread.specs.Life.{zero_of, Life, instr_of, temp}
use Rattle.tac_thread.specs.Doing.{doing, asked, link_write, want_at, want_of, done, silent_at, silent_next}
use Rattle.tac_thread.specs.RunsOn.{RunsOn}
use Rattle.tac_thread.specs.RunsOn.RunsOn.{rests, runs}
use Rattle.tac_thread.specs.Answered.{temps_from, called, entered, calls, returned, returns, behind_call, back_at, with_value, with_none, with_stack, answered_first, answered_at, answered, IsReplyTo}
use Rattle.tac_thread.specs.Guests.{IsWhole, AreWhole, IsEntering, IsHeld, IsGuestOf, TakesReply}

-- at rest

rested : {X T : Type 0} (m : Meaning X T) (c : Code) (l k : Life X T) → RunsOn m c l k → silent_next m c k ≡ None
rested m c l k (rests n quiet) = quiet
rested m c l k (runs n next last step rest) = rested m c next last rest

wants_of : {X T : Type 0} (m : Meaning X T) (c : Code) (l : Life X T) → IsHeld m c l → silent_next m c l ≡ None → (w : Want X) × (want_of m c l ≡ Some w)
wants_of {X} {T} m c l held quiet = by l.stage held.entering quiet
  where
    ready : (d : Doing X) → done l d ≡ None → (w : Want X) × (asked d ≡ Some w)
    ready (Doing.Gives to v) e = cc
    ready (Doing.Goes at) e = cc
    ready (Doing.Asks w) e = (w, refl)

    by : (s : Stage X T) → IsEntering m c (instr_of c l.top) s → silent_at m c l s ≡ None → (w : Want X) × (want_at m c l.top s ≡ Some w)
    by Stage.Ready entering e = ready _ e
    by (Stage.Entering callee) entering e = entering.1
    by (Stage.Leaving v) entering e = (Want.Ret, refl)
    by Stage.Waiting entering e = (Want.Waits, refl)

pub guest_at_rest : {X T : Type 0} (m : Meaning X T) (c : Code) (l k : Life X T) → IsHeld m c k → RunsOn m c l k → IsGuestOf m c k
guest_at_rest m c l k held run =
    let w = wants_of m c k held (rested m c l k run) in
    record { held = held; want = w.0; wants = w.1 }

-- after an answer

-- another index, or other temporaries
same_frames : {X T : Type 0} (m : Meaning X T) (c : Code) (a : Activation X T) (l : Life X T) → IsHeld m c l → a.fun ≡ l.top.fun → a.stack ≡ l.top.stack → length a.temps ≡ length l.top.temps
    → IsHeld m c (record { top = a; callers = l.callers; stage = Stage.Ready })
same_frames m c a l held fun stack temps = record {
  top = record {
    frame = subst (λ s. IsTrue (m.has_frame c a.fun s)) (sym stack) (subst (λ f. IsTrue (m.has_frame c f l.top.stack)) (sym fun) held.top.frame);
    temps = temps ∙ held.top.temps ∙ ap (temps_of c) (sym fun);
  };
  callers = held.callers;
  entering = tt;
}

held_resumed : {X T : Type 0} (m : Meaning X T) (c : Code) (a : Activation X T) (at : ℕ) (v : X) (i : Instr) → IsWhole m c a → IsWhole m c (behind_call a at v i)
held_resumed m c a at v (Instr.Call to f def args) h = record { frame = h.frame; temps = length-set a.temps to v ∙ h.temps }
held_resumed m c a at v i h = h

held_returned : {X T : Type 0} (m : Meaning X T) (c : Code) (l : Life X T) (callers : List (Activation X T)) (link : Option X) (v : X)
    → IsHeld m c l → AreWhole m c callers → IsHeld m c (returned m c l callers link v)
held_returned m c l [] link v held framed = held
held_returned m c l (caller ∷ callers) link v held framed = record {
  top = held_resumed m c caller (back_at m c link caller) v _ framed.0;
  callers = framed.1;
  entering = tt;
}

held_returns : {X T : Type 0} (m : Meaning X T) (c : Code) (l : Life X T) (link : Option X) (i : Instr) → IsHeld m c l → IsHeld m c (returns m c l link i)
held_returns m c l link (Instr.Ret x r) held = held_returned m c l l.callers link (temp m l.top x) held held.callers
held_returns m c l link i held = held

-- a stage in which no callee waits
held_staged : {X T : Type 0} (m : Meaning X T) (c : Code) (l : Life X T) (s : Stage X T) → IsEntering m c (instr_of c l.top) s → IsHeld m c l → IsHeld m c (record l { stage = s })
held_staged m c l s entering held = record { top = held.top; callers = held.callers; entering = entering }

held_value : {X T : Type 0} (m : Meaning X T) (c : Code) (l : Life X T) (v : X) (i : Instr) → IsHeld m c l → IsHeld m c (with_value l v i)
held_value m c l v (Instr.Ret x r) held = held_staged m c l (Stage.Leaving v) tt held
held_value m c l v (Instr.Get to place r) held = same_frames m c _ l held refl refl (length-set l.top.temps to v)
held_value m c l v (Instr.Load to a r) held = same_frames m c _ l held refl refl (length-set l.top.temps to v)
held_value m c l v (Instr.Same to ne a b) held = same_frames m c _ l held refl refl (length-set l.top.temps to v)
held_value m c l v (Instr.New to a site) held = same_frames m c _ l held refl refl (length-set l.top.temps to v)
held_value m c l v (Instr.In to) held = same_frames m c _ l held refl refl (length-set l.top.temps to v)
held_value m c l v (Instr.Left to) held = same_frames m c _ l held refl refl (length-set l.top.temps to v)
held_value m c l v i held = held

held_none : {X T : Type 0} (m : Meaning X T) (c : Code) (l : Life X T) (i : Instr) → IsHeld m c l → IsHeld m c (with_none m c l i)
held_none m c l (Instr.Set place x d) held = same_frames m c _ l held refl refl refl
held_none m c l (Instr.Store x y d) held = same_frames m c _ l held refl refl refl
held_none m c l (Instr.Free x) held = same_frames m c _ l held refl refl refl
held_none m c l (Instr.Out x) held = same_frames m c _ l held refl refl refl
held_none m c l Instr.Turn held = same_frames m c _ l held refl refl refl
held_none m c l (Instr.Fork join entries) held = held_staged m c l Stage.Waiting tt held
held_none m c l (Instr.Ret x r) held = held_returned m c l l.callers None (temp m l.top x) held held.callers
held_none m c l i held = held

held_entered : {X T : Type 0} (m : Meaning X T) (c : Code) (l : Life X T) (callee : Activation X T) → IsWhole m c callee → IsHeld m c l → IsHeld m c (entered l callee)
held_entered m c l callee framed held = record { top = framed; callers = (held.top, held.callers); entering = tt }

held_calls : {X T : Type 0} (m : Meaning X T) (c : Code) (l : Life X T) (callee : Activation X T) (link : Option ℕ) (i : Instr) → i ≡ instr_of c l.top
    → link ≡ m.link callee.stack → IsWhole m c callee → ((w : ℕ) → (n : Want X) × (link_write i (Some w) ≡ Some n)) → IsHeld m c l → IsHeld m c (calls l callee link)
held_calls m c l callee None i is link framed writes held = held_entered m c l callee framed held
held_calls {X} m c l callee (Some word) i is link framed writes held =
    let write = writes word in
    let at_link : link_write i (m.link callee.stack) ≡ Some write.0 = ap (link_write i) (sym link) ∙ write.1 in
    held_staged m c l (Stage.Entering callee) (framed, (write.0, subst (λ j. link_write j (m.link callee.stack) ≡ Some write.0) is at_link)) held

-- a function has a temporary for each parameter
past-least : (least : ℕ) (ns : List ℕ) → least ≤ past least ns
past-least least [] = omega arith
past-least least (n ∷ ns) = omega (arith, past-least (max least (suc n)) ns)

temps-least : (least : ℕ) (code : List Lined) → least ≤ temps_in least code
temps-least least [] = omega arith
temps-least least (l ∷ code) = omega (arith, past-least least (temps_named l.instr), temps-least (past least (temps_named l.instr)) code)

params_within : (c : Code) (f : ℕ) → params_of c f ≤ temps_of c f
params_within c f = by (slice_get c.funs f)
  where
    by : (o : Option Fun) → elim o [ None ↦ 0 | Some fun ↦ fun.params ] ≤ elim o [ None ↦ 0 | Some fun ↦ temps_of_fun fun ]
    by None = omega arith
    by (Some fun) = temps-least fun.params fun.code

-- a new activation has a value for each temporary
pub all_temps : {X T : Type 0} (m : Meaning X T) (c : Code) (f : ℕ) (values : List X) → length values ≤ temps_of c f → length (temps_from m c f values) ≡ temps_of c f
all_temps m c f values h =
    let filled : length (replicate (temps_of c f - length values) (zero_of m)) ≡ temps_of c f - length values = length-replicate (temps_of c f - length values) (zero_of m) in
    omega (arith, length-append values (replicate (temps_of c f - length values) (zero_of m)), filled)

names_at : (c : Code) → GoodForm c → (f at : ℕ) → NamesExist c f (instr_in (lines_of c f) at)
names_at c good f at = by (slice_get (lines_of c f) at) refl
  where
    by : (o : Option Lined) → slice_get (lines_of c f) at ≡ o → NamesExist c f (elim o [ None ↦ Instr.End | Some l ↦ l.instr ])
    by None e = tt
    by (Some l) e = (usable_line c good f at l e).names

held_stack : {X T : Type 0} (m : Meaning X T) (c : Code) (l : Life X T) (s : T) (i : Instr) (w : Want X) → NamesExist c l.top.fun i → i ≡ instr_of c l.top
    → asked (doing m c l.top i) ≡ Some w → IsReplyTo m c w (ReplyOf.Stack s) → IsHeld m c l → IsHeld m c (with_stack m c l s i)
held_stack {X} m c l s (Instr.Call to f def args) w names is want kind held =
    let same : Want.Call f ≡ w = (cc) in
    let framed : IsTrue (m.has_frame c f s) = subst (λ (n : Want X). IsReplyTo m c n (ReplyOf.Stack s)) (sym same) kind in
    let values : List X = map (temp m l.top) args in
    let few : length values ≤ temps_of c f = omega (arith, length-map args (temp m l.top), names.count, params_within c f) in
    held_calls m c l (called m c l.top f args s) (m.link s) (Instr.Call to f def args) is refl (record { frame = framed; temps = all_temps m c f values few }) (λ word. (_, refl)) held
held_stack m c l s i w names is want kind held = held

held_first : {X T : Type 0} (m : Meaning X T) (c : Code) → GoodForm c → (l : Life X T) (reply : ReplyOf X T) (w : Want X)
    → asked (doing m c l.top (instr_of c l.top)) ≡ Some w → IsReplyTo m c w reply → IsHeld m c l → IsHeld m c (answered_first m c l (instr_of c l.top) reply)
held_first m c good l ReplyOf.Unit w want kind held = held_none m c l (instr_of c l.top) held
held_first m c good l (ReplyOf.Value v) w want kind held = held_value m c l v (instr_of c l.top) held
held_first m c good l (ReplyOf.Stack s) w want kind held = held_stack m c l s (instr_of c l.top) w (names_at c good l.top.fun l.top.at) refl want kind held

pub held_answered : {X T : Type 0} (m : Meaning X T) (c : Code) → GoodForm c → (l : Life X T) (reply : ReplyOf X T) → TakesReply m c l reply → IsHeld m c l → IsHeld m c (answered m c l reply)
held_answered {X} {T} m c good l reply kind held = by l.stage held.entering kind.1
  where
    by : (s : Stage X T) → IsEntering m c (instr_of c l.top) s → want_at m c l.top s ≡ Some kind.0 → IsHeld m c (answered_at m c l s reply)
    by Stage.Ready entering want = held_first m c good l reply kind.0 want kind.2 held
    by (Stage.Entering callee) entering want = held_entered m c l callee entering.0 held
    by (Stage.Leaving v) entering want = held_returns m c l (Some v) (instr_of c l.top) held
    by Stage.Waiting entering want = held
