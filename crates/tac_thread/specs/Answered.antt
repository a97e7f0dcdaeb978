-- What the answer of an event makes of a thread.
use Rattle.std.specs.Prelude.{ℕ, suc, ◌+◌, ◌-◌, Bool, true, false, IsTrue, nat_eq, Option, Some, None, List, [], ◌∷◌, ◌++◌, map, length, replicate, pos}
use Rattle.tac_ir.specs.declared.code.Code.{Code}
use Rattle.tac_ir.specs.declared.code.BinOp.{BinOp}
use Rattle.tac_ir.specs.declared.code.Instr.{Instr}
use Rattle.tac_ir.specs.declared.code.Lined.{Lined}
use Rattle.tac_ir.specs.Layout.{lines_of}
use Rattle.tac_ir.specs.Path.{region_in}
use Rattle.tac_ir.specs.Counts.{temps_of}
use Rattle.tac_thread.specs.declared.guest.Activation.{Activation}
use Rattle.tac_thread.specs.declared.guest.Stage.{Stage}
use Rattle.tac_thread.specs.declared.want.Want.{Want}
use Rattle.tac_thread.specs.declared.want.ReplyOf.{ReplyOf}
use Rattle.tac_thread.specs.Meaning.{Meaning}
use Rattle.tac_thread.specs.tools.Fetched.{instr_in}
use Rattle.tac_thread.specs.Life.{Life, instr_of, zero_of, temp, with_temp, at_index, with_top, with_stage}

-- Calls.

-- these values, and then 0, up to the number of temporaries of function f
abbrev pub temps_from : {V S : Type 0} → Meaning V S → Code → ℕ → List V → List V
temps_from m c f values = values ++ replicate (temps_of c f - length values) (zero_of m)

-- the activation of a called function: its first temporaries are the arguments
abbrev pub called : {V S : Type 0} → Meaning V S → Code → Activation V S → ℕ → List ℕ → S → Activation V S
called m c caller f args stack = record { fun = f; at = 0; temps = temps_from m c f (map (temp m caller) args); stack = stack }

-- a new activation on top
abbrev pub entered : {V S : Type 0} → Life V S → Activation V S → Life V S
entered l callee = record { top = callee; callers = l.top ∷ l.callers; stage = Stage.Ready }

-- the callee that a thread is to enter
abbrev pub entered_stage : {V S : Type 0} → Life V S → Stage V S → Life V S
entered_stage l (Stage.Entering callee) = entered l callee
entered_stage l stage = l

-- in a domain with links the link of the new frame is written first
abbrev pub calls : {V S : Type 0} → Life V S → Activation V S → Option ℕ → Life V S
calls l callee None = entered l callee
calls l callee (Some word) = with_stage l (Stage.Entering callee)

-- Returns.

-- whether a value is the number of a definition
abbrev pub is_number : {V S : Type 0} → Meaning V S → V → ℕ → Bool
is_number m link d = elim (m.bin BinOp.Eq link (m.int (pos d))) [
  | None ↦ false
  | Some same ↦ elim (m.truth same) [ Some true ↦ true | _ ↦ false ]
]

abbrev pub is_call_named : {V S : Type 0} → Meaning V S → V → Instr → Bool
is_call_named m link (Instr.Call to f def args) = is_number m link def
is_call_named m link i = false

-- the index, counted from this one on, of the first call whose definition the link names
abbrev pub named_call : {V S : Type 0} → Meaning V S → V → ℕ → List Lined → Option ℕ
named_call m link at [] = None
named_call m link at (l ∷ rest) = elim (is_call_named m link l.instr) [ true ↦ Some at | false ↦ named_call m link (suc at) rest ]

-- the index of the call after which a return goes on: that which the link names, where it stands in the region of the call
-- that made the frame, else the latter
abbrev pub resumed_at : {V S : Type 0} → Meaning V S → List Lined → ℕ → V → ℕ
resumed_at m code made link =
    elim (named_call m link 0 code) [
      | None ↦ made
      | Some at ↦ elim (nat_eq (region_in code at) (region_in code made)) [ true ↦ at | false ↦ made ]
    ]

-- the activation behind its call, which gave this value
abbrev pub behind_call : {V S : Type 0} → Activation V S → ℕ → V → Instr → Activation V S
behind_call a at v (Instr.Call to f def args) = at_index (with_temp a to v) (at + 1)
behind_call a at v i = a

abbrev pub resumed : {V S : Type 0} → Code → Activation V S → ℕ → V → Activation V S
resumed c caller at v = behind_call caller at v (instr_in (lines_of c caller.fun) at)

-- the index of the call behind which a return goes on in a caller, by the link that was read; without one, that at which the
-- caller stands
abbrev pub back_at : {V S : Type 0} → Meaning V S → Code → Option V → Activation V S → ℕ
back_at m c None caller = caller.at
back_at m c (Some link) caller = resumed_at m (lines_of c caller.fun) caller.at link

-- the thread in its newest caller; a thread without a caller stands still
abbrev pub returned : {V S : Type 0} → Meaning V S → Code → Life V S → List (Activation V S) → Option V → V → Life V S
returned m c l [] link v = l
returned m c l (caller ∷ callers) link v = record { top = resumed c caller (back_at m c link caller) v; callers = callers; stage = Stage.Ready }

abbrev pub returns : {V S : Type 0} → Meaning V S → Code → Life V S → Option V → Instr → Life V S
returns m c l link (Instr.Ret x r) = returned m c l l.callers link (temp m l.top x)
returns m c l link i = l

-- Answers.

-- the temporary to which an instruction gives the value of its answer
abbrev pub target_of : Instr → Option ℕ
target_of (Instr.Get to place r) = Some to
target_of (Instr.Load to a r) = Some to
target_of (Instr.Same to ne a b) = Some to
target_of (Instr.New to a site) = Some to
target_of (Instr.In to) = Some to
target_of (Instr.Left to) = Some to
target_of i = None

-- a thread that was answered goes on behind its instruction
abbrev pub next_with : {V S : Type 0} → Life V S → Option ℕ → V → Life V S
next_with l None v = l
next_with l (Some to) v = with_top l (at_index (with_temp l.top to v) (l.top.at + 1))

abbrev pub next_of : {V S : Type 0} → Life V S → Life V S
next_of l = with_top l (at_index l.top (l.top.at + 1))

-- by the value of its answer; what a return's link read found is kept
abbrev pub with_value : {V S : Type 0} → Life V S → V → Instr → Life V S
with_value l v (Instr.Ret x r) = with_stage l (Stage.Leaving v)
with_value l v i = next_with l (target_of i) v

-- without a value
abbrev pub with_none : {V S : Type 0} → Meaning V S → Code → Life V S → Instr → Life V S
with_none m c l (Instr.Set place x d) = next_of l
with_none m c l (Instr.Store x y d) = next_of l
with_none m c l (Instr.Free x) = next_of l
with_none m c l (Instr.Out x) = next_of l
with_none m c l Instr.Turn = next_of l
with_none m c l (Instr.Fork join entries) = with_stage l Stage.Waiting
with_none m c l (Instr.Ret x r) = returns m c l None (Instr.Ret x r)
with_none m c l i = l

-- with a stack for the function that an instruction calls
abbrev pub with_stack : {V S : Type 0} → Meaning V S → Code → Life V S → S → Instr → Life V S
with_stack m c l s (Instr.Call to f def args) = calls l (called m c l.top f args s) (m.link s)
with_stack m c l s i = l

-- nothing was done of the instruction
abbrev pub answered_first : {V S : Type 0} → Meaning V S → Code → Life V S → Instr → ReplyOf V S → Life V S
answered_first m c l i ReplyOf.Unit = with_none m c l i
answered_first m c l i (ReplyOf.Value v) = with_value l v i
answered_first m c l i (ReplyOf.Stack s) = with_stack m c l s i

abbrev pub answered_at : {V S : Type 0} → Meaning V S → Code → Life V S → Stage V S → ReplyOf V S → Life V S
answered_at m c l Stage.Ready reply = answered_first m c l (instr_of c l.top) reply
answered_at m c l (Stage.Entering callee) reply = entered l callee
answered_at m c l (Stage.Leaving link) reply = returns m c l (Some link) (instr_of c l.top)
answered_at m c l Stage.Waiting reply = l

-- the thread after an answer of the kind that it asks for
abbrev pub answered : {V S : Type 0} → Meaning V S → Code → Life V S → ReplyOf V S → Life V S
answered m c l reply = answered_at m c l l.stage reply

-- the thread after all its branches have ended
abbrev pub joined_at : {V S : Type 0} → Life V S → Instr → Life V S
joined_at l (Instr.Fork join entries) = with_top l (at_index l.top join)
joined_at l i = l

abbrev pub joined : {V S : Type 0} → Code → Life V S → Life V S
joined c l = joined_at l (instr_of c l.top)

-- What an event is answered: by a value, by the stack of the function that is called, or by nothing. What ends a thread or the
-- run, and what waits, is not answered.
abbrev pub IsReplyTo : {V S : Type 0} → Meaning V S → Code → Want V → ReplyOf V S → Type 0
IsReplyTo m c (Want.Read r word) (ReplyOf.Value v) = Unit {0}
IsReplyTo m c (Want.Write d word value) ReplyOf.Unit = Unit {0}
IsReplyTo m c (Want.Same a b ne) (ReplyOf.Value v) = Unit {0}
IsReplyTo m c (Want.New site count) (ReplyOf.Value v) = Unit {0}
IsReplyTo m c (Want.Free word) ReplyOf.Unit = Unit {0}
IsReplyTo m c Want.In (ReplyOf.Value v) = Unit {0}
IsReplyTo m c Want.Left (ReplyOf.Value v) = Unit {0}
IsReplyTo m c (Want.Out value) ReplyOf.Unit = Unit {0}
IsReplyTo m c (Want.Call f) (ReplyOf.Stack s) = IsTrue (m.has_frame c f s)
IsReplyTo m c Want.Ret ReplyOf.Unit = Unit {0}
IsReplyTo m c Want.Turn ReplyOf.Unit = Unit {0}
IsReplyTo m c (Want.Fork branches) ReplyOf.Unit = Unit {0}
IsReplyTo m c (Want.Push d word) ReplyOf.Unit = Unit {0}
IsReplyTo m c (Want.Pop r word) (ReplyOf.Value v) = Unit {0}
IsReplyTo m c want reply = ⊥
