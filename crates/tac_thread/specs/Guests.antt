-- What every guest of a code keeps.
use Rattle.std.specs.Prelude.{◌≡◌, ℕ, ◌≤◌, IsTrue, Some, List, [], ◌∷◌, length}
use Rattle.tac_ir.specs.declared.code.Code.{Code}
use Rattle.tac_ir.specs.declared.code.Instr.{Instr}
use Rattle.tac_ir.specs.Counts.{temps_of}
use Rattle.tac_thread.specs.declared.guest.Activation.{Activation}
use Rattle.tac_thread.specs.declared.guest.Stage.{Stage}
use Rattle.tac_thread.specs.declared.want.Want.{Want}
use Rattle.tac_thread.specs.declared.want.ReplyOf.{ReplyOf}
use Rattle.tac_thread.specs.Meaning.{Meaning}
use Rattle.tac_thread.specs.Life.{Life, instr_of}
use Rattle.tac_thread.specs.Doing.{link_write, want_of}
use Rattle.tac_thread.specs.Answered.{IsReplyTo}

-- its stack has a frame of its function
abbrev pub IsFramed : {V S : Type 0} → Meaning V S → Code → Activation V S → Type 0
IsFramed m c a = IsTrue (m.has_frame c a.fun a.stack)

-- and it has a value for each temporary of that function
pub record IsWhole {V S : Type 0} (m : Meaning V S) (c : Code) (a : Activation V S) : Type 0 where
  pub frame : IsFramed m c a
  pub temps : length a.temps ≡ temps_of c a.fun

abbrev pub AreWhole : {V S : Type 0} → Meaning V S → Code → List (Activation V S) → Type 0
AreWhole m c [] = Unit {0}
AreWhole m c (a ∷ callers) = IsWhole m c a × AreWhole m c callers

-- a callee that is entered is whole, and its link is to be written
abbrev pub IsEntering : {V S : Type 0} → Meaning V S → Code → Instr → Stage V S → Type 0
IsEntering {V} m c i (Stage.Entering callee) = IsWhole m c callee × ((w : Want V) × (link_write i (m.link callee.stack) ≡ Some w))
IsEntering m c i stage = Unit {0}

-- each activation is whole
pub record IsHeld {V S : Type 0} (m : Meaning V S) (c : Code) (l : Life V S) : Type 0 where
  pub top : IsWhole m c l.top
  pub callers : AreWhole m c l.callers
  pub entering : IsEntering m c (instr_of c l.top) l.stage

-- this is a life of a thread of this code, at rest before an event
pub record IsGuestOf {V S : Type 0} (m : Meaning V S) (c : Code) (l : Life V S) : Type 0 where
  pub held : IsHeld m c l
  pub want : Want V
  pub wants : want_of m c l ≡ Some want

-- the answer is of the kind that its next event has
abbrev pub TakesReply : {V S : Type 0} → Meaning V S → Code → Life V S → ReplyOf V S → Type 0
TakesReply {V} m c l reply = (w : Want V) × (want_of m c l ≡ Some w) × IsReplyTo m c w reply

-- it is to fork, into i branches or more
abbrev pub IsForkOf : {V S : Type 0} → Meaning V S → Code → Life V S → ℕ → Type 0
IsForkOf m c l i = (n : ℕ) × (want_of m c l ≡ Some (Want.Fork n)) × (i ≤ n)
