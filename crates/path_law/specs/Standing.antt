-- A life of a thread over words of 32 bits, and the path of a run.
use Rattle.std.specs.Prelude.{◌≡◌, ℕ, ◌≤◌, ◌<◌, true, false, Some, None, List, [], ◌∷◌, length}
use Rattle.dfi_base.specs.declared.numbers.Point.{Point}
use Rattle.tac_ir.specs.declared.code.Code.{Code}
use Rattle.tac_ir.specs.declared.code.Instr.{Instr}
use Rattle.tac_ir.specs.declared.run.Entry.{Entry}
use Rattle.tac_ir.specs.Effect.{Spot}
use Rattle.tac_ir.specs.Path.{Step, Start, calls_in, call_of, frame_end, base_of, link_read, temp_of, next_spot, IsPath}
use Rattle.tac_ir.specs.Counts.{temps_of}
use Rattle.tac_thread.specs.declared.flat.FlatStack.{FlatStack}
use Rattle.tac_thread.specs.declared.guest.Activation.{Activation}
use Rattle.tac_thread.specs.declared.guest.Stage.{Stage}
use Rattle.tac_thread.specs.Life.{Life, instr_of, temp, at_index}
use Rattle.tac_thread.specs.Flat.{flat_meaning}

abbrev pub FlatActivation : Type 0
FlatActivation = Activation ℕ FlatStack

abbrev pub FlatLife : Type 0
FlatLife = Life ℕ FlatStack

-- the point of an activation
abbrev pub point_of : FlatActivation → Point
point_of x = record { fun = x.fun; at = x.at }

-- before the first step of the instruction of activation a, and before the second
abbrev pub first_spot : ℕ → FlatActivation → Spot
first_spot a x = record { act = a; point = point_of x; second = false }

abbrev pub second_spot : ℕ → FlatActivation → Spot
second_spot a x = record { act = a; point = point_of x; second = true }

-- Activation a of the path of these steps is this one: it has the same temporaries, and its frame stands at the same words.
pub record IsActivation (c : Code) (s : Start) (steps : List Step) (a : ℕ) (x : FlatActivation) : Type 0 where
  pub temps : temp_of c s steps a ≡ temp flat_meaning x
  pub size : length x.temps ≡ temps_of c x.fun
  pub base : base_of c s steps a ≡ x.stack.base
  pub top : frame_end c s steps a ≡ x.stack.top
  pub limit : s.region_end ≡ x.stack.«end»
  pub made : a ≤ calls_in c steps

abbrev pub IsCall : Instr → Type 0
IsCall (Instr.Call to f def args) = Unit {0}
IsCall i = ⊥

-- These activations, the newest first, called activation a: each stands at the call that made the one before it.
unfoldable pub AreCallers : Code → Start → List Step → ℕ → List FlatActivation → Type 0
AreCallers c s steps a [] = call_of c steps a ≡ None
AreCallers c s steps a (y ∷ callers) =
    (b : ℕ) × (b < a) × (call_of c steps a ≡ Some (first_spot b y)) × IsCall (instr_of c y) × IsActivation c s steps b y × AreCallers c s steps b callers

-- activation a and its callers
pub record IsStack (c : Code) (s : Start) (steps : List Step) (a : ℕ) (x : FlatActivation) (callers : List FlatActivation) : Type 0 where
  pub own : IsActivation c s steps a x
  pub below : AreCallers c s steps a callers

-- the path stands before the first step of an instruction
pub record IsBefore (c : Code) (s : Start) (steps : List Step) (x : FlatActivation) (callers : List FlatActivation) : Type 0 where
  pub act : ℕ
  pub spot : next_spot c s steps ≡ first_spot act x
  pub stack : IsStack c s steps act x callers

-- the path stands between a call and the write of the link of the callee's frame
pub record IsEntering (c : Code) (s : Start) (steps : List Step) (callee x : FlatActivation) (callers : List FlatActivation) : Type 0 where
  pub act : ℕ
  pub spot : next_spot c s steps ≡ second_spot act x
  pub stack : IsStack c s steps (calls_in c steps) callee (x ∷ callers)
  pub made : call_of c steps (calls_in c steps) ≡ Some (first_spot act x)
  pub to : ℕ
  pub def : ℕ
  pub args : List ℕ
  pub call : instr_of c x ≡ Instr.Call to callee.fun def args
  pub entry : callee.at ≡ 0

-- the path stands between the read of a link and the return
pub record IsLeaving (c : Code) (s : Start) (steps : List Step) (link : ℕ) (x : FlatActivation) (callers : List FlatActivation) : Type 0 where
  pub act : ℕ
  pub spot : next_spot c s steps ≡ second_spot act x
  pub stack : IsStack c s steps act x callers
  pub value : ℕ
  pub read : ℕ
  pub ret : instr_of c x ≡ Instr.Ret value (Some read)
  -- what the link was; a life's first activation has no call to go back to
  pub found : (called : Spot) → call_of c steps act ≡ Some called → link_read steps ≡ link

-- a life waits at its fork, and the path stands at the join already
pub record IsBehindFork (c : Code) (s : Start) (steps : List Step) (x : FlatActivation) (callers : List FlatActivation) : Type 0 where
  pub join : ℕ
  pub entries : List ℕ
  pub fork : instr_of c x ≡ Instr.Fork join entries
  pub before : IsBefore c s steps (at_index x join) callers

-- by what is done of the instruction
abbrev pub StandsIn : Code → Start → List Step → FlatLife → Stage ℕ FlatStack → Type 0
StandsIn c s steps l Stage.Ready = IsBefore c s steps l.top l.callers
StandsIn c s steps l (Stage.Entering callee) = IsEntering c s steps callee l.top l.callers
StandsIn c s steps l (Stage.Leaving link) = IsLeaving c s steps link l.top l.callers
StandsIn c s steps l Stage.Waiting = IsBehindFork c s steps l.top l.callers

-- The life stands where the path of these steps has come to.
pub record Stands (c : Code) (s : Start) (steps : List Step) (l : FlatLife) : Type 0 where
  pub spot : StandsIn c s steps l l.stage
  -- activations to come have no values
  pub fresh : (a t : ℕ) → calls_in c steps < a → temp_of c s steps a t ≡ 0

-- The life of a thread that began so stands where the path of these entries of its own has come to.
pub record IsAt (c : Code) (s : Start) (own : List Entry) (l : FlatLife) : Type 0 where
  pub steps : List Step
  pub path : IsPath c s steps own
  pub stands : Stands c s steps l
