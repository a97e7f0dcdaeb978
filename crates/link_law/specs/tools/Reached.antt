-- Return links as definitions that reach: each activation is reached by its own call.
use Rattle.std.specs.Prelude.{◌≡◌, ℕ, ◌-◌, true, Option, Some, List, [], ◌∷◌, slice_get}
use Rattle.dfi_base.specs.declared.numbers.Point.{Point}
use Rattle.tac_ir.specs.declared.code.Code.{Code}
use Rattle.tac_ir.specs.declared.code.Instr.{Instr}
use Rattle.tac_ir.specs.Regions.{Region, regions_of}
use Rattle.tac_ir.specs.NumberLaws.{new_call}
use Rattle.tac_thread.specs.declared.guest.Activation.{Activation}
use Rattle.tac_thread.specs.declared.guest.Stage.{Stage}
use Rattle.tac_thread.specs.declared.want.ReplyOf.{ReplyOf}
use Rattle.tac_thread.specs.Meaning.{Meaning}
use Rattle.tac_thread.specs.Life.{Life, instr_of}
use Rattle.tac_thread.specs.Answered.{back_at}
use Rattle.tac_thread.specs.Threads.{is_waiting}
use Rattle.tree_law.specs.Placed.{IsPlaced, IsBranchOf}
use Rattle.link_law.specs.Linked.{IsBelow}

abbrev pub spot : {V S : Type 0} → Activation V S → Point
spot x = record { fun = x.fun; at = x.at }

-- What reaches a caller reaches what it called, and each activation but the first is reached by its own call; the first has P.
unfoldable pub AreReached : {V S : Type 0} → (Point → ℕ → ℕ → Type 0) → Code → (Point → Type 0) → Activation V S → List (Activation V S) → Type 0
AreReached R c P x [] = P (spot x)
AreReached R c P x (y ∷ callers) = IsBelow R (spot y) (spot x) × ((d : ℕ) → new_call (instr_of c y) ≡ Some d → R (spot x) d x.fun) × AreReached R c P y callers

-- an activation that is to be entered stands at its function's entry
abbrev pub EntersAtEntry : {V S : Type 0} → Stage V S → Type 0
EntersAtEntry (Stage.Entering callee) = callee.at ≡ 0
EntersAtEntry stage = Unit {0}

-- a thread whose link was read goes on behind the call at which its caller stands
abbrev pub GoesHome : {V S : Type 0} → Meaning V S → Code → Life V S → Type 0
GoesHome {V} {S} m c l = (link : V) (y : Activation V S) (callers : List (Activation V S)) → l.stage ≡ Stage.Leaving link → l.callers ≡ y ∷ callers → back_at m c (Some link) y ≡ y.at

-- the link that a thread reads names that call, or none in its region
abbrev pub ReadsHome : {V S : Type 0} → Meaning V S → Code → Life V S → ReplyOf V S → Type 0
ReadsHome {V} {S} m c l reply = (v : V) (y : Activation V S) (callers : List (Activation V S)) (x : ℕ) (read : Option ℕ) → l.stage ≡ Stage.Ready → instr_of c l.top ≡ Instr.Ret x read
    → reply ≡ ReplyOf.Value v → l.callers ≡ y ∷ callers → back_at m c (Some v) y ≡ y.at

pub record IsReached {V S : Type 0} (m : Meaning V S) (R : Point → ℕ → ℕ → Type 0) (c : Code) (P : Point → Type 0) (l : Life V S) : Type 0 where
  pub stands : AreReached R c P l.top l.callers
  pub enters : EntersAtEntry l.stage
  pub home : GoesHome m c l

abbrev pub any_point : Point → Type 0
any_point p = Unit {0}

-- thread 1
pub record IsRootReached {V S : Type 0} (m : Meaning V S) (R : Point → ℕ → ℕ → Type 0) (c : Code) (l : Life V S) : Type 0 where
  pub placed : IsPlaced c c.main 0 l
  pub reached : IsReached m R c any_point l

-- what reaches the fork at which a thread waits reaches its branch i
pub record IsReachedIn {V S : Type 0} (m : Meaning V S) (R : Point → ℕ → ℕ → Type 0) (c : Code) (p : Life V S) (i : ℕ) (l : Life V S) : Type 0 where
  pub branch : IsBranchOf c p i l
  pub reached : IsReached m R c (IsBelow R (spot p.top)) l

-- and the `end` of its branch i, where that has ended
abbrev pub IsReachedAt : {V S : Type 0} → (Point → ℕ → ℕ → Type 0) → Code → Life V S → ℕ → Type 0
IsReachedAt R c p i = is_waiting p.stage ≡ true → (join : ℕ) (entries : List ℕ) (r : Region) → instr_of c p.top ≡ Instr.Fork join entries
    → slice_get (regions_of p.top.at join entries) (i - 1) ≡ Some r → IsBelow R (spot p.top) (record { fun = p.top.fun; at = r.last })
