-- A thread's path: the steps of one life of a thread, the newest first, and what the next step is.
use Rattle.std.specs.Prelude.{◌≡◌, ℕ, suc, ◌+◌, Bool, true, false, ◌&&◌, nat_eq, nat_lt, nat_le, max, if◌then◌else◌, Option, Some, None, List, [], ◌∷◌}
use Rattle.dfi_base.specs.declared.numbers.Point.{Point}
use Rattle.tac_ir.specs.declared.code.Code.{Code}
use Rattle.tac_ir.specs.declared.code.Instr.{Instr}
use Rattle.tac_ir.specs.declared.code.Lined.{Lined}
use Rattle.tac_ir.specs.declared.run.Op.{Op}
use Rattle.tac_ir.specs.declared.run.Answer.{Answer}
use Rattle.tac_ir.specs.declared.run.Entry.{Entry}
use Rattle.tac_ir.specs.Layout.{frame_words, lines_of, instr_at}
use Rattle.tac_ir.specs.Effect.{Spot, Here, Effect, effect_of, value_of, is_last}

pub record Step : Type 0 where
  pub spot : Spot
  -- that of its entry, where it has an event
  pub answer : Answer

-- how a life begins: at this point, in the frame from this word on, with this region of the stacks
pub record Start : Type 0 where
  pub point : Point
  pub base : ℕ
  pub region : ℕ
  pub region_end : ℕ

-- Calls.

-- the function that an instruction calls at its first step
abbrev pub callee : Bool → Instr → Option ℕ
callee false (Instr.Call to f def args) = Some f
callee second i = None

abbrev pub called_by : Code → Step → Option ℕ
called_by c x = callee x.spot.second (instr_at c x.spot.point)

-- how many calls there were; the last made the newest activation
unfoldable pub calls_in : Code → List Step → ℕ
calls_in c [] = 0
calls_in c (x ∷ earlier) = elim (called_by c x) [ None ↦ calls_in c earlier | Some f ↦ suc (calls_in c earlier) ]

-- the function for which a step made activation a
abbrev pub makes : Code → List Step → Step → ℕ → Option ℕ
makes c earlier x a = elim (nat_eq a (suc (calls_in c earlier))) [ true ↦ called_by c x | false ↦ None ]

-- where the call stands that made activation a
unfoldable pub call_of : Code → List Step → ℕ → Option Spot
call_of c [] a = None
call_of c (x ∷ earlier) a = elim (makes c earlier x a) [ Some f ↦ Some x.spot | None ↦ call_of c earlier a ]

-- the first word after the frame of activation a, which stands behind its caller's; a life begins without a frame of its own in its region
unfoldable pub frame_end : Code → Start → List Step → ℕ → ℕ
frame_end c s [] a = s.region
frame_end c s (x ∷ earlier) a =
    elim (makes c earlier x a) [ Some f ↦ frame_end c s earlier x.spot.act + frame_words c f | None ↦ frame_end c s earlier a ]

-- the first word of that frame
unfoldable pub base_of : Code → Start → List Step → ℕ → ℕ
base_of c s [] a = s.base
base_of c s (x ∷ earlier) a = elim (makes c earlier x a) [ Some f ↦ frame_end c s earlier x.spot.act | None ↦ base_of c s earlier a ]

-- Returns.

-- one more than the latest of these entries at or before an index, where the fork's join stands behind that index; 0 without one
abbrev pub entry_before : List ℕ → ℕ → ℕ → ℕ
entry_before [] join at = 0
entry_before (e ∷ entries) join at = max (if (nat_le e at && nat_lt at join) then suc e else 0) (entry_before entries join at)

abbrev pub region_by : Instr → ℕ → ℕ
region_by (Instr.Fork join entries) at = entry_before entries join at
region_by i at = 0

-- the innermost region of an index: one more than the entry of the branch in which it stands, 0 where it stands in none
abbrev pub region_in : List Lined → ℕ → ℕ
region_in [] at = 0
region_in (l ∷ rest) at = max (region_by l.instr at) (region_in rest at)

abbrev pub region_at : Code → Point → ℕ
region_at c p = region_in (lines_of c p.fun) p.at

abbrev pub is_call_with : ℕ → Instr → Bool
is_call_with d (Instr.Call to f def args) = nat_eq def d
is_call_with d i = false

-- the index, counted from this one on, of the call whose definition has number d
abbrev pub call_from : ℕ → List Lined → ℕ → Option ℕ
call_from at [] d = None
call_from at (l ∷ rest) d = elim (is_call_with d l.instr) [ true ↦ Some at | false ↦ call_from (suc at) rest d ]

-- the call after which a return goes on: the one that the link names, where the caller's function has it in the region of
-- the call that made the frame, else the call that made the frame
abbrev pub resumed : Code → Point → ℕ → Point
resumed c made link =
    elim (call_from 0 (lines_of c made.fun) link) [
      | None ↦ made
      | Some at ↦ elim (nat_eq (region_in (lines_of c made.fun) at) (region_at c made)) [ true ↦ record { fun = made.fun; at = at } | false ↦ made ]
    ]

-- what the step before read
abbrev pub link_read : List Step → ℕ
link_read [] = 0
link_read (x ∷ earlier) = value_of x.answer

abbrev pub back_of : Code → List Step → ℕ → Option Spot
back_of c earlier a =
    elim (call_of c earlier a) [
      | None ↦ None
      | Some made ↦ Some (record { act = made.act; point = resumed c made.point (link_read earlier); second = false })
    ]

-- What a step sees and does.

unfoldable pub here_at : Code → Start → List Step → Spot → Here
here_at c s earlier spot = record {
  spot = spot;
  base = base_of c s earlier spot.act;
  newest = calls_in c earlier;
  newest_base = base_of c s earlier (calls_in c earlier);
  back = back_of c earlier spot.act;
}

abbrev pub effect_at : Code → Start → List Step → Spot → Effect
effect_at c s earlier spot = effect_of c (here_at c s earlier spot) (instr_at c spot.point)

-- the value of temporary t of activation a: that of the last earlier step that wrote it, else 0
unfoldable pub temp_of : Code → Start → List Step → ℕ → ℕ → ℕ
temp_of c s [] a t = 0
temp_of c s (x ∷ earlier) a t =
    elim ((effect_at c s earlier x.spot).wrote (temp_of c s earlier x.spot.act) x.answer a t) [ Some v ↦ v | None ↦ temp_of c s earlier a t ]

-- where the next step stands
unfoldable pub next_spot : Code → Start → List Step → Spot
next_spot c s [] = record { act = 0; point = s.point; second = false }
next_spot c s (x ∷ earlier) = (effect_at c s earlier x.spot).next (temp_of c s earlier x.spot.act)

-- the event of a step there
unfoldable pub event_at : Code → Start → List Step → Spot → Option Op
event_at c s earlier spot = (effect_at c s earlier spot).event (temp_of c s earlier spot.act)

-- The path.

abbrev pub stops : Answer → Bool
stops (Answer.Stop stop) = true
stops answer = false

-- a step with an event takes its answer from the newest of the thread's own entries, and the rest of the path has the others;
-- a step that stopped the run is in no path, since nothing goes on behind it
abbrev pub Takes : Option Op → Step → (List Entry → Type 0) → List Entry → Type 0
Takes None x Before own = (x.answer ≡ Answer.Unit) × Before own
Takes (Some op) x Before [] = ⊥
Takes (Some op) x Before (e ∷ own) = (e.point ≡ x.spot.point) × (e.op ≡ op) × (e.answer ≡ x.answer) × Before own × (stops e.answer ≡ false)

-- these steps are a path of a life that began so, and these are its entries, both with the newest first
unfoldable pub IsPath : Code → Start → List Step → List Entry → Type 0
IsPath c s [] own = own ≡ []
IsPath c s (x ∷ earlier) own =
    (x.spot ≡ next_spot c s earlier) × (is_last (instr_at c x.spot.point) ≡ false) × Takes (event_at c s earlier x.spot) x (IsPath c s earlier) own
