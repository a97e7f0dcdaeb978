-- The frames of threads over objects.
use Rattle.std.specs.Prelude.{◌≡◌, ℕ, suc, ◌/◌, ◌%◌, ◌<◌, ◌⊎◌, ℤ, true, false, ◌&&◌, nat_eq, List, [], ◌∷◌, ◌++◌, map, Option, Some, None}
use Rattle.obj_mem.specs.declared.Maker.{Maker}
use Rattle.obj_mem.specs.declared.value.Value.{Value}
use Rattle.obj_mem.specs.declared.event.Event.{Event}
use Rattle.obj_mem.specs.declared.event.SrcAnswer.{SrcAnswer}
use Rattle.obj_mem.specs.declared.event.Stamp.{Stamp}
use Rattle.obj_mem.specs.declared.value.Obj.{Obj}
use Rattle.obj_mem.specs.Laws.{IsMade}
use Rattle.obj_mem.specs.Written.{last_value}
use Rattle.obj_mem.specs.Alive.{makes, made_by, next_maker, open_frames, is_frame}
use Rattle.tac_ir.specs.declared.code.Code.{Code}
use Rattle.tac_ir.specs.GoodForm.{GoodForm}
use Rattle.obj_run.specs.declared.values.ObjStack.{ObjStack}
use Rattle.obj_run.specs.Objects.{main_stack}
use Rattle.obj_run.specs.Entries.{Entry, stamps_of}
use Rattle.obj_run.specs.Starts.{opening}
use Rattle.obj_run.specs.Runs.{ObjLife, ObjLives, IsObjTree}
use Rattle.obj_law.specs.Did.{ObjActivation}

-- the first activation of a life
abbrev pub first_of : ObjActivation → List ObjActivation → ObjActivation
first_of x [] = x
first_of x (y ∷ callers) = first_of y callers

abbrev pub first_stack : ObjLife → ObjStack
first_stack l = (first_of l.top l.callers).stack

-- thread 1 begins on main's frame, and each branch on the frame of its parent
pub record FramesAreShared (f : ObjLives) : Type 0 where
  pub root : (l : ObjLife) → f 1 ≡ Some l → first_stack l ≡ main_stack
  pub branches : (n : ℕ) (p l : ObjLife) → 0 < n % 16 → (n ≡ 1 → ⊥) → f n ≡ Some l → f (n / 16) ≡ Some p → first_stack l ≡ p.top.stack

abbrev pub BranchesShareFrames : Type 0
BranchesShareFrames = (c : Code) (input : List ℤ) → GoodForm c → (h : List Entry) (f : ObjLives) (d : Option Value) → IsObjTree c input h f d → FramesAreShared f

-- Open calls.

-- a call: its function, and whose its frame is
pub record OpenCall : Type 0 where
  pub fun : ℕ
  pub maker : Maker

abbrev pub all_but_first : List OpenCall → List OpenCall
all_but_first [] = []
all_but_first (x ∷ xs) = xs

abbrev pub calls_by : Event → Maker → List OpenCall → List OpenCall
calls_by (Event.Call f) m calls = (record { fun = f; maker = m }) ∷ calls
calls_by Event.Ret m calls = all_but_first calls
calls_by e m calls = calls

-- the calls of this name that have not returned, the newest first
unfoldable pub open_calls : ℕ → List Stamp → List OpenCall
open_calls n [] = []
open_calls n (s ∷ h) = elim (nat_eq s.name.0 n) [ true ↦ calls_by s.event (next_maker n h) (open_calls n h) | false ↦ open_calls n h ]

-- the calls whose frames the activations of a life have: all but the first, which has its parent's frame, or main's
abbrev pub calls_of : ObjActivation → List ObjActivation → List OpenCall
calls_of x [] = []
calls_of x (y ∷ callers) = (record { fun = x.fun; maker = x.stack.maker }) ∷ calls_of y callers

abbrev pub calls_in : Option ObjLife → List OpenCall
calls_in None = []
calls_in (Some l) = calls_of l.top l.callers

-- The function that was called when this frame was made.

abbrev pub fun_in : Event → Option ℕ
fun_in (Event.Call f) = Some f
fun_in e = None

unfoldable pub function_of : Maker → List Stamp → Option ℕ
unfolding made_by
function_of m [] = None
function_of m (s ∷ h) =
    elim (nat_eq s.name.0 m.thread.0 && (makes s.event && nat_eq m.count (suc (made_by m.thread.0 h)))) [ true ↦ fun_in s.event | false ↦ function_of m h ]

abbrev pub AreMade : List Stamp → List OpenCall → Type 0
AreMade h [] = Unit {0}
AreMade h (x ∷ xs) = (function_of x.maker h ≡ Some x.fun) × AreMade h xs

-- The open calls of a name are the frames of its life: none where it does not live. The function of an activation is the one that was
-- called when its frame was made.
pub record CallsAreFrames (h : List Stamp) (f : ObjLives) : Type 0 where
  pub calls : (n : ℕ) → open_calls n h ≡ calls_in (f n)
  pub frames : (n : ℕ) → open_frames n h ≡ map (λ x. x.maker) (open_calls n h)
  pub functions : (n : ℕ) → AreMade h (open_calls n h)

abbrev pub OpenCallsAreFrames : Type 0
OpenCallsAreFrames = (c : Code) (input : List ℤ) → GoodForm c → (h : List Entry) (f : ObjLives) (d : Option Value) → IsObjTree c input h f d → CallsAreFrames (stamps_of h ++ opening c input) f

-- Activations behind a step.

-- an activation of this function with this stack is among these, and in a thread
abbrev pub Stands : ObjActivation → List ObjActivation → ℕ → ObjStack → Type 0
Stands x [] g s = (x.fun ≡ g) × (x.stack ≡ s)
Stands x (y ∷ callers) g s = ((x.fun ≡ g) × (x.stack ≡ s)) ⊎ Stands y callers g s

abbrev pub IsActive : ObjLives → ℕ → ObjStack → Type 0
IsActive f g s = (n : ℕ) × (l : ObjLife) × (f n ≡ Some l) × Stands l.top l.callers g s

-- behind an entry each activation has the function and the frame of one that was there before, or the frame that the entry's call has made
abbrev pub ActivationsAreOld : Type 0
ActivationsAreOld = (c : Code) (input : List ℤ) → GoodForm c → (e : Entry) (h : List Entry) (f g : ObjLives) (d b : Option Value) → IsObjTree c input h f d → IsObjTree c input (e ∷ h) g b
    → (fun : ℕ) (s : ObjStack) → IsActive g fun s → IsActive f fun s ⊎ (e.stamp.answer ≡ SrcAnswer.Frame s.maker)

-- a frame that lives by the search for open calls has an activation, of the function that was called when it was made
abbrev pub LivingFramesAreActive : Type 0
LivingFramesAreActive = (c : Code) (input : List ℤ) → GoodForm c → (h : List Entry) (f : ObjLives) (d : Option Value) → IsObjTree c input h f d
    → (m : Maker) → is_frame m (open_frames m.thread.0 (stamps_of h ++ opening c input)) ≡ true
    → (fun : ℕ) × (function_of m (stamps_of h ++ opening c input) ≡ Some fun) × IsActive f fun (record { maker = m })

-- each activation is on a frame that was made, or on main's
abbrev pub ActivationsAreMade : Type 0
ActivationsAreMade = (c : Code) (input : List ℤ) → GoodForm c → (h : List Entry) (f : ObjLives) (d : Option Value) → IsObjTree c input h f d
    → (fun : ℕ) (s : ObjStack) → IsActive f fun s → IsMade (stamps_of h ++ opening c input) s.maker

-- what a thread makes next is new: no activation is on it, and no word of it was written
abbrev pub MakersAreFresh : Type 0
MakersAreFresh = (c : Code) (input : List ℤ) → GoodForm c → (h : List Entry) (f : ObjLives) (d : Option Value) → IsObjTree c input h f d → (n : ℕ)
    → ((fun : ℕ) (s : ObjStack) → IsActive f fun s → s.maker ≡ next_maker n (stamps_of h ++ opening c input) → ⊥)
    × ((o : Obj) (off : ℤ) (v : Value) → last_value o off (stamps_of h ++ opening c input) ≡ Some v → o.maker ≡ next_maker n (stamps_of h ++ opening c input) → ⊥)
