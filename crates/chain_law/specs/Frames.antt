-- Where the frames of lives stand in memory.
use Rattle.std.specs.Prelude.{◌≡◌, ℕ, ◌+◌, ◌-◌, ◌*◌, ◌/◌, ◌%◌, ◌<◌, ◌≤◌, ◌⊎◌, true, Some, List, [], ◌∷◌, length, Contains}
use Rattle.tac_ir.specs.declared.code.Code.{Code}
use Rattle.tac_ir.specs.declared.code.Instr.{Instr}
use Rattle.tac_ir.specs.Layout.{frame_words}
use Rattle.tac_thread.specs.declared.flat.FlatStack.{FlatStack}
use Rattle.tac_thread.specs.declared.guest.Stage.{Stage}
use Rattle.tac_thread.specs.Life.{instr_of}
use Rattle.tac_thread.specs.Threads.{is_waiting}
use Rattle.path_law.specs.Standing.{FlatActivation, FlatLife}
use Rattle.path_law.specs.InPlace.{FlatLives}

-- A life's frames stand one behind the other between the words lo and hi of its region; its first activation has its frame elsewhere. Each
-- ends at most at hi, so the room above it is no less than what is left there.
unfoldable pub AreStacked : Code → ℕ → ℕ → FlatActivation → List FlatActivation → Type 0
AreStacked c lo hi x [] = (x.stack.top ≡ lo) × (x.stack.«end» ≡ hi) × (lo ≤ hi)
AreStacked c lo hi x (y ∷ callers) =
    (x.stack.base ≡ y.stack.top) × (x.stack.top ≡ x.stack.base + frame_words c x.fun) × (x.stack.«end» ≡ hi) × (x.stack.top ≤ hi) × AreStacked c lo hi y callers

-- a frame that is to be entered, whose link is written next, stands behind them, and in the region
abbrev pub EntersStacked : Code → ℕ → FlatActivation → Stage ℕ FlatStack → Type 0
EntersStacked c hi x (Stage.Entering callee) =
    (callee.stack.base ≡ x.stack.top) × (callee.stack.top ≡ callee.stack.base + frame_words c callee.fun) × (callee.stack.«end» ≡ hi) × (callee.stack.top ≤ hi)
EntersStacked c hi x stage = Unit {0}

pub record IsStacked (c : Code) (lo hi : ℕ) (l : FlatLife) : Type 0 where
  pub stands : AreStacked c lo hi l.top l.callers
  pub enters : EntersStacked c hi l.top l.stage

-- how many branches a fork has, and the words that each has of the room of a life that waits there
abbrev pub branches_at : Instr → ℕ
branches_at (Instr.Fork join entries) = length entries
branches_at i = 0

abbrev pub share_of : Code → FlatLife → ℕ
share_of c p = (p.top.stack.«end» - p.top.stack.top) / branches_at (instr_of c p.top)

-- the frames of branch i stand in the i-th share
pub record IsShareOf (c : Code) (p : FlatLife) (i : ℕ) (l : FlatLife) : Type 0 where
  pub waits : is_waiting p.stage ≡ true
  pub low : 1 ≤ i
  pub high : i ≤ branches_at (instr_of c p.top)
  pub stacked : IsStacked c (p.top.stack.top + (i - 1) * share_of c p) (p.top.stack.top + i * share_of c p) l

-- those of thread 1 stand between lo and hi, those of each other thread in its share of its parent's room
pub record AreShared (c : Code) (lo hi : ℕ) (f : FlatLives) : Type 0 where
  pub root : (l : FlatLife) → f 1 ≡ Some l → IsStacked c lo hi l
  pub branches : (n : ℕ) (p l : FlatLife) → 0 < n % 16 → (n ≡ 1 → ⊥) → f n ≡ Some l → f (n / 16) ≡ Some p → IsShareOf c p (n % 16) l

-- the activations of a life that have frames of their own: all but the first, which runs in its parent's frame, or is main
abbrev pub framed_of : FlatActivation → List FlatActivation → List FlatActivation
framed_of x [] = []
framed_of x (y ∷ callers) = x ∷ framed_of y callers

-- frames of two threads share no word
abbrev pub AreApart : FlatLives → Type 0
AreApart f = (n k : ℕ) (l q : FlatLife) (x y : FlatActivation) → (n ≡ k → ⊥) → f n ≡ Some l → f k ≡ Some q
    → Contains (framed_of l.top l.callers) x → Contains (framed_of q.top q.callers) y → (x.stack.top ≤ y.stack.base) ⊎ (y.stack.top ≤ x.stack.base)

-- and lie between these words
abbrev pub AreWithin : ℕ → ℕ → FlatLives → Type 0
AreWithin lo hi f = (n : ℕ) (l : FlatLife) (x : FlatActivation) → f n ≡ Some l → Contains (framed_of l.top l.callers) x → (lo ≤ x.stack.base) × (x.stack.top ≤ hi)
