-- What lives after a list of stamps, the newest first. Globals and the variables of main live all along; a call makes a frame, which
-- lives until its return; and a block lives until it is freed.
use Rattle.std.specs.Prelude.{ℕ, suc, ◌*◌, min, ℤ, pos, negsuc, Bool, true, false, ◌&&◌, ◌||◌, nat_eq, nat_le, List, [], ◌∷◌}
use Rattle.obj_mem.specs.declared.Maker.{Maker}
use Rattle.obj_mem.specs.declared.value.Obj.{Obj}
use Rattle.obj_mem.specs.declared.value.Value.{Value}
use Rattle.obj_mem.specs.declared.event.Event.{Event}
use Rattle.obj_mem.specs.declared.event.Stamp.{Stamp}
use Rattle.obj_mem.specs.Objects.{same_maker, same_obj}

-- Makers.

abbrev pub makes : Event → Bool
makes (Event.Call f) = true
makes (Event.New site count words) = true
makes e = false

-- how many calls and blocks of this name there were
unfoldable pub made_by : ℕ → List Stamp → ℕ
made_by n [] = 0
made_by n (s ∷ h) = elim (nat_eq s.name.0 n && makes s.event) [ true ↦ suc (made_by n h) | false ↦ made_by n h ]

-- whose is what this name makes next
abbrev pub next_maker : ℕ → List Stamp → Maker
next_maker n h = record { thread = record { 0 = n }; count = suc (made_by n h) }

-- Frames: a call puts its own in front of those of its name, a return takes the first away.

abbrev pub but_first : {A : Type 0} → List A → List A
but_first [] = []
but_first (x ∷ xs) = xs

abbrev pub frames_by : Event → Maker → List Maker → List Maker
frames_by (Event.Call f) m ms = m ∷ ms
frames_by Event.Ret m ms = but_first ms
frames_by e m ms = ms

-- the frames of this name's calls that have not returned, the newest first
unfoldable pub open_frames : ℕ → List Stamp → List Maker
unfolding made_by
open_frames n [] = []
open_frames n (s ∷ h) = elim (nat_eq s.name.0 n) [ true ↦ frames_by s.event (next_maker n h) (open_frames n h) | false ↦ open_frames n h ]

-- Blocks: as many words as a count of items has, and none where it is negative.

abbrev pub block_words : ℤ → ℕ → ℕ
block_words (pos count) words = min (count * words) 4294967295
block_words (negsuc n) words = 0

-- the block that this name makes next
abbrev pub next_block : ℕ → List Stamp → ℕ → ℤ → ℕ → Obj
next_block n h site count words = record { site = site; maker = next_maker n h; len = block_words count words }

abbrev pub without : Obj → List Obj → List Obj
without o [] = []
without o (b ∷ blocks) = elim (same_obj b o) [ true ↦ without o blocks | false ↦ b ∷ without o blocks ]

abbrev pub blocks_by : Event → (ℕ → ℤ → ℕ → Obj) → List Obj → List Obj
blocks_by (Event.New site count words) made blocks = made site count words ∷ blocks
blocks_by (Event.Free (Value.Ptr o off lo hi)) made blocks = without o blocks
blocks_by e made blocks = blocks

-- the blocks that live, the newest first
unfoldable pub live_blocks : List Stamp → List Obj
unfolding made_by
live_blocks [] = []
live_blocks (s ∷ h) = blocks_by s.event (next_block s.name.0 h) (live_blocks h)

-- What lives.

abbrev pub is_frame : Maker → List Maker → Bool
is_frame m [] = false
is_frame m (x ∷ xs) = same_maker m x || is_frame m xs

abbrev pub is_block : Obj → List Obj → Bool
is_block o [] = false
is_block o (b ∷ blocks) = same_obj b o || is_block o blocks

-- a global's maker, or that of a variable of main
abbrev pub is_lasting : Maker → Bool
is_lasting m = nat_eq m.count 0 && nat_le m.thread.0 1

abbrev pub is_live : List Stamp → Obj → Bool
is_live h o = is_lasting o.maker || is_frame o.maker (open_frames o.maker.thread.0 h) || is_block o (live_blocks h)
