-- Laws of validity.
use Rattle.std.specs.Prelude.{◌≡◌, ℕ, ◌≤◌, ◌⊎◌, ℤ, Bool, true, false, ◌||◌, Some, None, List, [], ◌∷◌, ◌++◌}
use Rattle.std.specs.List.{All}
use Rattle.obj_mem.specs.declared.Maker.{Maker}
use Rattle.obj_mem.specs.declared.value.Obj.{Obj}
use Rattle.obj_mem.specs.declared.value.Value.{Value}
use Rattle.obj_mem.specs.declared.event.Event.{Event}
use Rattle.obj_mem.specs.declared.event.SrcAnswer.{SrcAnswer}
use Rattle.obj_mem.specs.declared.event.Stamp.{Stamp}
use Rattle.obj_mem.specs.Objects.{same_obj}
use Rattle.obj_mem.specs.Alive.{made_by, open_frames, live_blocks, next_maker, is_frame, is_block, is_lasting, is_live}
use Rattle.obj_mem.specs.Written.{written, last_value}
use Rattle.obj_mem.specs.Valid.{answer_of}

-- each of these stamps, the newest first, is answered as validity says after those before it; earlier ones may be anything
abbrev pub AreAnswered : List Stamp → List Stamp → Type 0
AreAnswered earlier [] = Unit {0}
AreAnswered earlier (s ∷ h) = (answer_of (h ++ earlier) s.name.0 s.event ≡ Some s.answer) × AreAnswered earlier h

-- a stamp of the list wrote this value to a word, and none after it wrote there
pub record WasWritten (h : List Stamp) (o : Obj) (off : ℤ) (v : Value) : Type 0 where
  pub later : List Stamp
  pub stamp : Stamp
  pub earlier : List Stamp
  pub among : h ≡ later ++ stamp ∷ earlier
  pub writes : written o off stamp.event ≡ Some v
  pub last : All (λ s. written o off s.event ≡ None) later

-- what a valid read answers was written there last
abbrev pub ReadsFindWrites : Type 0
ReadsFindWrites = (h : List Stamp) (n : ℕ) (o : Obj) (off lo hi : ℤ) (a : SrcAnswer) → answer_of h n (Event.Rd (Value.Ptr o off lo hi)) ≡ Some a
    → (v : Value) × (a ≡ SrcAnswer.Value v) × WasWritten h o off v

abbrev pub is_into : Obj → Value → Bool
is_into o (Value.Ptr p off lo hi) = same_obj o p
is_into o v = false

-- an event reads, writes, compares or frees a pointer into this object
abbrev pub uses : Obj → Event → Bool
uses o (Event.Rd p) = is_into o p
uses o (Event.Wr p v) = is_into o p
uses o (Event.Same p q ne) = is_into o p || is_into o q
uses o (Event.Free p) = is_into o p
uses o e = false

-- once a block was freed, no valid event uses it
abbrev pub FreedIsOver : Type 0
FreedIsOver = (earlier later : List Stamp) (s : Stamp) (o : Obj) (off lo hi : ℤ) → s.event ≡ Event.Free (Value.Ptr o off lo hi)
    → AreAnswered earlier (later ++ s ∷ []) → All (λ t. uses o t.event ≡ false) later

-- something of the program, or an event has made it
abbrev pub IsMade : List Stamp → Maker → Type 0
IsMade h m = (is_lasting m ≡ true) ⊎ ((1 ≤ m.count) × (m.count ≤ made_by m.thread.0 h))

-- what lives was made
abbrev pub LivingIsMade : Type 0
LivingIsMade = (h : List Stamp) (o : Obj) → is_live h o ≡ true → IsMade h o.maker

-- what is made next is new
abbrev pub NextIsNew : Type 0
NextIsNew = (h : List Stamp) (n : ℕ) → IsMade h (next_maker n h) → ⊥

-- what was written was made, if that holds of what was written at first
abbrev pub WrittenIsMade : Type 0
WrittenIsMade = (earlier h : List Stamp) → AreAnswered earlier h
    → ((o : Obj) (off : ℤ) (v : Value) → last_value o off earlier ≡ Some v → IsMade earlier o.maker)
    → (o : Obj) (off : ℤ) (v : Value) → last_value o off (h ++ earlier) ≡ Some v → IsMade (h ++ earlier) o.maker

-- a block's maker made no frame
abbrev pub BlocksAreNoFrames : Type 0
BlocksAreNoFrames = (h : List Stamp) (o : Obj) → is_block o (live_blocks h) ≡ true → is_frame o.maker (open_frames o.maker.thread.0 h) ≡ false
