-- Entries of a run over objects: an event with its answer, and the number of its read or definition, which the event has dropped. What
-- wrote a word last is a search back; definitions that a run starts with are entries of its opening.
use Rattle.std.specs.Prelude.{◌≡◌, ℕ, ℤ, Bool, true, Option, Some, None, List, [], ◌∷◌, ◌++◌, map}
use Rattle.obj_mem.specs.declared.value.Obj.{Obj}
use Rattle.obj_mem.specs.declared.value.Value.{Value}
use Rattle.obj_mem.specs.declared.event.Event.{Event}
use Rattle.obj_mem.specs.declared.event.Stamp.{Stamp}
use Rattle.obj_mem.specs.Written.{written}

pub record Entry : Type 0 where
  pub stamp : Stamp
  -- 0 where it is of no read and no definition
  pub number : ℕ

abbrev pub stamps_of : List Entry → List Stamp
stamps_of h = map (λ e. e.stamp) h

-- the definition that wrote a word of an object last, the newest entry first
unfoldable pub last_def : Obj → ℤ → List Entry → Option ℕ
last_def o off [] = None
last_def o off (e ∷ h) = elim (written o off e.stamp.event) [ Some v ↦ Some e.number | None ↦ last_def o off h ]

-- the definition that a read by this event finds
abbrev pub found_by : List Entry → Event → Option ℕ
found_by h (Event.Rd (Value.Ptr o off lo hi)) = last_def o off h
found_by h e = None

-- each read of these entries finds a definition of its set, by whether a definition is in the set of a read
unfoldable pub AreCovered : (ℕ → ℕ → Bool) → List Entry → List Entry → Type 0
AreCovered in_set opening [] = Unit {0}
AreCovered in_set opening (e ∷ h) = ((d : ℕ) → found_by (h ++ opening) e.stamp.event ≡ Some d → in_set e.number d ≡ true) × AreCovered in_set opening h
