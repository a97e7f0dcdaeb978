-- What the words of objects hold after a list of stamps, the newest first: what was written there last.
use Rattle.std.specs.Prelude.{ℤ, true, false, ◌&&◌, Option, Some, None, List, [], ◌∷◌}
use Rattle.std.specs.Ordering.{int_eq}
use Rattle.obj_mem.specs.declared.value.Obj.{Obj}
use Rattle.obj_mem.specs.declared.value.Value.{Value}
use Rattle.obj_mem.specs.declared.event.Event.{Event}
use Rattle.obj_mem.specs.declared.event.Stamp.{Stamp}
use Rattle.obj_mem.specs.Objects.{same_obj}

-- what an event writes to this word of an object
abbrev pub written : Obj → ℤ → Event → Option Value
written o off (Event.Wr (Value.Ptr p at lo hi) v) = elim (same_obj o p && int_eq off at) [ true ↦ Some v | false ↦ None ]
written o off e = None

unfoldable pub last_value : Obj → ℤ → List Stamp → Option Value
last_value o off [] = None
last_value o off (s ∷ h) = elim (written o off s.event) [ Some v ↦ Some v | None ↦ last_value o off h ]
