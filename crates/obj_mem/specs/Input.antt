-- The numbers of the input that are left after a list of stamps, the newest first.
use Rattle.std.specs.Prelude.{ℤ, pos, List, [], ◌∷◌, ◌++◌}
use Rattle.obj_mem.specs.declared.event.Event.{Event}
use Rattle.obj_mem.specs.declared.event.Stamp.{Stamp}
use Rattle.obj_mem.specs.Alive.{but_first}

abbrev pub left_by : Event → List ℤ → List ℤ
left_by (Event.Given v) vs = vs ++ v ∷ []
left_by Event.In vs = but_first vs
left_by e vs = vs

-- a number that is given comes last, and the first is taken
unfoldable pub numbers_left : List Stamp → List ℤ
numbers_left [] = []
numbers_left (s ∷ h) = left_by s.event (numbers_left h)

abbrev pub first_or_0 : List ℤ → ℤ
first_or_0 [] = pos 0
first_or_0 (v ∷ vs) = v
