-- Events whose operand must be a number: with another value they have no meaning.
use Rattle.std.specs.Prelude.{ℕ}
use Rattle.obj_mem.specs.declared.value.Value.{Value}
use Rattle.obj_mem.specs.declared.event.Event.{Event}

-- a block of so many items, each of so many words
abbrev pub new_event : ℕ → ℕ → Value → Event
new_event site words (Value.Int count) = Event.New site count words
new_event site words v = Event.Bad

abbrev pub out_event : Value → Event
out_event (Value.Int k) = Event.Out k
out_event v = Event.Bad
