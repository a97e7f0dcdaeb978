-- Entries up to the first that stops the run. Lists have the newest entry first.
use Rattle.std.specs.Prelude.{Bool, true, false, ◌||◌, List, [], ◌∷◌, Option, Some, None}
use Rattle.tac_ir.specs.declared.run.Stop.{Stop}
use Rattle.tac_ir.specs.declared.run.Answer.{Answer}
use Rattle.tac_ir.specs.declared.run.Entry.{Entry}
use Rattle.tac_ir.specs.Path.{stops}

-- an entry stops the run
abbrev pub has_stop : List Entry → Bool
has_stop [] = false
has_stop (e ∷ h) = stops e.answer || has_stop h

-- up to and with the first entry that stops, or all where none does
unfoldable pub kept : List Entry → List Entry
kept [] = []
kept (e ∷ h) = elim (has_stop h) [ true ↦ kept h | false ↦ e ∷ h ]

-- how an answer stops the run
abbrev pub stop_by : Answer → Option Stop
stop_by (Answer.Stop stop) = Some stop
stop_by answer = None

-- how the newest entry stops the run
abbrev pub stop_of : List Entry → Option Stop
stop_of [] = None
stop_of (e ∷ h) = stop_by e.answer
