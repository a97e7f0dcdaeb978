-- Whether the run of a core has ended, as it looks it up.
use Rattle.std.specs.Prelude.{ℕ, ◌-◌, Bool, true, false, Option, Some, None, length, slice_get}
use Rattle.tac_ir.specs.declared.run.Entry.{Entry}
use Rattle.tac_ir.specs.Path.{stops}
use Rattle.flat_core.specs.Stands.{Core}

abbrev pub is_there : {A : Type 0} → Option A → Bool
is_there None = false
is_there (Some x) = true

abbrev pub stopped_in : Option Entry → Bool
stopped_in None = false
stopped_in (Some e) = stops e.answer

-- the last entry stopped it, or main's value is there
abbrev pub is_over_by : Option Entry → Option ℕ → Bool
is_over_by last done = elim (stopped_in last) [ true ↦ true | false ↦ is_there done ]

abbrev pub is_over : Core → Bool
is_over core = is_over_by (slice_get core.entries (length core.entries - 1)) core.threads.done
