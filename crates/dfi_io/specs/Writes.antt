-- What a write answers, and what it leaves.
use Rattle.std.specs.Prelude.{ℕ, ◌-◌, ◌==◌, Bool, ◌||◌, if◌then◌else◌, nat_lt, List, [], ◌++◌, length, take, Option, is_some}
use Rattle.std.specs.Map.{lookup}
use Rattle.std.specs.Option.{option_map_or}
use Rattle.dfi_io.specs.Counted.{counted}
use Rattle.dfi_io.specs.Held.{Held}

-- after how many bytes the next write is to stop, if it is
abbrev pub stop_of : Held → Option ℕ
stop_of h = lookup (λ number. number == h.writes) h.plan

-- whether the next write fails: the piece is longer than the room, or the write is in the plan
abbrev pub write_fails : Held → List ℕ → Bool
write_fails h piece = nat_lt h.room (length piece) || is_some (stop_of h)

-- what the next write appends: nothing where the room is missing, the first bytes where it is to stop, or all
abbrev pub appended : Held → List ℕ → List ℕ
appended h piece = if nat_lt h.room (length piece) then [] else option_map_or (λ stop. take stop piece) (stop_of h) piece

-- the write counted, with what it appended, which is taken from the room
abbrev pub after_write : Held → List ℕ → Held
after_write h piece = record {
  bytes = h.bytes ++ appended h piece;
  plan = h.plan;
  room = h.room - length (appended h piece);
  writes = counted h.writes;
}
