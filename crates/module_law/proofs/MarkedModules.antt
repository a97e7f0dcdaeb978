-- A module with other marks.
use Rattle.std.proofs.Common.{ℕ, Bool, List}
use Rattle.tac_ir.specs.Module.{Module}
use Rattle.flow_rules.specs.Removed.{Removed}

abbrev pub marked : Module → List Bool → Module
marked m marks = record { size = m.size; code = m.code; classes = m.classes; sets = m.sets; removed = marks; points = m.points; reach = m.reach }

-- which reads may go unchecked does not depend on the marks
pub to_marked : (m : Module) (marks : List Bool) (r : ℕ) → Removed m r → Removed (marked m marks) r
to_marked m marks r removed = record {
  at = removed.at;
  to = removed.to;
  place = removed.place;
  read = removed.read;
  alone = removed.alone;
  covered = let c = removed.covered in record { first = c.first; earlier = c.earlier; covers = c.covers; block = c.block; quiet = c.quiet };
}

pub from_marked : (m : Module) (marks : List Bool) (r : ℕ) → Removed (marked m marks) r → Removed m r
from_marked m marks r removed = record {
  at = removed.at;
  to = removed.to;
  place = removed.place;
  read = removed.read;
  alone = removed.alone;
  covered = let c = removed.covered in record { first = c.first; earlier = c.earlier; covers = c.covers; block = c.block; quiet = c.quiet };
}
