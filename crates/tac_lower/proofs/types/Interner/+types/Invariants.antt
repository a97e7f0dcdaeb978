use Rattle.std.proofs.Common.{◌≡◌, ◌*◌, ◌+◌, drop, []}
use Rattle.tac_lower.specs.Shapes.{part_entries}
use Rattle.tac_lower.specs.tools.Interning.{IsKept, first_structs}
use Rattle.tac_lower.proofs.types.Interner.+types.Given as goal

-- a struct is looked at with fewer structs before it
abbrev pub decreases-struct_number : goal.decreases-struct_number
decreases-struct_number l = 4 * l.limit

abbrev pub decreases-base : goal.decreases-base
decreases-base l = 4 * l.limit + 1

abbrev pub decreases-object : goal.decreases-object
decreases-object l = 4 * l.limit + 2

abbrev pub decreases-parts : goal.decreases-parts
decreases-parts l = 4 * l.limit + 3

-- the parts from here on are those of all
abbrev pub invariant-parts-loop-field : goal.invariant-parts-loop-field
invariant-parts-loop-field l = record {
  rest : part_entries (first_structs l.structs l.limit) l.parts.items (drop l.field-index l.fields) l.self.shapes
      ≡ part_entries (first_structs l.structs l.limit) [] l.fields l.fn.self.shapes;
  kept : IsKept l.structs l.self.known.items l.self.shapes;
}
