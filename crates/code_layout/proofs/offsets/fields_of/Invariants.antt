use Rattle.std.proofs.Common.{◌≡◌, ◌++◌, drop, map, slice_index}
use Rattle.code_layout.specs.tools.Offsets.{fields_by}
use Rattle.code_layout.proofs.offsets.fields_of.Given as goal

abbrev pub invariant-loop-shape : goal.invariant-loop-shape
invariant-loop-shape l = l.rows.items ++ map (fields_by (slice_index l.sizes)) (drop l.shape-index l.shape-items) ≡ map (fields_by (slice_index l.sizes)) l.code.shapes
