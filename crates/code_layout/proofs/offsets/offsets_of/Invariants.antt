use Rattle.std.proofs.Common.{◌≡◌, ◌+◌, ◌++◌, drop, map, sum, slice_index}
use Rattle.code_layout.specs.tools.Offsets.{offsets_from}
use Rattle.code_layout.proofs.offsets.offsets_of.Given as goal

abbrev pub invariant-loop-shape : goal.invariant-loop-shape
invariant-loop-shape l =
    (l.offsets.items ++ offsets_from (slice_index l.sizes) l.next (drop l.shape-index l.shapes) ≡ offsets_from (slice_index l.sizes) l.from l.shapes)
    × (l.next + sum (map (slice_index l.sizes) (drop l.shape-index l.shapes)) ≡ l.from + sum (map (slice_index l.sizes) l.shapes))
