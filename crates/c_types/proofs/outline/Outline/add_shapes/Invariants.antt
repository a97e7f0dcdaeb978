use Rattle.std.proofs.Common.{◌≡◌, drop}
use Rattle.c_types.specs.tools.OutlineWalk.{shaped}
use Rattle.c_types.proofs.outline.Outline.add_shapes.Given as goal

abbrev pub invariant-loop-item : goal.invariant-loop-item
invariant-loop-item l = shaped l.items l.initial.self ≡ shaped (drop l.item-index l.items) l.self
