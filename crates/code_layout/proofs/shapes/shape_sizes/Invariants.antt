use Rattle.code_layout.proofs.Sizes.{AreSizes}
use Rattle.code_layout.proofs.shapes.shape_sizes.Given as goal

abbrev pub invariant-loop-shape : goal.invariant-loop-shape
invariant-loop-shape l = AreSizes l.shape-items l.shape-index l.sizes.items
