use Rattle.std.proofs.Common.{◌≡◌, drop}
use Rattle.c_typed.specs.Decls.{has_items}
use Rattle.c_types.proofs.decls.has_items.Given as goal

abbrev pub invariant-loop-length : goal.invariant-loop-length
invariant-loop-length l = has_items l.lengths ≡ has_items (drop l.length-index l.lengths)
