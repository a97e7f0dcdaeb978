use Rattle.std.proofs.Common.{◌≡◌, ◌++◌, drop}
use Rattle.c_types.specs.tools.OutlineWalk.{signatures}
use Rattle.c_types.proofs.outline.Outline.signatures.Given as goal

abbrev pub invariant-loop-item : goal.invariant-loop-item
invariant-loop-item l = signatures l.self l.items ≡ l.signatures ++ signatures l.self (drop l.item-index l.items)
