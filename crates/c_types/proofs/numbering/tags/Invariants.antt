use Rattle.std.proofs.Common.{◌≡◌, drop}
use Rattle.c_types.specs.tools.OutlineWalk.{numbered, with_tag, no_numbers}
use Rattle.c_types.proofs.numbering.tags.Given as goal

abbrev pub invariant-loop-item : goal.invariant-loop-item
invariant-loop-item l = numbered with_tag l.items no_numbers ≡ numbered with_tag (drop l.item-index l.items) l.numbering
