use Rattle.std.proofs.Common.{◌≡◌, map, take}
use Rattle.c_types.specs.tools.OutlineWalk.{spelling_of}
use Rattle.c_types.proofs.outlines.spellings.Given as goal

abbrev pub invariant-loop-name : goal.invariant-loop-name
invariant-loop-name l = l.spellings ≡ map spelling_of (take l.name-index l.names)
