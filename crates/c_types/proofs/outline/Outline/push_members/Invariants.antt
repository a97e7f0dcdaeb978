use Rattle.std.proofs.Common.{◌≡◌, ◌++◌, map, take}
use Rattle.c_types.specs.tools.OutlineWalk.{member}
use Rattle.c_types.proofs.outline.Outline.push_members.Given as goal

abbrev pub invariant-loop-d : goal.invariant-loop-d
invariant-loop-d l = l.out ≡ l.initial.out ++ map (member l.self l.base) (take l.d-index l.items)
