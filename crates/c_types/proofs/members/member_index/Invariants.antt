use Rattle.std.proofs.Common.{◌≡◌, drop}
use Rattle.c_types.specs.tools.ExprWalk.{index_by}
use Rattle.c_types.proofs.members.member_index.Given as goal

abbrev pub invariant-loop-i : goal.invariant-loop-i
invariant-loop-i l = index_by l.name 0 l.members ≡ index_by l.name l.i (drop l.i l.members)
