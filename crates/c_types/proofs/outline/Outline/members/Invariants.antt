use Rattle.std.proofs.Common.{◌≡◌, ◌++◌, drop}
use Rattle.c_types.specs.tools.OutlineWalk.{members_of}
use Rattle.c_types.proofs.outline.Outline.members.Given as goal

abbrev pub invariant-loop-field : goal.invariant-loop-field
invariant-loop-field l = members_of l.self l.fields ≡ l.members ++ members_of l.self (drop l.field-index l.fields)
