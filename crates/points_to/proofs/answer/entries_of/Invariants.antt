use Rattle.std.proofs.Common.{◌≡◌}
use Rattle.std.specs.List.{flat_map}
use Rattle.points_to.specs.tools.Entries.{entry_in, keys_before}
use Rattle.points_to.proofs.answer.entries_of.Given as goal

abbrev pub invariant-loop-fun : goal.invariant-loop-fun
invariant-loop-fun l = l.list ≡ flat_map (entry_in l.c l.rows) (keys_before l.c l.fun)
