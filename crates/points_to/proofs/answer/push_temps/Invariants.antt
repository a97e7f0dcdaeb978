use Rattle.std.proofs.Common.{◌≡◌, ◌++◌, map}
use Rattle.std.specs.List.{flat_map, range_with_len}
use Rattle.tac_ir.specs.declared.module.Key.{Key}
use Rattle.points_to.specs.tools.Entries.{entry_in}
use Rattle.points_to.proofs.answer.push_temps.Given as goal

abbrev pub invariant-loop-temp : goal.invariant-loop-temp
invariant-loop-temp l = l.list ≡ l.fn.list ++ flat_map (entry_in l.c l.rows) (map (Key.Temp l.fun) (range_with_len 0 l.temp))
