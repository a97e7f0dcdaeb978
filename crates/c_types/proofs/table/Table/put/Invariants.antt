use Rattle.std.proofs.Common.{◌≡◌, suc, ◌-◌, length}
use Rattle.c_types.specs.tools.Tables.{put_in}
use Rattle.c_types.proofs.table.Table.put.Given as goal

abbrev pub invariant-loop-self : goal.invariant-loop-self
invariant-loop-self l = put_in l.name l.entry l.self.entries ≡ put_in l.name l.entry l.initial.self.entries

abbrev pub decreases-loop-self : goal.decreases-loop-self
decreases-loop-self l = suc l.name - length l.self.entries
