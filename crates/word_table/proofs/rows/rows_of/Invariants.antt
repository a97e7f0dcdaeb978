use Rattle.std.proofs.Common.{take}
use Rattle.word_table.specs.tools.BitRows.{AreRows}
use Rattle.word_table.proofs.rows.rows_of.Given as goal

abbrev pub invariant-loop-set : goal.invariant-loop-set
invariant-loop-set l = AreRows l.m (take l.set-index l.sets) l.rows.items
