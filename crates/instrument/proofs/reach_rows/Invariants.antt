use Rattle.std.proofs.Common.{◌≡◌, map, sum, take}
use Rattle.instrument.specs.tools.MadeRows.{rows_from}
use Rattle.instrument.proofs.MakingRows.{size}
use Rattle.instrument.proofs.reach_rows.Given as goal

abbrev pub invariant-loop-fun : goal.invariant-loop-fun
invariant-loop-fun l = (l.made ≡ rows_from 0 (take l.fun l.funs) l.rows) × (l.first ≡ sum (map size (take l.fun l.funs)))
