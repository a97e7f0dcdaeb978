use Rattle.std.proofs.Common.{◌≡◌, drop}
use Rattle.c_types.specs.tools.Outlines.{times}
use Rattle.c_types.proofs.words.times.Given as goal

abbrev pub invariant-loop-length : goal.invariant-loop-length
invariant-loop-length l = times l.fn.words l.lengths ≡ times l.words (drop l.length-index l.lengths)
