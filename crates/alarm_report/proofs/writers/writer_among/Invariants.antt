use Rattle.std.proofs.Common.{◌≡◌, length, reverse}
use Rattle.alarm_report.specs.Writers.{writer_in}
use Rattle.alarm_report.proofs.writers.writer_among.Given as goal

abbrev pub invariant-loop-entry : goal.invariant-loop-entry
invariant-loop-entry l = writer_in (reverse l.rest) l.word ≡ writer_in (reverse l.entries) l.word

abbrev pub decreases-loop-entry : goal.decreases-loop-entry
decreases-loop-entry l = length l.rest
