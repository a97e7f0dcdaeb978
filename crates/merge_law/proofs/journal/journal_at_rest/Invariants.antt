use Rattle.std.proofs.Common.{drop, map}
use Rattle.guest_log.specs.declared.stamped.Stamped.{Stamped}
use Rattle.merge_law.proofs.runs.Upto.{IsReading}
use Rattle.merge_law.proofs.journal.journal_at_rest.Given as goal

abbrev pub invariant-loop-stamped : goal.invariant-loop-stamped
invariant-loop-stamped l =
    IsReading l.rest (map (λ (s : Stamped). s.entry) l.log) l.entries.items (map (λ (s : Stamped). s.entry) (drop l.stamped-index l.log))
