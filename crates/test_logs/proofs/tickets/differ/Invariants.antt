use Rattle.std.specs.Prelude.{take}
use Rattle.guest_log.specs.Tickets.{Differ}
use Rattle.test_logs.proofs.tickets.differ.Given as goal

abbrev pub invariant-loop-stamped : goal.invariant-loop-stamped
invariant-loop-stamped l = Differ (take l.stamped-index l.first) l.second
