use Rattle.std.proofs.Common.{◌≡◌, ◌+◌, ◌-◌}
use Rattle.heap_desk.specs.tools.Spans.{no_span, span_at, joined}
use Rattle.heap_desk.proofs.scan.join.Given as goal

abbrev pub invariant-loop-k : goal.invariant-loop-k
invariant-loop-k l = joined (span_at l.spans) l.first l.count no_span ≡ joined (span_at l.spans) l.k (l.first + l.count - l.k) l.all
