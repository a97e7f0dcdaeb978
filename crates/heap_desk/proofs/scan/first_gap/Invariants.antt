use Rattle.std.proofs.Common.{◌≡◌, ◌+◌, ◌-◌}
use Rattle.heap_desk.specs.tools.Spans.{span_at, first_gap}
use Rattle.heap_desk.proofs.scan.first_gap.Given as goal

abbrev pub invariant-loop-index : goal.invariant-loop-index
invariant-loop-index l = first_gap (span_at l.spans) l.first l.count l.from l.words ≡ first_gap (span_at l.spans) l.index (l.first + l.count - l.index) l.reached l.words
