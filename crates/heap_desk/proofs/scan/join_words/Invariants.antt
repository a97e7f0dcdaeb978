use Rattle.std.proofs.Common.{◌≡◌, ◌+◌, ◌-◌}
use Rattle.heap_desk.specs.tools.Spans.{no_span, word_at, joined}
use Rattle.heap_desk.proofs.scan.join_words.Given as goal

abbrev pub invariant-loop-k : goal.invariant-loop-k
invariant-loop-k l = joined (word_at l.ends) l.first l.count no_span ≡ joined (word_at l.ends) l.k (l.first + l.count - l.k) l.all
