use Rattle.std.proofs.Common.{◌≡◌, ◌+◌, ◌-◌}
use Rattle.heap_desk.specs.tools.Spans.{word_at, first_gap}
use Rattle.heap_desk.proofs.scan.first_word.Given as goal

abbrev pub invariant-loop-index : goal.invariant-loop-index
invariant-loop-index l = first_gap (word_at l.ends) l.first l.count l.from l.words ≡ first_gap (word_at l.ends) l.index (l.first + l.count - l.index) l.reached l.words
