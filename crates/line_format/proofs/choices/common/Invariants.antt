use Rattle.std.proofs.Common.{◌≡◌, ◌+◌, drop}
use Rattle.line_format.specs.tools.Words.{common}
use Rattle.line_format.proofs.choices.common.Given as goal

abbrev pub invariant-loop-index : goal.invariant-loop-index
invariant-loop-index l = common l.fn.word l.fn.bytes ≡ l.index + common (drop l.index l.fn.word) (drop l.index l.fn.bytes)
