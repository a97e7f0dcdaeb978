use Rattle.std.proofs.Common.{◌≡◌, length, take}
use Rattle.tac_ir.specs.Numbers.{new_def, numbers_in}
use Rattle.tac_lower.specs.tools.Counting.{capped}
use Rattle.tac_lower.proofs.limits.defs_in.Given as goal

abbrev pub invariant-loop-line : goal.invariant-loop-line
invariant-loop-line l = l.count ≡ capped (length (numbers_in new_def (take l.line-index l.lines)))
