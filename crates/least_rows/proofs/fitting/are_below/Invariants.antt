use Rattle.std.proofs.Common.{◌<◌, All, take}
use Rattle.least_rows.proofs.fitting.are_below.Given as goal

abbrev pub invariant-loop-number : goal.invariant-loop-number
invariant-loop-number l = All (λ number. number < l.count) (take l.number-index l.numbers)
