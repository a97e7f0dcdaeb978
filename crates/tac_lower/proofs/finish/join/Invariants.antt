use Rattle.std.proofs.Common.{◌≡◌, ◌++◌, drop, reverse}
use Rattle.tac_lower.specs.tools.Interning.{joined}
use Rattle.tac_lower.proofs.finish.join.Given as goal

abbrev pub invariant-loop-function : goal.invariant-loop-function
invariant-loop-function l =
    l.funs ++ joined (drop l.function-index l.functions) (reverse l.frames) (reverse l.lines)
    ≡ joined l.functions (reverse l.initial.frames) (reverse l.initial.lines)
