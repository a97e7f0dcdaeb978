use Rattle.std.proofs.Common.{◌≡◌, ◌++◌}
use Rattle.c_print.specs.TreeTokens as spec
use Rattle.c_print.proofs.tokens.Tokens.stars.Given as goal

abbrev pub invariant-loop-star : goal.invariant-loop-star
invariant-loop-star l = l.self ≡ l.fn.self ++ spec.of_stars l._star
