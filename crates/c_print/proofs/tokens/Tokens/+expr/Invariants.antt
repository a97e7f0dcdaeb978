use Rattle.std.proofs.Common.{◌≡◌, ◌++◌, ◌∷◌, take}
use Rattle.std.specs.List.{flat_map}
use Rattle.c_lex.specs.declared.token.Mark.{Mark}
use Rattle.c_print.specs.TreeTokens as spec
use Rattle.c_print.proofs.tokens.Tokens.+expr.Given as goal

abbrev pub invariant-arguments-loop-other : goal.invariant-arguments-loop-other
invariant-arguments-loop-other l = l.self ≡ l.initial.self ++ flat_map (λ e. spec.mark Mark.Comma ∷ spec.of_whole e) (take l.other-index l.others)
