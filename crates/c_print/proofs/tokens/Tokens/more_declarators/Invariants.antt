use Rattle.std.proofs.Common.{◌≡◌, ◌++◌, ◌∷◌, take}
use Rattle.std.specs.List.{flat_map}
use Rattle.c_lex.specs.declared.token.Mark.{Mark}
use Rattle.c_print.specs.TreeTokens as spec
use Rattle.c_print.proofs.tokens.Tokens.more_declarators.Given as goal

abbrev pub invariant-loop-declarator : goal.invariant-loop-declarator
invariant-loop-declarator l = l.self ≡ l.fn.self ++ flat_map (λ d. spec.mark Mark.Comma ∷ spec.of_declarator d) (take l.declarator-index l.declarators)
