use Rattle.std.proofs.Common.{◌≡◌, ◌++◌, ◌∷◌, take}
use Rattle.std.specs.List.{flat_map}
use Rattle.c_lex.specs.declared.token.Mark.{Mark}
use Rattle.c_print.specs.TreeTokens as spec
use Rattle.c_print.proofs.tokens.Tokens.more_proto_params.Given as goal

abbrev pub invariant-loop-param : goal.invariant-loop-param
invariant-loop-param l = l.self ≡ l.fn.self ++ flat_map (λ p. spec.mark Mark.Comma ∷ spec.of_proto_param p) (take l.param-index l.params)
