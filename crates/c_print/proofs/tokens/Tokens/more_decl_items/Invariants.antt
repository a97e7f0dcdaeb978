use Rattle.std.proofs.Common.{◌≡◌, ◌++◌, ◌∷◌, take}
use Rattle.std.specs.List.{flat_map}
use Rattle.c_lex.specs.declared.token.Mark.{Mark}
use Rattle.c_print.specs.TreeTokens as spec
use Rattle.c_print.proofs.tokens.Tokens.more_decl_items.Given as goal

abbrev pub invariant-loop-item : goal.invariant-loop-item
invariant-loop-item l = l.self ≡ l.fn.self ++ flat_map (λ i. spec.mark Mark.Comma ∷ spec.of_decl_item i) (take l.item-index l.items)
