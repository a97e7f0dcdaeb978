use Rattle.std.proofs.Common.{◌≡◌, ◌++◌, ◌∷◌, take}
use Rattle.std.specs.List.{flat_map}
use Rattle.c_print.specs.Spelling.{spelled}
use Rattle.c_print.proofs.text.spell_more.Given as goal

abbrev pub invariant-loop-kind : goal.invariant-loop-kind
invariant-loop-kind l = l.text.items ≡ l.fn.text.items ++ flat_map (λ kind. 32 ∷ spelled l.names kind) (take l.kind-index l.kinds)
