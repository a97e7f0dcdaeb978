use Rattle.std.proofs.Common.{◌≡◌, map, drop}
use Rattle.c_typed.specs.Decls.{by_value}
use Rattle.c_types.proofs.decls.by_value.Given as goal

abbrev pub invariant-loop-item : goal.invariant-loop-item
invariant-loop-item l = by_value (map (λ i. i.declarator) l.items) ≡ by_value (map (λ i. i.declarator) (drop l.item-index l.items))
