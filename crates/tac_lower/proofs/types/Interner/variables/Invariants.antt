use Rattle.std.proofs.Common.{map, take}
use Rattle.tac_lower.specs.tools.Interning.{Interned}
use Rattle.tac_lower.proofs.types.Interner.variables.Given as goal

abbrev pub invariant-loop-variable : goal.invariant-loop-variable
invariant-loop-variable l =
    Interned l.structs (map (λ v. v.object) (take l.variable-index l.variables)) (λ shape. map (λ v. shape v.object) (take l.variable-index l.variables)) l.initial.self l.self l.made
