use Rattle.std.proofs.Common.{map, take}
use Rattle.tac_lower.specs.CodeOf.{variables_in}
use Rattle.tac_lower.specs.tools.Interning.{Interned}
use Rattle.tac_lower.proofs.types.Interner.frames.Given as goal

abbrev pub invariant-loop-function : goal.invariant-loop-function
invariant-loop-function l =
    let seen = take l.function-index l.functions in
    Interned l.structs (variables_in seen) (λ shape. map (λ f. map (λ v. shape v.object) f.variables) seen) l.initial.self l.self l.made
