use Rattle.std.proofs.Common.{map, take}
use Rattle.tac_lower.specs.CodeOf.{global_of}
use Rattle.tac_lower.specs.tools.Interning.{Interned}
use Rattle.tac_lower.proofs.types.Interner.globals.Given as goal

abbrev pub invariant-loop-global : goal.invariant-loop-global
invariant-loop-global l =
    Interned l.structs (map (λ g. g.object) (take l.global-index l.globals)) (λ shape. map (global_of shape) (take l.global-index l.globals)) l.initial.self l.self l.made
