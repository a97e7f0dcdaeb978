use Rattle.std.proofs.Common.{◌≡◌, map, take}
use Rattle.c_types.specs.tools.DeclWalk.{parameter_type}
use Rattle.c_types.proofs.outline.Outline.types_of.Given as goal

abbrev pub invariant-loop-p : goal.invariant-loop-p
invariant-loop-p l = l.types ≡ map (λ p. parameter_type l.self p.base p.stars p.brackets) (take l.p-index l.ps)
