use Rattle.std.proofs.Common.{[]}
use Rattle.first_module.specs.tools.Trail.{HasTrail}
use Rattle.first_module.proofs.straight.first_definitions.Given as goal

abbrev pub invariant-loop-global : goal.invariant-loop-global
invariant-loop-global l = HasTrail l.global [] [] l.definitions.items
