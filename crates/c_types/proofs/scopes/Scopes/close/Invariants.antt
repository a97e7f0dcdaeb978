use Rattle.std.proofs.Common.{length}
use Rattle.c_types.proofs.ScopesLaws.{Closing}
use Rattle.c_types.proofs.scopes.Scopes.close.Given as goal

abbrev pub invariant-loop-self : goal.invariant-loop-self
invariant-loop-self l = Closing l.start l.initial.self l.self

abbrev pub decreases-loop-self : goal.decreases-loop-self
decreases-loop-self l = length l.self.bindings
