use Rattle.std.proofs.Common.{◌≡◌, None}
use Rattle.stripe_table.specs.Passes.{knows, IsStep}
use Rattle.stripe_table.specs.Tries.{HasTried}
use Rattle.stripe_table.proofs.memory.SharedMem.access.Given as goal

abbrev pub invariant-loop : goal.invariant-loop
invariant-loop g l =
    (goal.iterator-loop g).can_next l.iterator' × (goal.iterator-loop g).is_finite l.iterator' × IsStep l.fn.pass l.pass × (l.pass.held ≡ None) × (l.pass.log ≡ l.fn.pass.log)
    × HasTried (knows l.fn.pass) (knows l.pass)
