use Rattle.std.proofs.Common.{◌≡◌, length}
use Rattle.first_module.specs.StraightLine.{leads_to_items}
use Rattle.first_module.proofs.steps.leads_to_items.Given as goal

-- the rest leads where all of it does
abbrev pub invariant-loop-rest : goal.invariant-loop-rest
invariant-loop-rest l = leads_to_items l.lines ≡ leads_to_items l.rest

abbrev pub decreases-loop-rest : goal.decreases-loop-rest
decreases-loop-rest l = length l.rest
