use Rattle.std.proofs.Common.{◌≡◌, ◌+◌, ◌≤◌, length}
use Rattle.std.specs.Vec.{vec_capacity}
use Rattle.guest_log.proofs.Merging.{IsMerging}
use Rattle.guest_log.proofs.log.merge_into.Given as goal

abbrev pub invariant-loop-more : goal.invariant-loop-more
invariant-loop-more l = IsMerging l.fn.log.items l.others l.log.items l.left l.more × (vec_capacity l.fn.log ≤ vec_capacity l.log)

abbrev pub decreases-loop-more : goal.decreases-loop-more
decreases-loop-more l = l.left + l.more
