use Rattle.std.proofs.Common.{◌≡◌, drop}
use Rattle.tac_lower.specs.Limits.{passing}
use Rattle.tac_lower.proofs.limits.passing.Given as goal

abbrev pub invariant-loop-share : goal.invariant-loop-share
invariant-loop-share l = passing l.room (drop l.share-index l.shares) ≡ passing l.limit l.shares
