use Rattle.std.proofs.Common.{◌≡◌, ◌-◌, length}
use Rattle.least_rows.proofs.Moving.{MovedBelow}
use Rattle.least_rows.proofs.gather.gather_moved.Given as goal

abbrev pub invariant-loop-at : goal.invariant-loop-at
invariant-loop-at l = record {
  long : length l.asked ≡ length l.fn.asked;
  asked : MovedBelow l.rows l.masks l.from l.mask l.by l.at l.asked;
}

abbrev pub decreases-loop-at : goal.decreases-loop-at
decreases-loop-at l = l.width - l.at
