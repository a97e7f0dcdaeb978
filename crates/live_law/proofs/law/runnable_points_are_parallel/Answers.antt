use Rattle.live_law.proofs.Running.{runnable_parallel}
use Rattle.live_law.proofs.law.runnable_points_are_parallel.Goals as goal

pub returns : goal.returns
returns c = runnable_parallel
