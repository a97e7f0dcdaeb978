use Rattle.live_law.proofs.Bodies.{bodies_parallel}
use Rattle.live_law.proofs.law.bodies_have_parallel_points.Goals as goal

pub returns : goal.returns
returns c = bodies_parallel
