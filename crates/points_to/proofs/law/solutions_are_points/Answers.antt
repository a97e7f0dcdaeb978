use Rattle.points_to.proofs.Solved.{solved}
use Rattle.points_to.proofs.law.solutions_are_points.Goals as goal

pub returns : goal.returns
returns c = solved
