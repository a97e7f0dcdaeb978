use Rattle.tree_law.specs.Told.{saying_of}
use Rattle.live_law.proofs.Points.{points_along}
use Rattle.live_law.proofs.law.live_points_are_parallel.Goals as goal

pub returns : goal.returns
returns g c = λ t code good s h f d chain. points_along g.D.Domain.meaning code good s (saying_of t) h f d chain
