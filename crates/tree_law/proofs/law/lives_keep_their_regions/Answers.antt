use Rattle.tree_law.specs.Told.{saying_of}
use Rattle.tree_law.proofs.lives.Placing.{places_along}
use Rattle.tree_law.proofs.law.lives_keep_their_regions.Goals as goal

pub returns : goal.returns
returns g c = λ t code good s h f d chain. places_along g.D.Domain.meaning code good s (saying_of t) h f d chain
