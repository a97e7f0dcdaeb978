use Rattle.std.specs.Prelude.{◌≡◌, true}
use Rattle.tree_law.specs.Told.{saying_of}
use Rattle.tree_law.proofs.trees.Growing.{grows}
use Rattle.tree_law.proofs.law.histories_have_chains.Goals as goal

pub returns : goal.returns
returns g c = λ t holds is_log code good s frame rule h log. grows g.D.Domain.meaning code good s frame (saying_of t) (λ h f d. holds h f d ≡ true) (λ h. is_log h ≡ true) rule h log
