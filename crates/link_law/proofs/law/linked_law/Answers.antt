use Rattle.std.proofs.Common.{◌≡◌, true}
use Rattle.link_law.proofs.reach.Back.{linked}
use Rattle.link_law.proofs.law.linked_law.Goals as goal

pub returns : goal.returns
returns c = λ facts. linked (λ p d f. facts p d f ≡ true)
