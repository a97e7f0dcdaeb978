use Rattle.link_law.proofs.reach.Back.{go_back}
use Rattle.link_law.proofs.law.returns_go_home.Goals as goal

pub returns : goal.returns
returns c = go_back
