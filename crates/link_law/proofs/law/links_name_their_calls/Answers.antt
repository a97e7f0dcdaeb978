use Rattle.link_law.proofs.homes.Home.{go_home}
use Rattle.link_law.proofs.law.links_name_their_calls.Goals as goal

pub returns : goal.returns
returns c = go_home
