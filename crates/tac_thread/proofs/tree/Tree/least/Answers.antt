use Rattle.std.proofs.Common.{sym, subst}
use Rattle.tac_thread.specs.Threads.{life_in, IsLeastOf}
use Rattle.tac_thread.proofs.Trees.{first_is_least}
use Rattle.tac_thread.proofs.tree.Tree.least.Goals as goal

pub returns-in-None : goal.returns-in-None
returns-in-None g c =
    subst (IsLeastOf (life_in c.args.self.now)) (sym c.first_running.ensures.first) (first_is_least c.args.self.now.lives c.first_running.ensures.ordered)
