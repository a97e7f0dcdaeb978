use Rattle.tac_thread.specs.Threads.{life_in}
use Rattle.tac_thread.proofs.Trees.{guest_runs}
use Rattle.tac_thread.proofs.tree.Tree.next.Goals as goal

pub want-requires-clause-guest : goal.want-requires-clause-guest
want-requires-clause-guest g c = guest_runs g.D.Domain.meaning _ (life_in c.args.self.now) _ _ c.in-Some.ensures c.requires.tree
