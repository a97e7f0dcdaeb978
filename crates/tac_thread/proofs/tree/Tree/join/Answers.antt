use Rattle.tac_thread.proofs.Trees.{went_on, some_is}
use Rattle.tac_thread.proofs.tree.Tree.join.Goals as goal

pub returns-clause-joined : goal.returns-clause-joined
returns-clause-joined g c =
    let update = (c.get_mut.follows.holds c.joined.new.self).3 (some_is _ _ c.in-Some.ensures.value) in
    went_on g.D.Domain.meaning _ _ _ _ _ _ _ c.self.view_is c.in-Some.ensures.value update.0 c.joined.ensures.runs c.joined.ensures.guest
