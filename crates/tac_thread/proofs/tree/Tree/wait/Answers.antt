use Rattle.std.proofs.Common.{refl}
use Rattle.tac_thread.proofs.Trees.{stuck_is, some_is}
use Rattle.tac_thread.proofs.tree.Tree.wait.Goals as goal

pub returns : goal.returns
returns g c =
    let update = (c.get_mut.follows.holds c.wait.new.self).3 (some_is _ _ c.in-Some.ensures.value) in
    stuck_is _ _ _ _ _ _ _ c.self.view_is c.in-Some.ensures.value c.wait.ensures update.0 refl
