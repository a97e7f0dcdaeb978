use Rattle.tac_thread.specs.Threads.{life_in}
use Rattle.tac_thread.proofs.Trees.{stepped_settling, settled_tree, fed_to, fed_here}
use Rattle.tac_thread.proofs.tree.Tree.feed.Goals as goal

pub returns-then-not-may_have_ended-clause-fed : goal.returns-then-not-may_have_ended-clause-fed
returns-then-not-may_have_ended-clause-fed g c =
    let fed = c.in_ok-may_have_ended.ensures in
    fed_here g.D.Domain.meaning _ _ _ (life_in c.args.self.now) _ _ _ fed.fed fed.done (fed.ended c.if-not-may_have_ended.true)

pub returns-then-not-may_have_ended-clause-tree : goal.returns-then-not-may_have_ended-clause-tree
returns-then-not-may_have_ended-clause-tree g c =
    let fed = c.in_ok-may_have_ended.ensures in
    settled_tree g.D.Domain.meaning _ _ _ (stepped_settling g.D.Domain.meaning _ _ _ (life_in c.args.self.now) _ c.requires.tree c.requires.kind fed.fed) (fed.ended c.if-not-may_have_ended.true)

pub settle-requires-clause-threads : goal.settle-requires-clause-threads
settle-requires-clause-threads g c =
    stepped_settling g.D.Domain.meaning _ _ _ (life_in c.args.self.now) _ c.requires.tree c.requires.kind c.in_ok-may_have_ended.ensures.fed

pub returns-clause-fed : goal.returns-clause-fed
returns-clause-fed g c =
    fed_to g.D.Domain.meaning _ _ _ (life_in c.args.self.now) _ _ _ _ _ c.in_ok-may_have_ended.ensures.fed c.in_ok-may_have_ended.ensures.done c.settle.ensures.settles
