use Rattle.tac_thread.proofs.Trees.{settles_more}
use Rattle.tac_thread.proofs.tree.Tree.settle.Goals as goal

pub loop-here-smaller : goal.loop-here-smaller
loop-here-smaller g c = (c.close.ensures.goes_on c.loop-here-test.true).less

pub loop-here-preserved : goal.loop-here-preserved
loop-here-preserved g c =
    let next = c.close.ensures.goes_on c.loop-here-test.true in
    (next.threads, settles_more g.D.Domain.meaning _ _ _ _ _ _ _ _ _ c.loop-here.invariant.1 next)

pub returns-clause-settles : goal.returns-clause-settles
returns-clause-settles g c = c.loop-here.invariant.1 _ _ (c.close.ensures.stops c.loop-here-test.false)
