use Rattle.tac_thread.proofs.Runs.{continued, fewer_left, arrived}
use Rattle.tac_thread.proofs.guest.Guest.run_on.Goals as goal

pub loop-smaller : goal.loop-smaller
loop-smaller g c = fewer_left g.D.Domain.meaning _ _ _ _ c.requires.form c.step.ensures.step c.loop-test.true

pub loop-preserved : goal.loop-preserved
loop-preserved g c =
    (c.step.ensures.held, continued g.D.Domain.meaning _ _ _ _ _ c.step.ensures.step c.loop-test.true c.loop.invariant.1)

pub returns-clause-runs : goal.returns-clause-runs
returns-clause-runs g c =
    arrived g.D.Domain.meaning _ _ _ _ _ c.step.ensures.step c.loop-test.false c.step.ensures.stays c.loop.invariant.1
