use Rattle.points_to.proofs.Reading.{funs_turn}
use Rattle.points_to.proofs.answer.entries_of.Goals as goal

pub loop-fun-preserved : goal.loop-fun-preserved
loop-fun-preserved c =
    funs_turn c.args.c.now c.args.rows.now c.loop-fun.fun c.loop-fun.list c.push_temps.new.list c.loop-fun.invariant c.in_ok-push_temps.ensures
