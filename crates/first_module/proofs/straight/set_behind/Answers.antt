use Rattle.first_module.proofs.TrailLemmas.{sets-set}
use Rattle.first_module.proofs.straight.set_behind.Goals as goal

pub returns : goal.returns
returns c =
    sets-set c.args.temp c.args.global c.args.behind.now.items c.make_room.new.behind.items
    c.in_ok-make_room.ensures.room c.in_ok-make_room.ensures.same
