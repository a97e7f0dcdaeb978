use Rattle.std.proofs.Common.{◌∙◌}
use Rattle.tac_thread.proofs.Forking.{planting_more, next_guest, planted_all, nothing_left, uprooted}
use Rattle.tac_thread.proofs.tree.Tree.plant.Goals as goal

pub plant_one-requires-clause-guest : goal.plant_one-requires-clause-guest
plant_one-requires-clause-guest g c = next_guest g.D.Domain.meaning _ _ _ _ _ _ _ _ _ c.in-Some.ensures.items c.loop-guest.invariant.0

pub returns-in-Err-clause-err : goal.returns-in-Err-clause-err
returns-in-Err-clause-err g c =
    uprooted g.D.Domain.meaning _ c.args.self.now c.loop-guest.self c.plant_one.new.self _ _ _ _ _ c.requires.free.free c.loop-guest.invariant.0
    c.in-Err.ensures.err c.uproot.ensures.branches c.uproot.ensures.others c.loop-guest.invariant.1 c.uproot.ensures.done

pub loop-guest-preserved : goal.loop-guest-preserved
loop-guest-preserved g c = (
  planting_more g.D.Domain.meaning _ _ _ _ _ _ _ _ _ _ c.requires.free.few c.in-Some.ensures.items c.loop-guest.invariant.0 c.in_default-plant_one.ensures.ok,
  c.plant_one.ensures.done ∙ c.loop-guest.invariant.1,
)

pub returns-clause-planted : goal.returns-clause-planted
returns-clause-planted g c = planted_all g.D.Domain.meaning _ _ _ _ _ _ _ (nothing_left _ _ c.in_default.ensures.items c.in_default.ensures.rest) c.loop-guest.invariant.0
