use Rattle.std.proofs.Common.{get_or}
use Rattle.flow_rules.specs.PointNumber.{point_at}
use Rattle.std.proofs.lemmas.Option.{slice_get-get_or}
use Rattle.par_interfere.proofs.BranchLists.{branches_more}
use Rattle.par_interfere.proofs.branches.all_branches.Goals as goal

pub loop-p-preserved : goal.loop-p-preserved
loop-p-preserved c =
    branches_more c.args.c.now c.args.points.now c.loop-p.p-index (get_or c.args.points.now c.loop-p.p-index (point_at 0 0)) c.loop-p.branches.items c.add_branches.new.branches.items
    (slice_get-get_or c.args.points.now c.loop-p.p-index (point_at 0 0) c.loop-p-test.true) c.in_ok-add_branches.ensures.new c.in_ok-add_branches.ensures.kept c.in_ok-add_branches.ensures.added
    c.loop-p.invariant
