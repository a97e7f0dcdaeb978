use Rattle.std.proofs.Common.{false, replicate, sym, ◌∙◌}
use Rattle.par_interfere.proofs.Joins.{join_turn, skip_turn}
use Rattle.std.proofs.lemmas.List.{length-replicate}
use Rattle.par_interfere.specs.tools.Branches.{are_beside}
use Rattle.par_interfere.proofs.rows.beside_branch.Goals as goal
use Rattle.par_interfere.proofs.rows.beside_branch.Goals.{then-is_beside, else-is_beside}

pub loop-i-preserved : goal.loop-i-preserved
loop-i-preserved c = elim c.if-is_beside.branch [
  | then-is_beside w ↦
      join_turn (are_beside c.args.branch.now) c.args.branches.now c.args.bodies.now c.loop-i.i c.index-branches-i.result (replicate c.args.width false) c.loop-i.row c.if-is_beside.row c.args.width
      w.index-bodies-i.result c.loop-i-test.true c.index-branches-i.is (sym c.is_beside.ensures ∙ w.if-is_beside.true) c.requires w.index-bodies-i.is (length-replicate c.args.width false) (w.row-is ∙ w.or.ensures.row) c.loop-i.invariant
  | else-is_beside w ↦
      skip_turn (are_beside c.args.branch.now) c.args.branches.now c.args.bodies.now c.loop-i.i c.index-branches-i.result (replicate c.args.width false) c.loop-i.row c.if-is_beside.row
      c.loop-i-test.true c.index-branches-i.is (sym c.is_beside.ensures ∙ w.if-is_beside.false) w.row-is c.loop-i.invariant
]
