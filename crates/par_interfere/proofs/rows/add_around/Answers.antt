use Rattle.std.proofs.Common.{length, refl, sym, ◌∙◌}
use Rattle.par_interfere.proofs.Joins.{join_turn, skip_turn}
use Rattle.par_interfere.specs.tools.Branches.{is_around}
use Rattle.par_interfere.proofs.rows.add_around.Goals as goal
use Rattle.par_interfere.proofs.rows.add_around.Goals.{then-is_around, else-is_around}

pub loop-i-preserved : goal.loop-i-preserved
loop-i-preserved c = elim c.if-is_around.branch [
  | then-is_around w ↦
      join_turn (λ b. is_around b c.args.p) c.args.branches.now c.args.others.now c.loop-i.i c.index-branches-i.result c.args.row.now c.loop-i.row c.if-is_around.row (length c.args.row.now)
      w.index-others-i.result c.loop-i-test.true c.index-branches-i.is (sym c.is_around.ensures ∙ w.if-is_around.true) c.requires w.index-others-i.is refl (w.row-is ∙ w.or.ensures.row) c.loop-i.invariant
  | else-is_around w ↦
      skip_turn (λ b. is_around b c.args.p) c.args.branches.now c.args.others.now c.loop-i.i c.index-branches-i.result c.args.row.now c.loop-i.row c.if-is_around.row
      c.loop-i-test.true c.index-branches-i.is (sym c.is_around.ensures ∙ w.if-is_around.false) w.row-is c.loop-i.invariant
]
