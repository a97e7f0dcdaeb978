use Rattle.std.proofs.Common.{false, replicate, sym, ap, ◌∙◌}
use Rattle.par_interfere.proofs.Joins.{join_turn, skip_turn}
use Rattle.dfi_base.specs.Bits.{has}
use Rattle.par_interfere.specs.declared.branches.Branch.{Branch}
use Rattle.std.proofs.lemmas.List.{length-replicate}
use Rattle.par_interfere.proofs.rows.beside_fun.Goals as goal
use Rattle.par_interfere.proofs.rows.beside_fun.Goals.{then-get, else-get}

pub loop-i-preserved : goal.loop-i-preserved
loop-i-preserved c = elim c.if-get.branch [
  | then-get w ↦
      join_turn (λ (b : Branch). has b.called c.args.fun) c.args.branches.now c.args.others.now c.loop-i.i c.index-branches-i.result (replicate c.args.width false) c.loop-i.row c.if-get.row c.args.width
      w.index-others-i.result c.loop-i-test.true c.index-branches-i.is (ap (λ (b : Branch). has b.called c.args.fun) c.index-branches-i.is ∙ sym c.get.ensures ∙ w.if-get.true) c.requires.others w.index-others-i.is (length-replicate c.args.width false) (w.row-is ∙ w.or.ensures.row) c.loop-i.invariant
  | else-get w ↦
      skip_turn (λ (b : Branch). has b.called c.args.fun) c.args.branches.now c.args.others.now c.loop-i.i c.index-branches-i.result (replicate c.args.width false) c.loop-i.row c.if-get.row
      c.loop-i-test.true c.index-branches-i.is (ap (λ (b : Branch). has b.called c.args.fun) c.index-branches-i.is ∙ sym c.get.ensures ∙ w.if-get.false) w.row-is c.loop-i.invariant
]
