use Rattle.std.proofs.Common.{◌∙◌, sym}
use Rattle.tac_lower.proofs.counted.CountLaws.{defs_one, defs_same}
use Rattle.tac_lower.proofs.limits.defs_in.Goals as goal
use Rattle.tac_lower.proofs.limits.defs_in.Goals.{then-is_def, else-is_def}

pub loop-line-preserved : goal.loop-line-preserved
loop-line-preserved c =
    elim c.if-is_def.branch [
      | then-is_def w ↦
          w.count-is ∙ w.saturating_add-count.ensures
          ∙ defs_one c.args.lines.now c.loop-line.line-index c.loop-line.count c.line-item.result c.loop-line-test.true c.line-item.is (sym c.is_def.ensures ∙ w.if-is_def.true) c.loop-line.invariant
      | else-is_def w ↦
          w.count-is
          ∙ defs_same c.args.lines.now c.loop-line.line-index c.loop-line.count c.line-item.result c.loop-line-test.true c.line-item.is (sym c.is_def.ensures ∙ w.if-is_def.false) c.loop-line.invariant
    ]
