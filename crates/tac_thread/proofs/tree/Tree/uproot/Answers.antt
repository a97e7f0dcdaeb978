use Rattle.std.proofs.Common.{◌∙◌, arith}
use Rattle.tac_thread.specs.Threads.{life_in}
use Rattle.tac_thread.proofs.Trees.{none_below_more, others_more}
use Rattle.tac_thread.proofs.tree.Tree.uproot.Goals as goal

pub loop-i-preserved : goal.loop-i-preserved
loop-i-preserved g c = (
  none_below_more (life_in c.loop-i.self) _ c.args.name _ c.loop-i.invariant.0 c.remove.ensures.lives,
  others_more (life_in c.args.self.now) (life_in c.loop-i.self) _ c.args.name _ c.loop-i.invariant.1 c.remove.ensures.lives c.loop-i.auto.i (omega arith),
  c.remove.ensures.done ∙ c.loop-i.invariant.2,
)
