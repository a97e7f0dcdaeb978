use Rattle.tac_lower.proofs.emitted.Chains.{nothing}
use Rattle.tac_lower.proofs.writer.Writer.pointer_to.Goals as goal

pub returns-in-Direct : goal.returns-in-Direct
returns-in-Direct c = λ ends. rw (c.in-Direct.is) (c.address.ensures ends)

pub returns-in-Left : goal.returns-in-Left
returns-in-Left c = λ ends. rw (c.in-Left.is) (nothing c.in-Left.a ends c.args.self.now)
