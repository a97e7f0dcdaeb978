use Rattle.tac_lower.proofs.emitted.Chains.{nothing}
use Rattle.tac_lower.proofs.writer.Writer.guard.Goals as goal

pub returns-in-None : goal.returns-in-None
returns-in-None c = λ in_main ends. rw (c.in-None.is) (nothing 0 ends c.args.self.now)

pub returns-in-Some : goal.returns-in-Some
returns-in-Some c = λ in_main ends. rw (c.in-Some.is) (c.condition.ensures ends)
