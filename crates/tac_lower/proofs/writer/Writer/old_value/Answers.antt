use Rattle.std.proofs.Common.{subst}
use Rattle.tac_lower.specs.tools.Emits.{Emits}
use Rattle.tac_lower.specs.Instrs as i
use Rattle.tac_lower.proofs.writer.Writer.old_value.Goals as goal

pub returns-in_ok-place-in-Direct : goal.returns-in_ok-place-in-Direct
returns-in_ok-place-in-Direct c = λ ends. rw (c.in-Direct.is) (subst (λ p. Emits (i.get c.args.line p) ends c.args.self.now c.get.new.self c.get.result) c.in_ok-place-in-Direct.ensures (c.get.ensures ends))

pub returns-in-Left : goal.returns-in-Left
returns-in-Left c = λ ends. rw (c.in-Left.is) (c.load.ensures ends)
