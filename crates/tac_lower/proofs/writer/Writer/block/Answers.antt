use Rattle.std.proofs.Common.{subst}
use Rattle.tac_lower.specs.Instrs as spec
use Rattle.tac_lower.specs.tools.Emits.{Emits}
use Rattle.tac_lower.proofs.writer.Writer.block.Goals as goal

pub returns : goal.returns
returns c = λ ends. subst (λ t. Emits (spec.new c.args.line c.args.site t c.args.a) ends c.args.self.now c.put.new.self c.put.result) c.in_ok-object.ensures (c.put.ensures ends)
