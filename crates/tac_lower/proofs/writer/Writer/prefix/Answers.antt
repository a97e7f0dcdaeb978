use Rattle.std.proofs.Common.{subst}
use Rattle.tac_lower.specs.tools.Emits.{Emits}
use Rattle.tac_lower.specs.Values.{negation}
use Rattle.tac_lower.proofs.writer.Writer.prefix.Goals as goal

pub returns-in-Minus : goal.returns-in-Minus
returns-in-Minus c = λ ends. rw (c.in-Minus.is) (c.prefixed.ensures ends)

pub returns-in-Complement : goal.returns-in-Complement
returns-in-Complement c = λ ends. rw (c.in-Complement.is) (c.prefixed-in-Complement.ensures ends)

pub returns-in-Not : goal.returns-in-Not
returns-in-Not c = λ ends. rw (c.in-Not.is) (subst (λ b. Emits (negation c.args.line b c.args.a) ends c.args.self.now c.negation.new.self c.negation.result) c.is_int.ensures (c.negation.ensures ends))
