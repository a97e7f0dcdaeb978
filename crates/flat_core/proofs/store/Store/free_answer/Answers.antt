use Rattle.std.proofs.Common.{sym, ◌∙◌, ap}
use Rattle.std.specs.Prelude.{Bool, if◌then◌else◌}
use Rattle.tac_ir.specs.declared.run.Answer.{Answer}
use Rattle.tac_ir.specs.declared.run.Stop.{Stop}
use Rattle.flat_core.proofs.Answering.{frees}
use Rattle.flat_core.proofs.store.Store.free_answer.Goals as goal

abbrev freed : Bool → Answer
freed b = if b then Answer.Unit else Answer.Stop Stop.Free

pub returns-then-can_give : goal.returns-then-can_give
returns-then-can_give c = λ m input h store. ap freed (sym c.if-can_give.true ∙ c.can_give.ensures) ∙ frees m input h c.args.self.now.desk c.args.word store.desk

pub returns-else-can_give : goal.returns-else-can_give
returns-else-can_give c = λ m input h store. ap freed (sym c.if-can_give.false ∙ c.can_give.ensures) ∙ frees m input h c.args.self.now.desk c.args.word store.desk
