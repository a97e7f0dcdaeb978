use Rattle.std.proofs.Common.{rules, ◌≡◌, Ok, Err, ap, sym, ◌∙◌, subst}
use Rattle.tac_lower.specs.tools.Emits.{Emits, write_at, changed}
use Rattle.tac_lower.specs.Values.{sizes_in, carried}
use Rattle.tac_lower.proofs.emitted.Chains.{write_counts, follow, stopped}
use Rattle.c_typed.specs.Elaboration.{update}
use Rattle.tac_lower.specs.Stmts as stmts
use Rattle.tac_lower.proofs.writer.Writer.change.Goals as goal

pub returns : goal.returns
returns c = λ ends.
    (follow 0 (carried c.args.line (update (sizes_in c.args.structs.now) c.args.op (stmts.scalar_at c.args.typing.now)) c.args.old c.args.b) (λ x. write_at c.args.line c.args.spot x) ends c.args.self.now c.carry.new.self c.write.new.self c.in_ok-c.c c.write.result (write_counts c.args.line c.args.spot)
    ((subst (λ p. Emits (carried c.args.line p c.args.old c.args.b) ends c.args.self.now c.carry.new.self (Ok c.in_ok-c.c)) (c.update-plan.ensures ∙ ap (λ t. update (sizes_in c.args.structs.now) c.args.op t) c.scalar_at-scalar.ensures) (c.in_ok-c.ensures ends)))
    (c.write.ensures ends))

pub returns-in_err-c : goal.returns-in_err-c
returns-in_err-c c = λ ends.
    let told : c.from_residual.result ≡ Err c.in_err-c.field-0.0 = search rules in
    subst (λ r. Emits (changed c.args.line (update (sizes_in c.args.structs.now) c.args.op (stmts.scalar_at c.args.typing.now)) c.args.spot c.args.old c.args.b) ends c.args.self.now c.carry.new.self r) (sym told)
    (stopped 0 (carried c.args.line (update (sizes_in c.args.structs.now) c.args.op (stmts.scalar_at c.args.typing.now)) c.args.old c.args.b) (λ x. write_at c.args.line c.args.spot x) ends c.args.self.now c.carry.new.self c.in_err-c.field-0.0 ((subst (λ p. Emits (carried c.args.line p c.args.old c.args.b) ends c.args.self.now c.carry.new.self (Err c.in_err-c.field-0.0)) (c.update-plan.ensures ∙ ap (λ t. update (sizes_in c.args.structs.now) c.args.op t) c.scalar_at-scalar.ensures) (c.in_err-c.ensures ends))))
