use Rattle.std.proofs.Common.{rules, ◌≡◌, Err, refl, sym, subst}
use Rattle.c_typed.specs.Elaboration.{Operation}
use Rattle.tac_ir.specs.declared.code.UnOp.{UnOp}
use Rattle.tac_lower.specs.Instrs.{index, prefixed}
use Rattle.tac_lower.specs.tools.Emits.{Emits}
use Rattle.tac_lower.specs.Values.{carried}
use Rattle.tac_lower.proofs.emitted.Chains.{follow, stopped}
use Rattle.tac_lower.proofs.writer.Writer.back.Goals as goal

pub returns-in_err-number : goal.returns-in_err-number
returns-in_err-number c = λ ends.
    let told : c.from_residual.result ≡ Err c.in_err-number.field-0.0 = search rules in
    subst (λ r. Emits (carried c.args.line (Operation.move_down c.args.words) c.args.a c.args.b) ends c.args.self.now c.prefixed.new.self r) (sym told)
    (stopped 0 (prefixed c.args.line UnOp.Neg c.args.b) (λ n. index c.args.line c.args.words c.args.a n) ends c.args.self.now c.prefixed.new.self c.in_err-number.field-0.0 (c.in_err-number.ensures ends))

pub returns : goal.returns
returns c = λ ends.
    follow 0 (prefixed c.args.line UnOp.Neg c.args.b) (λ n. index c.args.line c.args.words c.args.a n) ends c.args.self.now c.prefixed.new.self c.index.new.self c.in_ok-number.number c.index.result
    (λ x. refl) (c.in_ok-number.ensures ends) (c.index.ensures ends)
