use Rattle.std.proofs.Common.{rules, ◌≡◌, pos, Ok, Err, refl, sym, subst}
use Rattle.tac_ir.specs.declared.code.Instr.{Instr}
use Rattle.tac_lower.specs.Parts.{given}
use Rattle.tac_lower.specs.Instrs as spec
use Rattle.tac_lower.specs.tools.Emits.{Emits}
use Rattle.tac_lower.proofs.emitted.Chains.{follow, stopped, nothing}
use Rattle.tac_lower.proofs.writer.Writer.zero_again.Goals as goal

pub returns-in_err-quiet : goal.returns-in_err-quiet
returns-in_err-quiet c = λ ends.
    let told : c.from_residual.result ≡ Err c.in_err-quiet.field-0.0 = search rules in
    subst (λ r. Emits (spec.zero_again c.args.line c.args.to) ends c.args.self.now c.quiet.new.self r) (sym told)
    (stopped 0 (spec.quiet c.args.line (λ at. Instr.Const c.args.to (pos 0))) (λ x. given c.args.to) ends c.args.self.now c.quiet.new.self c.in_err-quiet.field-0.0 (c.in_err-quiet.ensures ends))

pub returns : goal.returns
returns c = λ ends.
    follow 0 (spec.quiet c.args.line (λ at. Instr.Const c.args.to (pos 0))) (λ x. given c.args.to) ends c.args.self.now c.quiet.new.self c.quiet.new.self c.in_ok-quiet.field-0 (Ok c.args.to)
    (λ x. refl) (c.in_ok-quiet.ensures ends) (nothing c.args.to ends c.quiet.new.self)
