use Rattle.std.proofs.Common.{rules, ◌≡◌, Err, refl, sym, subst}
use Rattle.tac_ir.specs.declared.code.Instr.{Instr}
use Rattle.tac_lower.specs.tools.Emits.{Emits}
use Rattle.tac_lower.specs.Parts.{◌▷◌}
use Rattle.tac_lower.specs.Instrs as i
use Rattle.tac_lower.specs.Values.{expr, value, sizes_in}
use Rattle.tac_lower.proofs.emitted.Chains.{follow, stopped}
use Rattle.tac_lower.proofs.writer.Writer.put_int.Goals as goal

pub returns : goal.returns
returns c = λ ends.
    follow 0 (value c.args.line (expr (sizes_in c.args.structs.now) c.args.e.now)) (λ a. i.quiet c.args.line (λ at. Instr.Out a)) ends c.args.self.now c.argument.new.self c.quiet.new.self c.in_ok-a.a c.quiet.result (λ x. refl)
    (c.in_ok-a.ensures ends) (c.quiet.ensures ends)

pub returns-in_err-a : goal.returns-in_err-a
returns-in_err-a c = λ ends.
    let told : c.from_residual.result ≡ Err c.in_err-a.field-0.0 = search rules in
    subst (λ r. Emits (value c.args.line (expr (sizes_in c.args.structs.now) c.args.e.now) ▷ λ a. i.quiet c.args.line (λ at. Instr.Out a)) ends c.args.self.now c.argument.new.self r) (sym told)
    (stopped 0 (value c.args.line (expr (sizes_in c.args.structs.now) c.args.e.now)) (λ a. i.quiet c.args.line (λ at. Instr.Out a)) ends c.args.self.now c.argument.new.self c.in_err-a.field-0.0 (c.in_err-a.ensures ends))
