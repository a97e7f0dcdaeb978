use Rattle.std.proofs.Common.{rules, ◌≡◌, Err, refl, sym, subst}
use Rattle.tac_lower.specs.tools.Emits.{Emits}
use Rattle.tac_lower.specs.Instrs as i
use Rattle.tac_lower.specs.Values.{expr, truth, sizes_in}
use Rattle.tac_lower.proofs.emitted.Chains.{follow, stopped}
use Rattle.tac_lower.specs.Stmts as stmts
use Rattle.tac_lower.proofs.writer.Writer.condition.Goals as goal

pub returns : goal.returns
returns c = λ ends.
    (follow 0 (truth c.args.condition.now.line.0 (expr (sizes_in c.args.structs.now) c.args.condition.now.value)) (λ a. i.test c.args.condition.now.line.0 a c.args.past) ends c.args.self.now c.truth_value.new.self c.test.new.self c.in_ok-a.a c.test.result (λ x. refl)
    (c.in_ok-a.ensures ends)
    (c.test.ensures ends))

pub returns-in_err-a : goal.returns-in_err-a
returns-in_err-a c = λ ends.
    let told : c.from_residual.result ≡ Err c.in_err-a.field-0.0 = search rules in
    subst (λ r. Emits (stmts.tested c.args.condition.now.line.0 (expr (sizes_in c.args.structs.now) c.args.condition.now.value) c.args.past) ends c.args.self.now c.truth_value.new.self r) (sym told)
    (stopped 0 (truth c.args.condition.now.line.0 (expr (sizes_in c.args.structs.now) c.args.condition.now.value)) (λ a. i.test c.args.condition.now.line.0 a c.args.past) ends c.args.self.now c.truth_value.new.self c.in_err-a.field-0.0 (c.in_err-a.ensures ends))
