use Rattle.std.proofs.Common.{rules, ◌≡◌, pos, Err, refl, sym, subst}
use Rattle.tac_lower.specs.Parts.{◌▷◌, ◌⨟◌}
use Rattle.tac_lower.specs.Instrs.{test, constant, skip, zero_again}
use Rattle.tac_lower.specs.tools.Emits.{Emits}
use Rattle.tac_lower.specs.Values.{settled}
use Rattle.tac_lower.proofs.emitted.Chains.{follow, stopped}
use Rattle.tac_lower.proofs.writer.Writer.settle.Goals as goal

pub returns-in_err-test : goal.returns-in_err-test
returns-in_err-test c = λ ends.
    let told : c.from_residual.result ≡ Err c.in_err-test.field-0.0 = search rules in
    subst (λ r. Emits (settled c.args.line c.args.y) ends c.args.self.now c.test.new.self r) (sym told)
    (stopped 0 (test c.args.line c.args.y 2) (λ x. constant c.args.line (pos 1) ▷ λ t. skip c.args.line 1 ⨟ zero_again c.args.line t) ends c.args.self.now c.test.new.self c.in_err-test.field-0.0 (c.in_err-test.ensures ends))

pub returns-in_err-to : goal.returns-in_err-to
returns-in_err-to c = λ ends.
    let told : c.from_residual-in_err-to.result ≡ Err c.in_err-to.field-0.0 = search rules in
    subst (λ r. Emits (settled c.args.line c.args.y) ends c.args.self.now c.constant.new.self r) (sym told)
    (follow 0 (test c.args.line c.args.y 2) (λ x. constant c.args.line (pos 1) ▷ λ t. skip c.args.line 1 ⨟ zero_again c.args.line t) ends c.args.self.now c.test.new.self c.constant.new.self c.in_ok-test.field-0 (Err c.in_err-to.field-0.0) (λ x. refl) (c.in_ok-test.ensures ends)
    (stopped 0 (constant c.args.line (pos 1)) (λ t. skip c.args.line 1 ⨟ zero_again c.args.line t) ends c.test.new.self c.constant.new.self c.in_err-to.field-0.0 (c.in_err-to.ensures ends)))

pub returns-in_err-skip : goal.returns-in_err-skip
returns-in_err-skip c = λ ends.
    let told : c.from_residual-in_err-skip.result ≡ Err c.in_err-skip.field-0.0 = search rules in
    subst (λ r. Emits (settled c.args.line c.args.y) ends c.args.self.now c.skip.new.self r) (sym told)
    (follow 0 (test c.args.line c.args.y 2) (λ x. constant c.args.line (pos 1) ▷ λ t. skip c.args.line 1 ⨟ zero_again c.args.line t) ends c.args.self.now c.test.new.self c.skip.new.self c.in_ok-test.field-0 (Err c.in_err-skip.field-0.0) (λ x. refl) (c.in_ok-test.ensures ends)
    (follow 0 (constant c.args.line (pos 1)) (λ t. skip c.args.line 1 ⨟ zero_again c.args.line t) ends c.test.new.self c.constant.new.self c.skip.new.self c.in_ok-to.to (Err c.in_err-skip.field-0.0) (λ x. refl) (c.in_ok-to.ensures ends)
    (stopped 0 (skip c.args.line 1) (λ x. zero_again c.args.line c.in_ok-to.to) ends c.constant.new.self c.skip.new.self c.in_err-skip.field-0.0 (c.in_err-skip.ensures ends))))

pub returns : goal.returns
returns c = λ ends.
    (follow 0 (test c.args.line c.args.y 2) (λ x. constant c.args.line (pos 1) ▷ λ t. skip c.args.line 1 ⨟ zero_again c.args.line t) ends c.args.self.now c.test.new.self c.zero_again.new.self c.in_ok-test.field-0 c.zero_again.result (λ x. refl) (c.in_ok-test.ensures ends)
    (follow 0 (constant c.args.line (pos 1)) (λ t. skip c.args.line 1 ⨟ zero_again c.args.line t) ends c.test.new.self c.constant.new.self c.zero_again.new.self c.in_ok-to.to c.zero_again.result (λ x. refl) (c.in_ok-to.ensures ends)
    (follow 0 (skip c.args.line 1) (λ x. zero_again c.args.line c.in_ok-to.to) ends c.constant.new.self c.skip.new.self c.zero_again.new.self c.in_ok-skip.field-0 c.zero_again.result (λ x. refl) (c.in_ok-skip.ensures ends)
    (c.zero_again.ensures ends))))
