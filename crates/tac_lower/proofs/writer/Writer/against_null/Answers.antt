use Rattle.std.proofs.Common.{rules, ◌≡◌, Err, refl, sym, subst}
use Rattle.tac_lower.specs.Instrs.{null, same}
use Rattle.tac_lower.specs.tools.Emits.{Emits}
use Rattle.tac_lower.specs.Values.{against_null}
use Rattle.tac_lower.proofs.emitted.Chains.{follow, stopped}
use Rattle.tac_lower.proofs.writer.Writer.against_null.Goals as goal

pub returns-in_err-null : goal.returns-in_err-null
returns-in_err-null c = λ ends.
    let told : c.from_residual.result ≡ Err c.in_err-null.field-0.0 = search rules in
    subst (λ r. Emits (against_null c.args.line c.args.ne c.args.a) ends c.args.self.now c.fresh.new.self r) (sym told)
    (stopped 0 (null c.args.line) (λ n. same c.args.line c.args.ne c.args.a n) ends c.args.self.now c.fresh.new.self c.in_err-null.field-0.0 (c.in_err-null.ensures ends))

pub returns : goal.returns
returns c = λ ends.
    follow 0 (null c.args.line) (λ n. same c.args.line c.args.ne c.args.a n) ends c.args.self.now c.fresh.new.self c.same.new.self c.in_ok-null.null c.same.result
    (λ x. refl) (c.in_ok-null.ensures ends) (c.same.ensures ends)
