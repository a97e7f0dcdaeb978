use Rattle.std.proofs.Common.{rules, ◌≡◌, Err, refl, sym, subst}
use Rattle.tac_lower.specs.tools.Emits.{Emits, write_at}
use Rattle.tac_lower.specs.Parts.{◌▷◌}
use Rattle.tac_lower.specs.Instrs as i
use Rattle.tac_lower.specs.Values.{expr, value, sizes_in}
use Rattle.tac_lower.proofs.emitted.Chains.{write_behind, write_counts, follow, stopped, yields, yields_stopped}
use Rattle.tac_lower.specs.Stmts as stmts
use Rattle.tac_lower.proofs.writer.Writer.assign.Goals as goal

pub returns : goal.returns
returns c = λ ends.
    yields ((expr (sizes_in c.args.structs.now) c.args.target.now).yield c.args.line) (λ p. (value c.args.line (expr (sizes_in c.args.structs.now) c.args.source.now)) ▷ λ b. i.set c.args.line p b) (λ a. (value c.args.line (expr (sizes_in c.args.structs.now) c.args.source.now)) ▷ λ b. i.store c.args.line a b) ends c.args.self.now c.expr.new.self c.write.new.self c.in_ok-spot.spot c.write.result (λ x. refl) (c.in_ok-spot.ensures ends)
    (write_behind c.args.line (value c.args.line (expr (sizes_in c.args.structs.now) c.args.source.now)) c.in_ok-spot.spot ends c.expr.new.self c.write.new.self c.write.result (follow 0 ((value c.args.line (expr (sizes_in c.args.structs.now) c.args.source.now))) (λ b. write_at c.args.line c.in_ok-spot.spot b) ends c.expr.new.self c.argument.new.self c.write.new.self c.in_ok-value.value c.write.result (write_counts c.args.line c.in_ok-spot.spot)
    (c.in_ok-value.ensures ends)
    (c.write.ensures ends)))

pub returns-in_err-spot : goal.returns-in_err-spot
returns-in_err-spot c = λ ends.
    let told : c.from_residual.result ≡ Err c.in_err-spot.field-0.0 = search rules in
    subst (λ r. Emits (stmts.assigned c.args.line ((expr (sizes_in c.args.structs.now) c.args.target.now).yield c.args.line) (value c.args.line (expr (sizes_in c.args.structs.now) c.args.source.now))) ends c.args.self.now c.expr.new.self r) (sym told)
    (yields_stopped ((expr (sizes_in c.args.structs.now) c.args.target.now).yield c.args.line) (λ p. (value c.args.line (expr (sizes_in c.args.structs.now) c.args.source.now)) ▷ λ b. i.set c.args.line p b) (λ a. (value c.args.line (expr (sizes_in c.args.structs.now) c.args.source.now)) ▷ λ b. i.store c.args.line a b) ends c.args.self.now c.expr.new.self c.in_err-spot.field-0.0 (c.in_err-spot.ensures ends))

pub returns-in_err-value : goal.returns-in_err-value
returns-in_err-value c = λ ends.
    let told : c.from_residual-in_err-value.result ≡ Err c.in_err-value.field-0.0 = search rules in
    subst (λ r. Emits (stmts.assigned c.args.line ((expr (sizes_in c.args.structs.now) c.args.target.now).yield c.args.line) (value c.args.line (expr (sizes_in c.args.structs.now) c.args.source.now))) ends c.args.self.now c.argument.new.self r) (sym told)
    (yields ((expr (sizes_in c.args.structs.now) c.args.target.now).yield c.args.line) (λ p. (value c.args.line (expr (sizes_in c.args.structs.now) c.args.source.now)) ▷ λ b. i.set c.args.line p b) (λ a. (value c.args.line (expr (sizes_in c.args.structs.now) c.args.source.now)) ▷ λ b. i.store c.args.line a b) ends c.args.self.now c.expr.new.self c.argument.new.self c.in_ok-spot.spot (Err c.in_err-value.field-0.0) (λ x. refl) (c.in_ok-spot.ensures ends)
    (write_behind c.args.line (value c.args.line (expr (sizes_in c.args.structs.now) c.args.source.now)) c.in_ok-spot.spot ends c.expr.new.self c.argument.new.self (Err c.in_err-value.field-0.0) (stopped 0 ((value c.args.line (expr (sizes_in c.args.structs.now) c.args.source.now))) (λ b. write_at c.args.line c.in_ok-spot.spot b) ends c.expr.new.self c.argument.new.self c.in_err-value.field-0.0 (c.in_err-value.ensures ends))))
