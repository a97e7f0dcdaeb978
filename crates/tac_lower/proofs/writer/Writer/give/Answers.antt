use Rattle.std.proofs.Common.{rules, ◌≡◌, pos, Err, sym, subst}
use Rattle.tac_lower.specs.tools.Emits.{Emits}
use Rattle.tac_lower.specs.Parts.{◌▷◌}
use Rattle.tac_lower.specs.Instrs as i
use Rattle.tac_lower.specs.Values.{expr, value, sizes_in}
use Rattle.tac_lower.proofs.emitted.Chains.{returned_counts, follow, stopped}
use Rattle.tac_lower.specs.Stmts as stmts
use Rattle.tac_lower.proofs.writer.Writer.give.Goals as goal

pub returns-in_ok-a-in-None : goal.returns-in_ok-a-in-None
returns-in_ok-a-in-None c = λ ends. rw (c.in-None.is)
    (follow 0 (i.constant c.args.line (pos 0)) (λ a. stmts.returned c.args.in_main c.args.line a) ends c.args.self.now c.constant.new.self c.give_back.new.self c.in_ok-a-in-None.a c.give_back.result (returned_counts c.args.in_main c.args.line)
    (c.in_ok-a-in-None.ensures ends)
    (c.give_back.ensures ends))

pub returns-in_err-a-in-None : goal.returns-in_err-a-in-None
returns-in_err-a-in-None c = λ ends.
    let told : c.from_residual.result ≡ Err c.in_err-a-in-None.field-0.0 = search rules in
    rw (c.in-None.is) (subst (λ r. Emits (i.constant c.args.line (pos 0) ▷ (λ a. stmts.returned c.args.in_main c.args.line a)) ends c.args.self.now c.constant.new.self r) (sym told)
    (stopped 0 (i.constant c.args.line (pos 0)) (λ a. stmts.returned c.args.in_main c.args.line a) ends c.args.self.now c.constant.new.self c.in_err-a-in-None.field-0.0 (c.in_err-a-in-None.ensures ends)))

pub returns-in_ok-a-in-Some : goal.returns-in_ok-a-in-Some
returns-in_ok-a-in-Some c = λ ends. rw (c.in-Some.is)
    (follow 0 ((value c.args.line (expr (sizes_in c.args.structs.now) c.in-Some.e))) (λ a. stmts.returned c.args.in_main c.args.line a) ends c.args.self.now c.argument.new.self c.give_back-in-Some.new.self c.in_ok-a-in-Some.a c.give_back-in-Some.result (returned_counts c.args.in_main c.args.line)
    (c.in_ok-a-in-Some.ensures ends)
    (c.give_back-in-Some.ensures ends))

pub returns-in_err-a-in-Some : goal.returns-in_err-a-in-Some
returns-in_err-a-in-Some c = λ ends.
    let told : c.from_residual-in_err-a-in-Some.result ≡ Err c.in_err-a-in-Some.field-0.0 = search rules in
    rw (c.in-Some.is) (subst (λ r. Emits ((value c.args.line (expr (sizes_in c.args.structs.now) c.in-Some.e)) ▷ (λ a. stmts.returned c.args.in_main c.args.line a)) ends c.args.self.now c.argument.new.self r) (sym told)
    (stopped 0 ((value c.args.line (expr (sizes_in c.args.structs.now) c.in-Some.e))) (λ a. stmts.returned c.args.in_main c.args.line a) ends c.args.self.now c.argument.new.self c.in_err-a-in-Some.field-0.0 (c.in_err-a-in-Some.ensures ends)))
