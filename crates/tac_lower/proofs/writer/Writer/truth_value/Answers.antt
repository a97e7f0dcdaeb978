use Rattle.std.proofs.Common.{rules, ◌≡◌, Err, sym, subst}
use Rattle.tac_lower.specs.tools.Emits.{Emits}
use Rattle.c_typed.specs.Elaboration.{truth_of}
use Rattle.tac_lower.specs.Values.{expr, value, truth, truth_by, sizes_in}
use Rattle.tac_lower.proofs.pieces.Levels.{typing_is}
use Rattle.tac_lower.proofs.emitted.Chains.{follow, stopped, truth_counts}
use Rattle.tac_lower.proofs.writer.Writer.truth_value.Goals as goal

pub returns : goal.returns
returns c = λ ends.
    (follow 0 ((value c.args.line (expr (sizes_in c.args.structs.now) c.args.e.now))) (λ a. truth_by c.args.line (expr (sizes_in c.args.structs.now) c.args.e.now).typing a) ends c.args.self.now c.argument.new.self c.truth_of.new.self c.in_ok-a.a c.truth_of.result (truth_counts c.args.line (truth_of (expr (sizes_in c.args.structs.now) c.args.e.now).typing))
    (c.in_ok-a.ensures ends)
    (subst (λ t. Emits (truth_by c.args.line t c.in_ok-a.a) ends c.argument.new.self c.truth_of.new.self c.truth_of.result) (sym (typing_is (sizes_in c.args.structs.now) c.args.e.now)) (c.truth_of.ensures ends)))

pub returns-in_err-a : goal.returns-in_err-a
returns-in_err-a c = λ ends.
    let told : c.from_residual.result ≡ Err c.in_err-a.field-0.0 = search rules in
    subst (λ r. Emits (truth c.args.line (expr (sizes_in c.args.structs.now) c.args.e.now)) ends c.args.self.now c.argument.new.self r) (sym told)
    (stopped 0 ((value c.args.line (expr (sizes_in c.args.structs.now) c.args.e.now))) (λ a. truth_by c.args.line (expr (sizes_in c.args.structs.now) c.args.e.now).typing a) ends c.args.self.now c.argument.new.self c.in_err-a.field-0.0 (c.in_err-a.ensures ends))
