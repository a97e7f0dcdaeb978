use Rattle.std.proofs.Common.{ap, arith, length, subst, false}
use Rattle.std.specs.Prelude.{replicate}
use Rattle.dfi_base.proofs.RowLaws.{no_bits}
use Rattle.flow_rules.specs.tools.Reached.{HasCalls}
use Rattle.flow_rules.proofs.InCode.{few_lines}
use Rattle.flow_rules.proofs.Reached.{calls_itself}
use Rattle.flow_rules.proofs.calls.can_call_itself.Goals as goal

pub overflow_cast-end : goal.overflow_cast-end
overflow_cast-end c = omega (arith, few_lines c.args.c.now c.requires.form c.args.fun, ap length c.lines_of.ensures)

pub returns : goal.returns
returns c =
    calls_itself c.args.c.now c.args.fun (replicate 256 false) c.add_calls.new.set c.add_reached.new.set (no_bits 256) c.add_calls.result
    (subst (λ k. HasCalls c.args.c.now c.args.fun 0 k (replicate 256 false) c.add_calls.new.set c.add_calls.result) (ap length c.lines_of.ensures) c.add_calls.ensures) c.add_reached.ensures
