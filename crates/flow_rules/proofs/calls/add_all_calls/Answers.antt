use Rattle.std.proofs.Common.{ap, arith, length, subst}
use Rattle.flow_rules.specs.tools.Reached.{HasCalls}
use Rattle.flow_rules.proofs.InCode.{few_lines}
use Rattle.flow_rules.proofs.Reached.{none_called, calls_skip, calls_all}
use Rattle.flow_rules.proofs.calls.add_all_calls.Goals.{then-set-fun, else-set-fun}
use Rattle.flow_rules.proofs.calls.add_all_calls.Goals as goal

pub loop-fun-init : goal.loop-fun-init
loop-fun-init c = none_called c.args.c.now c.args.set.now

pub overflow_cast-end : goal.overflow_cast-end
overflow_cast-end c = omega (arith, few_lines c.args.c.now c.requires.form c.loop-fun.fun, ap length c.lines_of.ensures)

pub loop-fun-preserved : goal.loop-fun-preserved
loop-fun-preserved c =
    let code = c.args.c.now in
    let n = c.loop-fun.fun in
    elim c.if-set-fun.branch [
      | then-set-fun w ↦ rw (w.set-is, w.changed-is) (calls_all code n c.args.set.now c.loop-fun.set w.add_calls-changed.new.set c.loop-fun.changed w.add_calls-changed.result c.loop-fun.invariant w.if-set-fun.true
          (subst (λ k. HasCalls code n 0 k c.loop-fun.set w.add_calls-changed.new.set w.add_calls-changed.result) (ap length w.lines_of.ensures) w.add_calls-changed.ensures))
      | else-set-fun w ↦ rw (w.set-is, w.changed-is) (calls_skip code n c.args.set.now c.loop-fun.set c.loop-fun.changed c.loop-fun.invariant w.if-set-fun.false)
    ]
