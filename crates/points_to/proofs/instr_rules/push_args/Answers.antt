use Rattle.std.proofs.Common.{arith}
use Rattle.points_to.proofs.Numbers.{temps_low}
use Rattle.points_to.proofs.instr_rules.push_args.Goals as goal

pub overflow_cast-i : goal.overflow_cast-i
overflow_cast-i c = (let low = temps_low c.args.c.now c.requires.form c.args.callee c.requires.callee in omega (arith, low, c.requires.few, c.loop-i-test.true))
