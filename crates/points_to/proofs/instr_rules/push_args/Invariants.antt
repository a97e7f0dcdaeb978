use Rattle.std.proofs.Common.{◌≡◌, ◌++◌, drop}
use Rattle.points_to.specs.Systems.{arg_rules}
use Rattle.points_to.proofs.instr_rules.push_args.Given as goal

abbrev pub invariant-loop-i : goal.invariant-loop-i
invariant-loop-i l = l.rules ++ arg_rules l.c l.fun l.callee l.i (drop l.i l.args) ≡ l.fn.rules ++ arg_rules l.c l.fun l.callee 0 l.args
