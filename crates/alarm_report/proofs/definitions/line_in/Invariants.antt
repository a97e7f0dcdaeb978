use Rattle.std.proofs.Common.{◌≡◌, drop}
use Rattle.tac_ir.specs.Text.{line_in}
use Rattle.alarm_report.proofs.definitions.line_in.Given as goal

abbrev pub invariant-loop-fun : goal.invariant-loop-fun
invariant-loop-fun l = line_in (drop l.fun-index l.funs) l.def ≡ line_in l.funs l.def
