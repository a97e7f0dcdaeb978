use Rattle.std.proofs.Common.{◌≡◌, drop}
use Rattle.tac_ir.specs.Text.{line_among}
use Rattle.alarm_report.proofs.definitions.line_among.Given as goal

abbrev pub invariant-loop-lined : goal.invariant-loop-lined
invariant-loop-lined l = line_among (drop l.lined-index l.lines) l.def ≡ line_among l.lines l.def
