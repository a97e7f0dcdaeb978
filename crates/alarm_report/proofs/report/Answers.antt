use Rattle.std.proofs.Common.{rules}
use Rattle.tac_ir.specs.Text.{text_of}
use Rattle.alarm_report.proofs.report.Goals as goal

pub returns : goal.returns
unfolding text_of
returns c = search rules
