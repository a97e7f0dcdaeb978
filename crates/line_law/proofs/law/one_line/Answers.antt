use Rattle.line_law.proofs.OneLine.{one_line}
use Rattle.line_law.proofs.law.one_line.Goals as goal

pub returns : goal.returns
returns c = one_line
