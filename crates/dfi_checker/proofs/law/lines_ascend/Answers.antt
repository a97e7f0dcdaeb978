use Rattle.dfi_checker.proofs.Ascending.{lines_ascend}
use Rattle.dfi_checker.proofs.law.lines_ascend.Goals as goal

pub returns : goal.returns
returns c = lines_ascend
