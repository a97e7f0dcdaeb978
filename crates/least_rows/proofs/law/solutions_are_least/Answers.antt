use Rattle.least_rows.proofs.Least.{least}
use Rattle.least_rows.proofs.law.solutions_are_least.Goals as goal

pub returns : goal.returns
returns c = least
