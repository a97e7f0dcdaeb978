use Rattle.tac_lower.proofs.Laws.{functions_stand}
use Rattle.tac_lower.proofs.law.functions_stand_in_code.Goals as goal

pub returns : goal.returns
returns c = functions_stand
