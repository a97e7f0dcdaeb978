use Rattle.chain_law.proofs.histories.Chained.{same_running}
use Rattle.chain_law.proofs.law.runnable_is_running.Goals as goal

pub returns : goal.returns
returns c = same_running
