use Rattle.chain_law.proofs.histories.Chained.{chain_of}
use Rattle.chain_law.proofs.law.runs_have_chains.Goals as goal

pub returns : goal.returns
returns c = chain_of
