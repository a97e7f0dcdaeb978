use Rattle.c_types.proofs.ScopesLaws.{popped}
use Rattle.c_types.proofs.scopes.drop_last.Goals as goal

pub returns : goal.returns
returns c = popped c.pop.result c.args.starts.now c.pop.new.self c.pop.ensures
