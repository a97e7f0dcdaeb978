use Rattle.obj_law.proofs.Seeing.{seen}
use Rattle.obj_law.proofs.law.events_are_seen.Goals as goal

pub returns : goal.returns
returns c = seen
