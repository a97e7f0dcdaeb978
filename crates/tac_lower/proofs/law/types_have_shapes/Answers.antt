use Rattle.tac_lower.proofs.Laws.{shapes_stand}
use Rattle.tac_lower.proofs.law.types_have_shapes.Goals as goal

pub returns : goal.returns
returns c = shapes_stand
