use Rattle.def_classes.proofs.Telling.{tell_sets}
use Rattle.def_classes.proofs.law.classes_tell_sets.Goals as goal

pub returns : goal.returns
returns c = tell_sets
