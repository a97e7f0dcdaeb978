use Rattle.c_typed.proofs.WellProgram.{typed_well}
use Rattle.c_typed.proofs.law.typed_is_well.Goals as goal

pub returns : goal.returns
returns c = typed_well
