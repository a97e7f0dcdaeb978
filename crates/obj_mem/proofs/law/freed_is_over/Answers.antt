use Rattle.obj_mem.proofs.Over.{freed_over}
use Rattle.obj_mem.proofs.law.freed_is_over.Goals as goal

pub returns : goal.returns
returns c = freed_over
