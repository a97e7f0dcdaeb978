use Rattle.obj_mem.proofs.FoundWrites.{read_written}
use Rattle.obj_mem.proofs.law.reads_find_writes.Goals as goal

pub returns : goal.returns
returns c = read_written
