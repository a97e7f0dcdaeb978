use Rattle.src_law.proofs.Memory.{reads_found, freed_gone}
use Rattle.src_law.proofs.histories_keep_memory.Goals as goal

pub returns-clause-reads : goal.returns-clause-reads
returns-clause-reads c = reads_found

pub returns-clause-freed : goal.returns-clause-freed
returns-clause-freed c = freed_gone
