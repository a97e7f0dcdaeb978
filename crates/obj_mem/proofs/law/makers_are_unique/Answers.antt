use Rattle.obj_mem.proofs.WasMade.{living_is_made, blocks_no_frames}
use Rattle.obj_mem.proofs.Over.{written_made}
use Rattle.obj_mem.proofs.law.makers_are_unique.Goals as goal

pub returns-clause-living : goal.returns-clause-living
returns-clause-living c = living_is_made

pub returns-clause-written : goal.returns-clause-written
returns-clause-written c = written_made

pub returns-clause-apart : goal.returns-clause-apart
returns-clause-apart c = blocks_no_frames
