use Rattle.dfi_io.proofs.Counts.{load_faults, write_faults}
use Rattle.dfi_io.proofs.law.faults_counted.Goals as goal

pub returns-clause-load : goal.returns-clause-load
returns-clause-load g c = load_faults g.L.Library.tells

pub returns-clause-write : goal.returns-clause-write
returns-clause-write g c = write_faults g.K.Sink.tells
