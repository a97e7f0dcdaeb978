use Rattle.c_print.proofs.ReadBack.{read_back}
use Rattle.c_print.proofs.law.reads_back.Goals as goal

pub returns : goal.returns
returns c = read_back
