use Rattle.module_text.proofs.ReadBack.{read_back}
use Rattle.module_text.proofs.law.written_is_read.Goals as goal

pub returns : goal.returns
returns c = read_back
