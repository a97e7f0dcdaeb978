use Rattle.c_parse.proofs.OneTree.{programs_prefix}
use Rattle.c_parse.proofs.law.prefix_continues.Goals as goal

pub returns : goal.returns
returns c = programs_prefix
