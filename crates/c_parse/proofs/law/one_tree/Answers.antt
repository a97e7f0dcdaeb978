use Rattle.c_parse.proofs.OneTree.{programs_one_tree}
use Rattle.c_parse.proofs.law.one_tree.Goals as goal

pub returns : goal.returns
returns c = programs_one_tree
