use Rattle.std.proofs.Common.{refl}
use Rattle.tac_ir.specs.Layout.{words_in}
use Rattle.tac_ir.specs.Counts.{nodes_in}
use Rattle.test_sets.proofs.Forms.{good_module}
use Rattle.test_sets.proofs.codes.forked.Goals as goal

pub returns : goal.returns
unfolding words_in nodes_in
returns c = good_module _ refl c.module_of.result c.module_of.ensures
