use Rattle.std.proofs.Common.{refl}
use Rattle.tac_ir.specs.Layout.{words_in}
use Rattle.tac_ir.specs.Counts.{nodes_in}
use Rattle.test_flow.proofs.Forms.{worked}
use Rattle.test_flow.proofs.program.beside.Goals as goal

pub returns : goal.returns
unfolding words_in nodes_in
returns c = worked _ _ refl c.module_of.result c.module_of.ensures
