use Rattle.std.proofs.Common.{refl}
use Rattle.tac_ir.specs.Layout.{words_in}
use Rattle.tac_ir.specs.Counts.{nodes_in}
use Rattle.test_samples.proofs.Running.{known_runs}
use Rattle.test_samples.proofs.branches.nesting.Goals as goal

pub returns : goal.returns
unfolding words_in nodes_in
returns c = known_runs _ refl c.module_of.result c.module_of.ensures
