use Rattle.std.proofs.Common.{◌≡◌}
use Rattle.tac_thread.specs.tools.Settling.{first_running}
use Rattle.tac_thread.proofs.tree.Tree.first_running.Given as goal

abbrev pub invariant-loop-name : goal.invariant-loop-name
invariant-loop-name g l = first_running l.name-iterator ≡ first_running l.self.lives
