use Rattle.std.proofs.Common.{◌≡◌}
use Rattle.tac_ir.specs.Nodes.{var_node}
use Rattle.flow_rules.proofs.nodes.fun_node.Given as goal

abbrev pub invariant-loop-before : goal.invariant-loop-before
invariant-loop-before l = l.node ≡ var_node l.c l.before-index 0
