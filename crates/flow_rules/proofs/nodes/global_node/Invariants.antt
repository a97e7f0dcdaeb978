use Rattle.std.proofs.Common.{◌≡◌}
use Rattle.tac_ir.specs.Nodes.{global_node}
use Rattle.flow_rules.proofs.nodes.global_node.Given as goal

abbrev pub invariant-loop-global : goal.invariant-loop-global
invariant-loop-global l = l.node ≡ global_node l.c l.global-index
