use Rattle.std.proofs.Common.{◌≡◌}
use Rattle.tac_ir.specs.Nodes.{site_node}
use Rattle.flow_rules.proofs.nodes.site_node.Given as goal

abbrev pub invariant-loop-before : goal.invariant-loop-before
invariant-loop-before l = l.node ≡ site_node l.c l.before-index
