use Rattle.flow_rules.proofs.PathNodes.{IsAlong}
use Rattle.flow_rules.proofs.nodes.nodes_along.Given as goal

abbrev pub invariant-loop-k : goal.invariant-loop-k
invariant-loop-k l = IsAlong l.c l.shape l.path l.k-index l.node l.here
