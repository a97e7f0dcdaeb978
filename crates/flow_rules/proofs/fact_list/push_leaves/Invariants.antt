use Rattle.std.proofs.Common.{◌≡◌, ◌++◌, take}
use Rattle.std.specs.Prelude.{filter}
use Rattle.tac_ir.specs.Nodes.{is_leaf_node}
use Rattle.flow_rules.specs.tools.Added.{facts_with}
use Rattle.flow_rules.proofs.fact_list.push_leaves.Given as goal

abbrev pub invariant-loop-node : goal.invariant-loop-node
invariant-loop-node l = l.pairs ≡ l.initial.pairs ++ facts_with l.def (filter (is_leaf_node l.c) (take l.node-index l.nodes))
