use Rattle.std.proofs.Common.{◌≡◌, ◌++◌, ◌+◌, ◌-◌}
use Rattle.std.specs.Prelude.{filter}
use Rattle.std.specs.List.{range_with_len}
use Rattle.tac_ir.specs.Nodes.{is_leaf_node}
use Rattle.flow_rules.specs.tools.Added.{facts_with}
use Rattle.flow_rules.proofs.fact_list.push_global.Given as goal

abbrev pub invariant-loop-leaf : goal.invariant-loop-leaf
invariant-loop-leaf l = l.pairs ≡ l.initial.pairs ++ facts_with (l.var + 1) (filter (is_leaf_node l.c) (range_with_len l.first (l.leaf - l.first)))
