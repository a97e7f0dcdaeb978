use Rattle.std.proofs.Common.{◌-◌, arith, sym, subst, ◌∷◌, []}
use Rattle.flow_rules.specs.tools.Spots.{IsBehindAll}
use Rattle.flow_rules.proofs.Spots.{one_within, one_behind}
use Rattle.flow_rules.proofs.leaves.spot_in.Goals as goal

pub returns-then-node-nodes : goal.returns-then-node-nodes
returns-then-node-nodes c = one_within c.args.c.now c.args.shape c.args.node (omega (arith, c.if-node-nodes.true, c.shape_nodes-nodes.ensures))

pub returns-else-node-nodes : goal.returns-else-node-nodes
returns-else-node-nodes c =
    subst (λ k. IsBehindAll c.args.c.now (c.args.shape ∷ []) c.args.node (c.args.node - k)) (sym c.shape_nodes-nodes.ensures)
    (one_behind c.args.c.now c.args.shape c.args.node (omega (arith, c.if-node-nodes.false, c.shape_nodes-nodes.ensures)))
