use Rattle.std.proofs.Common.{◌≤◌, ◌+◌, ◌∙◌, arith, ap, sym, length, true, false}
use Rattle.std.proofs.lemmas.List.{append-nil}
use Rattle.std.specs.Prelude.{pos}
use Rattle.tac_ir.specs.Nodes.{is_leaf_node}
use Rattle.flow_rules.proofs.VarNodes.{nodes_below}
use Rattle.flow_rules.proofs.SpotSteps.{global_item}
use Rattle.flow_rules.proofs.Added.{one_leaf}
use Rattle.flow_rules.proofs.fact_list.push_global.Goals.{then-is_leaf_node+in_ok-push, else-is_leaf_node}
use Rattle.flow_rules.proofs.fact_list.push_global.Goals as goal

pub shape_nodes-requires-clause-fits : goal.shape_nodes-requires-clause-fits
shape_nodes-requires-clause-fits c =
    let item = global_item c.args.c.now c.requires.form c.as_slice.result.now c.as_slice.ensures c.args.var (record { shape = 0; start = pos 0; line = 0 }) (omega (arith, c.requires.var, ap length c.as_slice.ensures)) in
    let fits = item.fits in
    omega (arith, fits)

pub overflow_add-end : goal.overflow_add-end
overflow_add-end c =
    let item = global_item c.args.c.now c.requires.form c.as_slice.result.now c.as_slice.ensures c.args.var (record { shape = 0; start = pos 0; line = 0 }) (omega (arith, c.requires.var, ap length c.as_slice.ensures)) in
    let fits = item.fits in
    omega (arith, fits, c.shape_nodes.ensures, c.global_node-first.ensures, nodes_below c.args.c.now c.requires.form c.args.var)

pub loop-leaf-preserved : goal.loop-leaf-preserved
loop-leaf-preserved c =
    let first = c.global_node-first.result in
    let low : first ≤ c.loop-leaf.leaf = omega (arith, c.loop-leaf.auto.leaf) in
    elim c.if-is_leaf_node.branch [
      | then-is_leaf_node+in_ok-push w ↦ one_leaf (is_leaf_node c.args.c.now) (c.args.var + 1) first c.loop-leaf.leaf c.args.pairs.now c.loop-leaf.pairs c.if-is_leaf_node.pairs low c.loop-leaf.invariant true
          (sym c.is_leaf_node.ensures ∙ w.if-is_leaf_node.true) (w.pairs-is ∙ w.in_ok-push.ensures.ok)
      | else-is_leaf_node w ↦ one_leaf (is_leaf_node c.args.c.now) (c.args.var + 1) first c.loop-leaf.leaf c.args.pairs.now c.loop-leaf.pairs c.if-is_leaf_node.pairs low c.loop-leaf.invariant false
          (sym c.is_leaf_node.ensures ∙ w.if-is_leaf_node.false) (w.pairs-is ∙ sym (append-nil c.loop-leaf.pairs))
    ]
