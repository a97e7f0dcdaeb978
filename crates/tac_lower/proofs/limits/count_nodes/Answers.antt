use Rattle.std.proofs.Common.{◌≡◌, ◌+◌, ◌∙◌, [], ap, arith, length, slice_index, subst, sym, take}
use Rattle.std.proofs.lemmas.List.{length_push}
use Rattle.tac_ir.specs.Counts.{nodes_by}
use Rattle.tac_lower.specs.tools.Counting.{AreNodes, capped}
use Rattle.tac_lower.proofs.counted.CountLaws.{no_nodes, nodes_more}
use Rattle.tac_lower.proofs.limits.count_nodes.Goals as goal

pub loop-shape-init : goal.loop-shape-init
loop-shape-init c =
    let none = c.new-nodes.ensures.items in
    record { count = ap length none; each = subst (AreNodes []) (sym none) no_nodes }

pub loop-shape-preserved : goal.loop-shape-preserved
loop-shape-preserved c =
    let shapes = c.args.shapes.now in
    let i = c.loop-shape.shape-index in
    let nodes = c.loop-shape.nodes.items in
    let shape = c.shape-item.result in
    let n = c.nodes_of-count.result in
    let counted : n ≡ capped (nodes_by (slice_index nodes) shape) = c.nodes_of-count.ensures ∙ ap (λ xs. capped (nodes_by (slice_index xs) shape)) c.as_slice.ensures.value in
    let pushed = c.in_ok-push.ensures.items in
    record {
      count = (let a = ap length pushed in let b = length_push nodes n in let d = c.loop-shape.invariant.count in omega arith);
      each = subst (AreNodes (take (i + 1) shapes)) (sym pushed)
          (nodes_more shapes i shape nodes n c.loop-shape-test.true c.shape-item.is c.loop-shape.invariant.count counted c.loop-shape.invariant.each);
    }
