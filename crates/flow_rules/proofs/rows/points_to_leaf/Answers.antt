use Rattle.std.proofs.Common.{◌≡◌, ◌∙◌, ap, sym, true, false}
use Rattle.std.specs.Prelude.{◌&&◌}
use Rattle.tac_ir.specs.declared.module.Key.{Key}
use Rattle.tac_ir.specs.Answers.{has}
use Rattle.tac_ir.specs.Accesses.{nodes_for}
use Rattle.tac_ir.specs.Nodes.{is_leaf_node}
use Rattle.flow_rules.proofs.Members.{has_filter}
use Rattle.flow_rules.proofs.rows.points_to_leaf.Goals as goal

pub returns-then-has : goal.returns-then-has
returns-then-has c =
    let nodes = nodes_for c.args.points.now.rows (Key.Temp c.args.fun c.args.temp) in
    let had : has nodes c.args.leaf ≡ true = ap (λ xs. has xs c.args.leaf) (sym c.nodes_for.ensures) ∙ sym c.has.ensures ∙ c.if-has.true in
    c.is_leaf_node.ensures ∙ ap (λ b. b && is_leaf_node c.args.c.now c.args.leaf) (sym had) ∙ sym (has_filter (is_leaf_node c.args.c.now) nodes c.args.leaf)

pub returns-else-has : goal.returns-else-has
returns-else-has c =
    let nodes = nodes_for c.args.points.now.rows (Key.Temp c.args.fun c.args.temp) in
    let had : has nodes c.args.leaf ≡ false = ap (λ xs. has xs c.args.leaf) (sym c.nodes_for.ensures) ∙ sym c.has.ensures ∙ c.if-has.false in
    c.if-has.false ∙ ap (λ b. b && is_leaf_node c.args.c.now c.args.leaf) (sym had) ∙ sym (has_filter (is_leaf_node c.args.c.now) nodes c.args.leaf)
