use Rattle.std.proofs.Common.{◌≡◌, arith, ◌∙◌, sym, ap, sum, map, take, length}
use Rattle.std.proofs.lemmas.List.{length-take-le}
use Rattle.tac_ir.specs.declared.code.Fun.{Fun}
use Rattle.tac_ir.specs.Counts.{shape_nodes}
use Rattle.flow_rules.proofs.VarNodes.{var_step}
use Rattle.flow_rules.proofs.nodes.var_node.Goals as goal

pub slice_bounds-nodes_of_all-end : goal.slice_bounds-nodes_of_all-end
slice_bounds-nodes_of_all-end c =
    let step = var_step c.args.c.now c.requires.form c.as_slice.result.now c.as_slice.ensures c.args.fun c.args.var c.index-as_slice-fun.result c.requires.fun c.index-as_slice-fun.is c.requires.var in
    let rows : c.as_slice-vars.result.now ≡ c.index-as_slice-fun.result.vars = c.as_slice-vars.ensures ∙ ap (λ (x : Fun). x.vars) (sym c.index-as_slice-fun.is) in
    let low = step.low in
    sym (length-take-le c.args.var c.as_slice-vars.result.now (omega (arith, low, ap length rows)))

pub nodes_of_all-requires-clause-fits : goal.nodes_of_all-requires-clause-fits
nodes_of_all-requires-clause-fits c =
    let step = var_step c.args.c.now c.requires.form c.as_slice.result.now c.as_slice.ensures c.args.fun c.args.var c.index-as_slice-fun.result c.requires.fun c.index-as_slice-fun.is c.requires.var in
    let rows : c.as_slice-vars.result.now ≡ c.index-as_slice-fun.result.vars = c.as_slice-vars.ensures ∙ ap (λ (x : Fun). x.vars) (sym c.index-as_slice-fun.is) in
    let fits = step.fits in
    omega (arith, fits, ap (λ xs. sum (map (shape_nodes c.args.c.now) (take c.args.var xs))) rows)

pub overflow_add-result : goal.overflow_add-result
overflow_add-result c =
    let step = var_step c.args.c.now c.requires.form c.as_slice.result.now c.as_slice.ensures c.args.fun c.args.var c.index-as_slice-fun.result c.requires.fun c.index-as_slice-fun.is c.requires.var in
    let rows : c.as_slice-vars.result.now ≡ c.index-as_slice-fun.result.vars = c.as_slice-vars.ensures ∙ ap (λ (x : Fun). x.vars) (sym c.index-as_slice-fun.is) in
    let fits = step.fits in
    omega (arith, fits, c.fun_node.ensures, c.nodes_of_all.ensures, ap (λ xs. sum (map (shape_nodes c.args.c.now) (take c.args.var xs))) rows)

pub returns : goal.returns
returns c =
    let step = var_step c.args.c.now c.requires.form c.as_slice.result.now c.as_slice.ensures c.args.fun c.args.var c.index-as_slice-fun.result c.requires.fun c.index-as_slice-fun.is c.requires.var in
    let rows : c.as_slice-vars.result.now ≡ c.index-as_slice-fun.result.vars = c.as_slice-vars.ensures ∙ ap (λ (x : Fun). x.vars) (sym c.index-as_slice-fun.is) in
    let node = step.node in
    omega (arith, node, c.fun_node.ensures, c.nodes_of_all.ensures, ap (λ xs. sum (map (shape_nodes c.args.c.now) (take c.args.var xs))) rows)
