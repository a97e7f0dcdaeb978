use Rattle.std.proofs.Common.{◌≡◌, ◌+◌, ◌∙◌, arith, sym, ap, subst, slice_index, slice_index_or, get_or, length, Some}
use Rattle.std.specs.Prelude.{pos}
use Rattle.std.proofs.lemmas.Option.{slice_get-get_or}
use Rattle.tac_ir.specs.declared.code.Fun.{Fun}
use Rattle.tac_ir.specs.declared.code.Global.{Global}
use Rattle.tac_ir.specs.declared.code.Place.{Place}
use Rattle.tac_ir.specs.Layout.{vars_of}
use Rattle.tac_ir.specs.Counts.{shape_nodes}
use Rattle.tac_ir.specs.Nodes.{nodes_along, place_node}
use Rattle.tac_ir.specs.Places.{IsPlace}
use Rattle.flow_rules.specs.tools.EndsSomewhere.{EndsSomewhere}
use Rattle.flow_rules.proofs.PathNodes.{global_place, local_place}
use Rattle.flow_rules.proofs.nodes.place_node.Goals as goal

pub global_node-requires-clause-var : goal.global_node-requires-clause-var
global_node-requires-clause-var c =
    let place = global_place c.args.c.now c.requires.form c.args.fun c.in-Global.var c.in-Global.path (subst (IsPlace c.args.c.now c.args.fun) c.in-Global.is c.requires.place) in
    let d : Global = record { shape = 0; start = pos 0; line = 0 } in
    let root = place.root d in
    let same : (slice_index_or c.as_slice.result.now c.in-Global.var d).shape ≡ (get_or c.args.c.now.globals c.in-Global.var d).shape = ap (λ gs. (get_or gs c.in-Global.var d).shape) c.as_slice.ensures in
    let low = place.low in
    omega (arith, low)

pub nodes_along-requires-clause-path : goal.nodes_along-requires-clause-path
nodes_along-requires-clause-path c =
    let place = global_place c.args.c.now c.requires.form c.args.fun c.in-Global.var c.in-Global.path (subst (IsPlace c.args.c.now c.args.fun) c.in-Global.is c.requires.place) in
    let d : Global = record { shape = 0; start = pos 0; line = 0 } in
    let root = place.root d in
    let same : (slice_index_or c.as_slice.result.now c.in-Global.var d).shape ≡ (get_or c.args.c.now.globals c.in-Global.var d).shape = ap (λ gs. (get_or gs c.in-Global.var d).shape) c.as_slice.ensures in
    let here : EndsSomewhere c.args.c.now (slice_index_or c.as_slice.result.now c.in-Global.var d).shape c.in-Global.path = subst (λ s. EndsSomewhere c.args.c.now s c.in-Global.path) (sym same) root.ends in
    subst (EndsSomewhere c.args.c.now (slice_index_or c.as_slice.result.now c.in-Global.var d).shape) (sym c.as_slice-in-Global.ensures) here

pub nodes_along-requires-clause-fits : goal.nodes_along-requires-clause-fits
nodes_along-requires-clause-fits c =
    let place = global_place c.args.c.now c.requires.form c.args.fun c.in-Global.var c.in-Global.path (subst (IsPlace c.args.c.now c.args.fun) c.in-Global.is c.requires.place) in
    let d : Global = record { shape = 0; start = pos 0; line = 0 } in
    let root = place.root d in
    let same : (slice_index_or c.as_slice.result.now c.in-Global.var d).shape ≡ (get_or c.args.c.now.globals c.in-Global.var d).shape = ap (λ gs. (get_or gs c.in-Global.var d).shape) c.as_slice.ensures in
    let fits = root.fits in
    omega (arith, fits, ap (shape_nodes c.args.c.now) same)

pub overflow_add-result : goal.overflow_add-result
overflow_add-result c =
    let place = global_place c.args.c.now c.requires.form c.args.fun c.in-Global.var c.in-Global.path (subst (IsPlace c.args.c.now c.args.fun) c.in-Global.is c.requires.place) in
    let d : Global = record { shape = 0; start = pos 0; line = 0 } in
    let root = place.root d in
    let same : (slice_index_or c.as_slice.result.now c.in-Global.var d).shape ≡ (get_or c.args.c.now.globals c.in-Global.var d).shape = ap (λ gs. (get_or gs c.in-Global.var d).shape) c.as_slice.ensures in
    let fits = root.fits in
    let along = root.along in
    let node = c.nodes_along.ensures ∙ ap (λ p. nodes_along c.args.c.now (slice_index_or c.as_slice.result.now c.in-Global.var d).shape p) c.as_slice-in-Global.ensures ∙ ap (λ s. nodes_along c.args.c.now s c.in-Global.path) same in
    omega (arith, fits, along, node, c.global_node.ensures)

pub returns-in-Global : goal.returns-in-Global
returns-in-Global c =
    let place = global_place c.args.c.now c.requires.form c.args.fun c.in-Global.var c.in-Global.path (subst (IsPlace c.args.c.now c.args.fun) c.in-Global.is c.requires.place) in
    let d : Global = record { shape = 0; start = pos 0; line = 0 } in
    let root = place.root d in
    let same : (slice_index_or c.as_slice.result.now c.in-Global.var d).shape ≡ (get_or c.args.c.now.globals c.in-Global.var d).shape = ap (λ gs. (get_or gs c.in-Global.var d).shape) c.as_slice.ensures in
    let node = c.nodes_along.ensures ∙ ap (λ p. nodes_along c.args.c.now (slice_index_or c.as_slice.result.now c.in-Global.var d).shape p) c.as_slice-in-Global.ensures ∙ ap (λ s. nodes_along c.args.c.now s c.in-Global.path) (same ∙ place.shape d) in
    let whole : c.global_node.result + c.nodes_along.result ≡ place_node c.args.c.now c.args.fun (Place.Global c.in-Global.var c.in-Global.path) = omega (arith, node, c.global_node.ensures) in
    whole ∙ ap (place_node c.args.c.now c.args.fun) (sym c.in-Global.is)

pub bounds-as_slice-fun : goal.bounds-as_slice-fun
bounds-as_slice-fun c =
    let place = local_place c.args.c.now c.requires.form c.args.fun c.in-Local.var c.in-Local.path (subst (IsPlace c.args.c.now c.args.fun) c.in-Local.is c.requires.place) in
    let exists = place.exists in
    omega (arith, exists, ap length c.as_slice-in-Local.ensures)

pub var_node-requires-clause-fun : goal.var_node-requires-clause-fun
var_node-requires-clause-fun c =
    let place = local_place c.args.c.now c.requires.form c.args.fun c.in-Local.var c.in-Local.path (subst (IsPlace c.args.c.now c.args.fun) c.in-Local.is c.requires.place) in
    place.exists

pub var_node-requires-clause-var : goal.var_node-requires-clause-var
var_node-requires-clause-var c =
    let place = local_place c.args.c.now c.requires.form c.args.fun c.in-Local.var c.in-Local.path (subst (IsPlace c.args.c.now c.args.fun) c.in-Local.is c.requires.place) in
    place.low

pub bounds-vars-var : goal.bounds-vars-var
bounds-vars-var c =
    let place = local_place c.args.c.now c.requires.form c.args.fun c.in-Local.var c.in-Local.path (subst (IsPlace c.args.c.now c.args.fun) c.in-Local.is c.requires.place) in
    let root = place.root in
    let exists = place.exists in
    let item : get_or c.args.c.now.funs c.args.fun c.index-as_slice-fun.result ≡ c.index-as_slice-fun.result = ap (λ fs. get_or fs c.args.fun c.index-as_slice-fun.result) (sym c.as_slice-in-Local.ensures) ∙ sym c.index-as_slice-fun.is in
    let vars : c.as_slice-vars.result.now ≡ vars_of c.args.c.now c.args.fun = c.as_slice-vars.ensures ∙ ap (λ (x : Fun). x.vars) (sym c.index-as_slice-fun.is) ∙ sym (place.vars c.index-as_slice-fun.result (slice_get-get_or c.args.c.now.funs c.args.fun c.index-as_slice-fun.result exists ∙ ap Some item)) in
    let same : slice_index c.as_slice-vars.result.now c.in-Local.var ≡ slice_index (vars_of c.args.c.now c.args.fun) c.in-Local.var = ap (λ vs. slice_index vs c.in-Local.var) vars in
    let low = place.low in
    omega (arith, low, ap length vars)

pub nodes_along-requires-in-Local-clause-path : goal.nodes_along-requires-in-Local-clause-path
nodes_along-requires-in-Local-clause-path c =
    let place = local_place c.args.c.now c.requires.form c.args.fun c.in-Local.var c.in-Local.path (subst (IsPlace c.args.c.now c.args.fun) c.in-Local.is c.requires.place) in
    let root = place.root in
    let exists = place.exists in
    let item : get_or c.args.c.now.funs c.args.fun c.index-as_slice-fun.result ≡ c.index-as_slice-fun.result = ap (λ fs. get_or fs c.args.fun c.index-as_slice-fun.result) (sym c.as_slice-in-Local.ensures) ∙ sym c.index-as_slice-fun.is in
    let vars : c.as_slice-vars.result.now ≡ vars_of c.args.c.now c.args.fun = c.as_slice-vars.ensures ∙ ap (λ (x : Fun). x.vars) (sym c.index-as_slice-fun.is) ∙ sym (place.vars c.index-as_slice-fun.result (slice_get-get_or c.args.c.now.funs c.args.fun c.index-as_slice-fun.result exists ∙ ap Some item)) in
    let same : slice_index c.as_slice-vars.result.now c.in-Local.var ≡ slice_index (vars_of c.args.c.now c.args.fun) c.in-Local.var = ap (λ vs. slice_index vs c.in-Local.var) vars in
    let here : EndsSomewhere c.args.c.now (slice_index c.as_slice-vars.result.now c.in-Local.var) c.in-Local.path = subst (λ s. EndsSomewhere c.args.c.now s c.in-Local.path) (sym same) root.ends in
    subst (EndsSomewhere c.args.c.now (slice_index c.as_slice-vars.result.now c.in-Local.var)) (sym c.as_slice-in-Local-2.ensures) here

pub nodes_along-requires-in-Local-clause-fits : goal.nodes_along-requires-in-Local-clause-fits
nodes_along-requires-in-Local-clause-fits c =
    let place = local_place c.args.c.now c.requires.form c.args.fun c.in-Local.var c.in-Local.path (subst (IsPlace c.args.c.now c.args.fun) c.in-Local.is c.requires.place) in
    let root = place.root in
    let exists = place.exists in
    let item : get_or c.args.c.now.funs c.args.fun c.index-as_slice-fun.result ≡ c.index-as_slice-fun.result = ap (λ fs. get_or fs c.args.fun c.index-as_slice-fun.result) (sym c.as_slice-in-Local.ensures) ∙ sym c.index-as_slice-fun.is in
    let vars : c.as_slice-vars.result.now ≡ vars_of c.args.c.now c.args.fun = c.as_slice-vars.ensures ∙ ap (λ (x : Fun). x.vars) (sym c.index-as_slice-fun.is) ∙ sym (place.vars c.index-as_slice-fun.result (slice_get-get_or c.args.c.now.funs c.args.fun c.index-as_slice-fun.result exists ∙ ap Some item)) in
    let same : slice_index c.as_slice-vars.result.now c.in-Local.var ≡ slice_index (vars_of c.args.c.now c.args.fun) c.in-Local.var = ap (λ vs. slice_index vs c.in-Local.var) vars in
    let fits = root.fits in
    omega (arith, fits, ap (shape_nodes c.args.c.now) same)

pub overflow_add-result-in-Local : goal.overflow_add-result-in-Local
overflow_add-result-in-Local c =
    let place = local_place c.args.c.now c.requires.form c.args.fun c.in-Local.var c.in-Local.path (subst (IsPlace c.args.c.now c.args.fun) c.in-Local.is c.requires.place) in
    let root = place.root in
    let exists = place.exists in
    let item : get_or c.args.c.now.funs c.args.fun c.index-as_slice-fun.result ≡ c.index-as_slice-fun.result = ap (λ fs. get_or fs c.args.fun c.index-as_slice-fun.result) (sym c.as_slice-in-Local.ensures) ∙ sym c.index-as_slice-fun.is in
    let vars : c.as_slice-vars.result.now ≡ vars_of c.args.c.now c.args.fun = c.as_slice-vars.ensures ∙ ap (λ (x : Fun). x.vars) (sym c.index-as_slice-fun.is) ∙ sym (place.vars c.index-as_slice-fun.result (slice_get-get_or c.args.c.now.funs c.args.fun c.index-as_slice-fun.result exists ∙ ap Some item)) in
    let same : slice_index c.as_slice-vars.result.now c.in-Local.var ≡ slice_index (vars_of c.args.c.now c.args.fun) c.in-Local.var = ap (λ vs. slice_index vs c.in-Local.var) vars in
    let fits = root.fits in
    let along = root.along in
    let node = c.nodes_along-in-Local.ensures ∙ ap (λ p. nodes_along c.args.c.now (slice_index c.as_slice-vars.result.now c.in-Local.var) p) c.as_slice-in-Local-2.ensures ∙ ap (λ s. nodes_along c.args.c.now s c.in-Local.path) same in
    omega (arith, fits, along, node, c.var_node.ensures)

pub returns-in-Local : goal.returns-in-Local
returns-in-Local c =
    let place = local_place c.args.c.now c.requires.form c.args.fun c.in-Local.var c.in-Local.path (subst (IsPlace c.args.c.now c.args.fun) c.in-Local.is c.requires.place) in
    let root = place.root in
    let exists = place.exists in
    let item : get_or c.args.c.now.funs c.args.fun c.index-as_slice-fun.result ≡ c.index-as_slice-fun.result = ap (λ fs. get_or fs c.args.fun c.index-as_slice-fun.result) (sym c.as_slice-in-Local.ensures) ∙ sym c.index-as_slice-fun.is in
    let vars : c.as_slice-vars.result.now ≡ vars_of c.args.c.now c.args.fun = c.as_slice-vars.ensures ∙ ap (λ (x : Fun). x.vars) (sym c.index-as_slice-fun.is) ∙ sym (place.vars c.index-as_slice-fun.result (slice_get-get_or c.args.c.now.funs c.args.fun c.index-as_slice-fun.result exists ∙ ap Some item)) in
    let same : slice_index c.as_slice-vars.result.now c.in-Local.var ≡ slice_index (vars_of c.args.c.now c.args.fun) c.in-Local.var = ap (λ vs. slice_index vs c.in-Local.var) vars in
    let node = c.nodes_along-in-Local.ensures ∙ ap (λ p. nodes_along c.args.c.now (slice_index c.as_slice-vars.result.now c.in-Local.var) p) c.as_slice-in-Local-2.ensures ∙ ap (λ s. nodes_along c.args.c.now s c.in-Local.path) same in
    let whole : c.var_node.result + c.nodes_along-in-Local.result ≡ place_node c.args.c.now c.args.fun (Place.Local c.in-Local.var c.in-Local.path) = omega (arith, node, c.var_node.ensures) in
    whole ∙ ap (place_node c.args.c.now c.args.fun) (sym c.in-Local.is)
