use Rattle.std.proofs.Common.{◌≡◌, ◌<◌, ◌+◌, ◌∙◌, arith, sym, ap, subst, map, sum, take, get_or, length, Some}
use Rattle.std.proofs.lemmas.Option.{slice_get-get_or}
use Rattle.tac_ir.specs.Counts.{shape_nodes, vars_in_funs}
use Rattle.flow_rules.specs.declared.leaves.Spot.{Spot}
use Rattle.flow_rules.specs.tools.Spots.{IsSpotAmong}
use Rattle.flow_rules.proofs.VarNodes.{fun_more, nodes_below}
use Rattle.flow_rules.proofs.Spots.{next_fun_spot}
use Rattle.flow_rules.proofs.SpotSteps.{stops_in_funs}
use Rattle.flow_rules.proofs.leaves.spot_in_funs.Goals as goal

pub spot_among-requires-clause-fits : goal.spot_among-requires-clause-fits
spot_among-requires-clause-fits c =
    let here : get_or c.args.c.now.funs c.loop-fun.fun-index c.fun-item.result ≡ c.fun-item.result = sym (c.fun-item.is ∙ ap (λ xs. get_or xs c.loop-fun.fun-index c.fun-item.result) c.as_slice-fun-items.ensures) in
    let low : c.loop-fun.fun-index < length c.args.c.now.funs = omega (arith, c.loop-fun-test.true, ap length c.as_slice-fun-items.ensures) in
    let more = fun_more c.args.c.now c.loop-fun.fun-index c.fun-item.result (slice_get-get_or c.args.c.now.funs c.loop-fun.fun-index c.fun-item.result low ∙ ap Some here) in
    omega (
      arith,
      more,
      nodes_below c.args.c.now c.requires (length c.args.c.now.globals + (length (vars_in_funs (take (c.loop-fun.fun-index + 1) c.args.c.now.funs)) + 0)),
      ap (λ xs. sum (map (shape_nodes c.args.c.now) xs)) c.as_slice.ensures,
    )

pub returns-in_default : goal.returns-in_default
returns-in_default c =
    let here : get_or c.args.c.now.funs c.loop-fun.fun-index c.fun-item.result ≡ c.fun-item.result = sym (c.fun-item.is ∙ ap (λ xs. get_or xs c.loop-fun.fun-index c.fun-item.result) c.as_slice-fun-items.ensures) in
    let low : c.loop-fun.fun-index < length c.args.c.now.funs = omega (arith, c.loop-fun-test.true, ap length c.as_slice-fun-items.ensures) in
    stops_in_funs c.args.c.now c.args.c.now.funs c.loop-fun.fun-index c.args.node c.spot_among.result c.in_default.not-Behind
    (next_fun_spot c.args.c.now c.args.c.now.funs c.loop-fun.fun-index c.args.node c.loop-fun.left c.fun-item.result low here c.loop-fun.invariant c.spot_among.result
    (subst (λ xs. IsSpotAmong c.args.c.now xs c.loop-fun.left c.spot_among.result) c.as_slice.ensures c.spot_among.ensures))

pub loop-fun-preserved : goal.loop-fun-preserved
loop-fun-preserved c =
    let here : get_or c.args.c.now.funs c.loop-fun.fun-index c.fun-item.result ≡ c.fun-item.result = sym (c.fun-item.is ∙ ap (λ xs. get_or xs c.loop-fun.fun-index c.fun-item.result) c.as_slice-fun-items.ensures) in
    let low : c.loop-fun.fun-index < length c.args.c.now.funs = omega (arith, c.loop-fun-test.true, ap length c.as_slice-fun-items.ensures) in
    next_fun_spot c.args.c.now c.args.c.now.funs c.loop-fun.fun-index c.args.node c.loop-fun.left c.fun-item.result low here c.loop-fun.invariant (Spot.Behind c.in-Behind.node)
    (subst (IsSpotAmong c.args.c.now c.fun-item.result.vars c.loop-fun.left) c.in-Behind.is (subst (λ xs. IsSpotAmong c.args.c.now xs c.loop-fun.left c.spot_among.result) c.as_slice.ensures c.spot_among.ensures))
