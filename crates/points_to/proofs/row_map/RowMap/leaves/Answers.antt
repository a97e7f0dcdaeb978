use Rattle.std.proofs.Common.{arith}
use Rattle.points_to.proofs.Numbers.{temp_fits, few_nodes, few_temps}
use Rattle.points_to.proofs.row_map.RowMap.leaves.Goals as goal

pub overflow_add-result : goal.overflow_add-result
overflow_add-result c =
    let low = temp_fits c.args.c.now c.requires.form c.args.fun c.args.temp c.requires.temp in
    let nodes = few_nodes c.args.c.now c.requires.form in
    let temps = few_temps c.args.c.now c.requires.form in
    let all = c.requires.map.nodes in
    let count = c.requires.map.temps in
    let start = c.start.ensures in
    omega (arith, low, nodes, temps, all, count, start)

pub overflow_add-result-2 : goal.overflow_add-result-2
overflow_add-result-2 c =
    let low = temp_fits c.args.c.now c.requires.form c.args.fun c.args.temp c.requires.temp in
    let nodes = few_nodes c.args.c.now c.requires.form in
    let temps = few_temps c.args.c.now c.requires.form in
    let all = c.requires.map.nodes in
    let count = c.requires.map.temps in
    let start = c.start.ensures in
    omega (arith, low, nodes, temps, all, count, start)

pub overflow_add-result-3 : goal.overflow_add-result-3
overflow_add-result-3 c =
    let low = temp_fits c.args.c.now c.requires.form c.args.fun c.args.temp c.requires.temp in
    let nodes = few_nodes c.args.c.now c.requires.form in
    let temps = few_temps c.args.c.now c.requires.form in
    let all = c.requires.map.nodes in
    let count = c.requires.map.temps in
    let start = c.start.ensures in
    omega (arith, low, nodes, temps, all, count, start)
