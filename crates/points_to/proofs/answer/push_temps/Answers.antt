use Rattle.std.proofs.Common.{◌<◌, ap, sym, ◌∙◌, arith}
use Rattle.tac_ir.specs.declared.module.Key.{Key}
use Rattle.tac_ir.specs.Counts.{temps_of}
use Rattle.least_rows.specs.Rules.{row_of}
use Rattle.points_to.specs.Rows.Row.{in_temp}
use Rattle.points_to.proofs.Numbers.{row_low}
use Rattle.points_to.proofs.Marking.{at_row}
use Rattle.points_to.proofs.Reading.{entries_turn}
use Rattle.points_to.proofs.answer.push_temps.Goals as goal

pub bounds-rows-temp : goal.bounds-rows-temp
bounds-rows-temp c =
    let low : c.loop-temp.temp < temps_of c.args.c.now c.args.fun = omega (arith, c.loop-temp-test.true, c.temps_of-temp-end.ensures) in
    let row = row_low c.args.c.now (in_temp c.args.fun c.loop-temp.temp) low in
    omega (arith, row, c.temp.ensures, c.requires.rows)

pub loop-temp-preserved : goal.loop-temp-preserved
loop-temp-preserved c =
    let low : c.loop-temp.temp < temps_of c.args.c.now c.args.fun = omega (arith, c.loop-temp-test.true, c.temps_of-temp-end.ensures) in
    let row = row_low c.args.c.now (in_temp c.args.fun c.loop-temp.temp) low in
    entries_turn c.args.c.now c.args.rows.now (Key.Temp c.args.fun) c.loop-temp.temp c.args.list.now c.loop-temp.list c.push_entry.new.list c.index-rows-temp.result
    (ap (row_of c.args.rows.now) (sym c.temp.ensures)
    ∙ at_row c.args.rows.now c.temp.result c.index-rows-temp.result (omega (arith, row, c.temp.ensures, c.requires.rows)) c.index-rows-temp.is)
    c.loop-temp.invariant c.in_ok-push_entry.ensures
