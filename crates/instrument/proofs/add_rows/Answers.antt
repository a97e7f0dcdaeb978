use Rattle.std.proofs.Common.{◌≡◌, ◌+◌, ◌<◌, ◌++◌, length, sym, ap, ◌∙◌, drop, take, append_assoc, arith}
use Rattle.dfi_base.specs.Bits.{members}
use Rattle.flow_rules.specs.PointNumber.{point_at}
use Rattle.instrument.specs.tools.MadeRows.{row_if, rows_of}
use Rattle.instrument.proofs.MakingRows.{row_at}
use Rattle.instrument.proofs.add_rows.Goals as goal

pub loop-at-preserved : goal.loop-at-preserved
loop-at-preserved c =
    let f = c.args.fun in
    let at = c.loop-at.at in
    let rows = c.args.rows.now in
    let row = c.index-rows-first.result in
    let old = c.args.made.now in
    let low : c.args.first + at < length rows = omega (arith, c.requires.within, c.loop-at-test.true) in
    let more = row_at f c.args.first at rows row low c.index-rows-first.is in
    let made : c.add_row.new.made ≡ c.loop-at.made ++ row_if (point_at f at) (members row) = c.in_ok-add_row.ensures in
    made ∙ ap (λ xs. xs ++ row_if (point_at f at) (members row)) c.loop-at.invariant
    ∙ append_assoc old (rows_of f 0 (take at (drop c.args.first rows))) (row_if (point_at f at) (members row)) ∙ ap (λ xs. old ++ xs) (sym more)
