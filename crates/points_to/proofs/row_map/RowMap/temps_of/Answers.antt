use Rattle.std.proofs.Common.{◌≡◌, ◌+◌, ap, ◌∙◌, arith}
use Rattle.std.specs.Prelude.{slice_index}
use Rattle.points_to.specs.Rows.{temps_before}
use Rattle.points_to.proofs.Numbers.{next_start}
use Rattle.points_to.proofs.row_map.RowMap.temps_of.Goals as goal

pub overflow_sub-result : goal.overflow_sub-result
overflow_sub-result c =
    let code = c.args.c.now in
    let next = next_start code c.args.fun c.requires.fun in
    let there : slice_index c.as_slice.result.now (c.args.fun + 1) ≡ temps_before code (c.args.fun + 1) =
    ap (λ l. slice_index l (c.args.fun + 1)) c.as_slice.ensures ∙ c.requires.map.starts.each (c.args.fun + 1) (omega (arith, c.requires.fun)) in
    omega (arith, next, there, c.start.ensures)

pub returns : goal.returns
returns c =
    let code = c.args.c.now in
    let next = next_start code c.args.fun c.requires.fun in
    let there : slice_index c.as_slice.result.now (c.args.fun + 1) ≡ temps_before code (c.args.fun + 1) =
    ap (λ l. slice_index l (c.args.fun + 1)) c.as_slice.ensures ∙ c.requires.map.starts.each (c.args.fun + 1) (omega (arith, c.requires.fun)) in
    omega (arith, next, there, c.start.ensures)
