use Rattle.std.proofs.Common.{◌<◌, ◌∙◌, arith, ap, length, [], slice_index_or}
use Rattle.flow_rules.proofs.PointNumbers.{number_below}
use Rattle.flow_rules.proofs.Parallels.{row_is}
use Rattle.flow_rules.proofs.rows.row_at.Goals as goal

pub offset_bounds-as_slice-point_number : goal.offset_bounds-as_slice-point_number
offset_bounds-as_slice-point_number c = omega (arith, c.point_number.ensures, number_below c.args.c.now c.args.p c.requires.point, c.requires.form.limits.points)

pub bounds-as_slice-point_number : goal.bounds-as_slice-point_number
bounds-as_slice-point_number c = omega (arith, c.point_number.ensures, number_below c.args.c.now c.args.p c.requires.point, c.requires.rows, ap length c.as_slice.ensures)

pub returns : goal.returns
returns c =
    let low : c.point_number.result < length c.args.r.now.rows = omega (arith, c.point_number.ensures, number_below c.args.c.now c.args.p c.requires.point, c.requires.rows) in
    c.index-as_slice-point_number.is ∙ ap (λ xs. slice_index_or xs c.point_number.result c.index-as_slice-point_number.result) c.as_slice.ensures
    ∙ row_is c.args.r.now.rows c.point_number.result c.index-as_slice-point_number.result low ∙ ap (λ n. slice_index_or c.args.r.now.rows n []) c.point_number.ensures
