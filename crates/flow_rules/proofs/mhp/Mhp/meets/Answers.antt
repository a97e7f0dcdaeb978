use Rattle.std.proofs.Common.{◌≡◌, ◌<◌, ◌∙◌, arith, ap, length, [], slice_index_or}
use Rattle.dfi_base.specs.Bits.{has}
use Rattle.flow_rules.specs.PointNumber.{point_number}
use Rattle.flow_rules.proofs.PointNumbers.{number_below}
use Rattle.flow_rules.proofs.Parallels.{row_is}
use Rattle.flow_rules.proofs.mhp.Mhp.meets.Goals as goal

pub index-row-requires : goal.index-row-requires
index-row-requires c = omega (arith, ap length c.self.view_is, c.point_number.ensures, number_below c.args.c.now c.args.p c.requires.p, c.requires.rows)

pub returns-then-at-len : goal.returns-then-at-len
returns-then-at-len c =
    let rows : c.self.inside.rows.items ≡ c.args.self.now = c.self.view_is in
    let low : c.point_number.result < length c.args.self.now = omega (arith, c.point_number.ensures, number_below c.args.c.now c.args.p c.requires.p, c.requires.rows) in
    let row : c.index-row.result.now ≡ slice_index_or c.args.self.now (point_number c.args.c.now c.args.p) [] =
    c.index-row.ensures ∙ ap (λ xs. slice_index_or xs c.point_number.result c.index-row.result.now) rows ∙ row_is c.args.self.now c.point_number.result c.index-row.result.now low
    ∙ ap (λ n. slice_index_or c.args.self.now n []) c.point_number.ensures in
    c.get.ensures ∙ ap (λ xs. has xs c.point_number-at.result) row ∙ ap (has (slice_index_or c.args.self.now (point_number c.args.c.now c.args.p) [])) c.point_number-at.ensures
