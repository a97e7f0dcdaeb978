use Rattle.std.proofs.Common.{◌≡◌, ◌<◌, ◌∙◌, arith, ap, sym, subst, length, [], slice_index_or, None, Some}
use Rattle.dfi_base.specs.Bits.{has, IsNext}
use Rattle.flow_rules.specs.PointNumber.{point_number}
use Rattle.flow_rules.proofs.PointNumbers.{number_below}
use Rattle.flow_rules.proofs.Parallels.{row_is, none_beside, one_beside}
use Rattle.flow_rules.proofs.mhp.Mhp.is_alone.Goals as goal

pub index-requires : goal.index-requires
index-requires c = omega (arith, ap length c.self.view_is, c.point_number.ensures, number_below c.args.c.now c.args.p c.requires.p, c.requires.parallel.count)

pub returns-in-None : goal.returns-in-None
returns-in-None c =
    let rows : c.self.inside.rows.items ≡ c.args.self.now = c.self.view_is in
    let low : c.point_number.result < length c.args.self.now = omega (arith, c.point_number.ensures, number_below c.args.c.now c.args.p c.requires.p, c.requires.parallel.count) in
    let row : c.index.result.now ≡ slice_index_or c.args.self.now (point_number c.args.c.now c.args.p) [] =
    c.index.ensures ∙ ap (λ xs. slice_index_or xs c.point_number.result c.index.result.now) rows ∙ row_is c.args.self.now c.point_number.result c.index.result.now low
    ∙ ap (λ n. slice_index_or c.args.self.now n []) c.point_number.ensures in
    let next = subst (λ xs. IsNext (has xs) 0 None) row (subst (IsNext (has c.index.result.now) 0) c.in-None.is c.next_member.ensures) in
    (λ z q h. none_beside c.args.c.now c.requires.form c.args.self.now c.requires.parallel c.args.p c.requires.p (λ k. next k (omega arith)) q h, λ z. cc)

pub returns-in-Some : goal.returns-in-Some
returns-in-Some c =
    let rows : c.self.inside.rows.items ≡ c.args.self.now = c.self.view_is in
    let low : c.point_number.result < length c.args.self.now = omega (arith, c.point_number.ensures, number_below c.args.c.now c.args.p c.requires.p, c.requires.parallel.count) in
    let row : c.index.result.now ≡ slice_index_or c.args.self.now (point_number c.args.c.now c.args.p) [] =
    c.index.ensures ∙ ap (λ xs. slice_index_or xs c.point_number.result c.index.result.now) rows ∙ row_is c.args.self.now c.point_number.result c.index.result.now low
    ∙ ap (λ n. slice_index_or c.args.self.now n []) c.point_number.ensures in
    let next = subst (λ xs. IsNext (has xs) 0 (Some c.in-Some.field-0)) row (subst (IsNext (has c.index.result.now) 0) c.in-Some.is c.next_member.ensures) in
    let long = sym (ap length row) ∙ ap length c.index.ensures ∙ c.self.invariant c.point_number.result c.index.result.now (omega (arith, low, ap length rows)) ∙ ap length rows in
    let beside = one_beside c.args.c.now c.args.self.now c.requires.parallel c.args.p c.requires.p long c.in-Some.field-0 next.1 in
    (λ h. cc, λ none. absurd (none beside.0 beside.1))
