use Rattle.std.proofs.Common.{◌≡◌, ◌≤◌, ◌∙◌, ap, arith, get_or, length, sym}
use Rattle.def_classes.proofs.Numbering.{distinct-more, numbers-more, place-more, place-small}
use Rattle.def_classes.proofs.numbers.number_rows.Goals as goal

pub overflow_cast-place : goal.overflow_cast-place
overflow_cast-place c =
    let rows = c.args.rows.now in
    let i = c.loop-row.row-index in
    let placed = place-more rows i c.as_slice.result c.loop-row.distinct.keys c.in_ok-place.place c.loop-row.invariant.distinct c.in_ok-place.ensures.index in
    let small : c.in_ok-place.place ≤ length rows = place-small rows i c.in_ok-place.place c.as_slice.result.now (omega arith) placed in
    omega arith

pub overflow_add-place : goal.overflow_add-place
overflow_add-place c =
    let rows = c.args.rows.now in
    let i = c.loop-row.row-index in
    let placed = place-more rows i c.as_slice.result c.loop-row.distinct.keys c.in_ok-place.place c.loop-row.invariant.distinct c.in_ok-place.ensures.index in
    let small : c.in_ok-place.place ≤ length rows = place-small rows i c.in_ok-place.place c.as_slice.result.now (omega arith) placed in
    omega arith

pub loop-row-preserved : goal.loop-row-preserved
loop-row-preserved c =
    let rows = c.args.rows.now in
    let i = c.loop-row.row-index in
    let key = c.as_slice.result in
    let old = c.loop-row.distinct.keys in
    let is : key.now ≡ get_or rows i key.now = c.as_slice.ensures ∙ c.row-item.is ∙ ap (get_or rows i) (sym c.as_slice.ensures) in
    let placed = place-more rows i key old c.in_ok-place.place c.loop-row.invariant.distinct c.in_ok-place.ensures.index in
    record {
      distinct = distinct-more rows i key old c.insert_full.new.self.keys c.loop-row-test.true is c.loop-row.invariant.distinct c.in_ok-place.ensures.keys;
      numbers = c.in_ok-push.ensures.ok ∙ numbers-more rows i key.now c.in_ok-place.place c.loop-row.numbers c.loop-row-test.true is placed c.loop-row.invariant.numbers;
    }
