use Rattle.std.proofs.Common.{rules, ◌≡◌, ◌<◌, ◌&&◌, ◌||◌, [], length, ap, subst, ◌∙◌, arith}
use Rattle.std.specs.Vec.{vec_len}
use Rattle.std.specs.Prelude.{slice_index_or}
use Rattle.dfi_base.specs.Bits.{has}
use Rattle.par_interfere.specs.tools.Calls.{IsTable, in_table}
use Rattle.par_interfere.proofs.Adding.{in_table_low}
use Rattle.par_interfere.proofs.Closures.{closed_first, closed_more, closed_all}
use Rattle.par_interfere.proofs.Joins.{row_long}
use Rattle.par_interfere.proofs.Listed.{item}
use Rattle.par_interfere.proofs.calls.close.Goals as goal

pub loop-middle-init : goal.loop-middle-init
loop-middle-init c = record { shape = c.requires.shape; closed = closed_first c.args.table.now.items }

pub loop-middle-preserved : goal.loop-middle-preserved
loop-middle-preserved c =
    let t = c.loop-middle.table.items in
    let m = c.loop-middle.middle in
    let n = length c.args.table.now.items in
    let own : vec_len c.args.table.now ≡ length c.args.table.now.items = search rules in
    let len : c.len-middle-end.result ≡ n = c.len-middle-end.ensures ∙ own in
    let height = c.loop-middle.invariant.shape.height in
    let within : m < n = omega (arith, c.loop-middle-test.true, len) in
    let low : m < length t = omega (arith, within, height) in
    let row : c.in_ok-row.row ≡ slice_index_or t m [] = c.in_ok-row.ensures ∙ c.index.ensures ∙ item t m c.index.result.now [] low in
    let long : length c.in_ok-row.row ≡ n = ap length row ∙ row_long n n t m c.loop-middle.invariant.shape within in
    record {
      shape = subst (λ k. IsTable k c.add_where.new.table.items) long c.add_where.ensures.shape;
      closed = closed_more m c.args.table.now.items t c.add_where.new.table.items c.loop-middle.invariant.closed
          (λ f g. c.add_where.ensures.rows f g ∙ ap (λ r. in_table t f g || (in_table t f m && has r g)) row);
    }

pub returns-clause-closed : goal.returns-clause-closed
returns-clause-closed c =
    let own : vec_len c.args.table.now ≡ length c.args.table.now.items = search rules in
    let len : c.len-middle-end.result ≡ length c.args.table.now.items = c.len-middle-end.ensures ∙ own in
    closed_all c.loop-middle.middle c.args.table.now.items c.loop-middle.table.items c.loop-middle.invariant.closed
    (λ f g had. let low = in_table_low c.args.table.now.items f g had in omega (arith, low, len, c.loop-middle-test.false))
