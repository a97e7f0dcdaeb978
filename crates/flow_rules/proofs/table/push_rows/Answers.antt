use Rattle.std.proofs.Common.{◌≡◌, ◌<◌, ◌+◌, ◌∙◌, arith, ap, length, subst, sym}
use Rattle.std.specs.Prelude.{All}
use Rattle.tac_ir.specs.GoodModule.{IsPoint, fact_count}
use Rattle.tac_ir.specs.Layout.{lines_of}
use Rattle.tac_ir.specs.Module.{Module}
use Rattle.flow_rules.specs.PointNumber.{point_at}
use Rattle.flow_rules.specs.Tables.{facts_at}
use Rattle.flow_rules.specs.tools.RowsBefore.{AreRowsBefore, IsRowWith}
use Rattle.flow_rules.proofs.InCode.{few_lines}
use Rattle.flow_rules.proofs.RowTable.{facts_within, rows_next, fun_end}
use Rattle.flow_rules.proofs.table.push_rows.Goals as goal

pub overflow_cast-at-end : goal.overflow_cast-at-end
overflow_cast-at-end c =
    let code = ap (λ (z : Module). z.code) c.md.view_is in
    omega (arith, few_lines c.args.md.now.code c.requires.form.form c.args.fun, ap length (c.lines_of.ensures ∙ ap (λ k. lines_of k c.args.fun) code))

pub row_with-requires : goal.row_with-requires
row_with-requires c =
    let reach = c.facts_at.ensures ∙ ap (λ rows. facts_at rows (point_at c.args.fun c.loop-at.at)) (c.as_slice.ensures ∙ ap (λ (z : Module). z.reach) c.md.view_is) in
    let all = facts_within c.args.md.now c.args.md.now.reach c.requires.form.reach (point_at c.args.fun c.loop-at.at) in
    subst (λ n. All (λ k. k < n) c.facts_at.result.now) (sym c.requires.len) (subst (All (λ k. k < fact_count c.args.md.now)) (sym reach) all)

pub loop-at-preserved : goal.loop-at-preserved
loop-at-preserved c =
    let code = ap (λ (z : Module). z.code) c.md.view_is in
    let reach = c.facts_at.ensures ∙ ap (λ rows. facts_at rows (point_at c.args.fun c.loop-at.at)) (c.as_slice.ensures ∙ ap (λ (z : Module). z.reach) c.md.view_is) in
    let point : IsPoint c.args.md.now.code (point_at c.args.fun c.loop-at.at) = omega (arith, c.loop-at-test.true, ap length (c.lines_of.ensures ∙ ap (λ k. lines_of k c.args.fun) code)) in
    subst (AreRowsBefore c.args.md.now (point_at c.args.fun (c.loop-at.at + 1))) (sym c.in_ok-push.ensures.ok)
    (rows_next c.args.md.now (point_at c.args.fun c.loop-at.at) c.loop-at.rows c.in_ok-row.row point c.loop-at.invariant
    (subst (λ n. IsRowWith n (facts_at c.args.md.now.reach (point_at c.args.fun c.loop-at.at)) c.in_ok-row.row) c.requires.len (subst (λ ns. IsRowWith c.args.len ns c.in_ok-row.row) reach c.in_ok-row.ensures)))

pub returns : goal.returns
returns c =
    let code = ap (λ (z : Module). z.code) c.md.view_is in
    let end : c.loop-at.at ≡ length (lines_of c.args.md.now.code c.args.fun) = omega (arith, c.loop-at-test.false, c.loop-at.auto.at-end, ap length (c.lines_of.ensures ∙ ap (λ k. lines_of k c.args.fun) code)) in
    fun_end c.args.md.now c.args.fun c.loop-at.at c.loop-at.rows c.requires.fun end c.loop-at.invariant
