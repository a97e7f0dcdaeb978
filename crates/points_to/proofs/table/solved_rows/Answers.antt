use Rattle.std.proofs.Common.{◌≡◌, false, length, All, ap, sym, ◌∙◌, subst, replicate}
use Rattle.std.proofs.lemmas.List.{length-replicate}
use Rattle.tac_ir.specs.Counts.{nodes_in_code}
use Rattle.least_rows.specs.Rules.{IsFitting}
use Rattle.least_rows.proofs.Least.{alike_long, alike_even}
use Rattle.points_to.specs.Rows.{row_count}
use Rattle.points_to.specs.Laws.{IsEmpty}
use Rattle.points_to.proofs.Fitting.{empty_table, fits}
use Rattle.points_to.proofs.Solved.{solved}
use Rattle.points_to.proofs.table.solved_rows.Goals as goal

pub solve-requires : goal.solve-requires
solve-requires c =
    let start =
    c.in_ok-start.ensures ∙ ap (λ n. replicate n (replicate c.args.map.now.nodes false)) c.count.ensures
    ∙ ap (λ n. replicate (row_count c.args.c.now) (replicate n false)) c.requires.map.nodes in
    subst (IsFitting c.in_ok-system.system) (sym start) (fits c.args.c.now c.in_ok-system.system c.requires.form c.in_ok-system.ensures)

pub returns-clause-long : goal.returns-clause-long
returns-clause-long c =
    let start =
    c.in_ok-start.ensures ∙ ap (λ n. replicate n (replicate c.args.map.now.nodes false)) c.count.ensures
    ∙ ap (λ n. replicate (row_count c.args.c.now) (replicate n false)) c.requires.map.nodes in
    alike_long c.in_ok-rows.rows.items c.in_ok-start.start.items c.in_ok-rows.ensures.alike ∙ ap length start
    ∙ length-replicate (row_count c.args.c.now) (replicate (nodes_in_code c.args.c.now) false)

pub returns-clause-wide : goal.returns-clause-wide
returns-clause-wide c =
    let start =
    c.in_ok-start.ensures ∙ ap (λ n. replicate n (replicate c.args.map.now.nodes false)) c.count.ensures
    ∙ ap (λ n. replicate (row_count c.args.c.now) (replicate n false)) c.requires.map.nodes in
    let fitting = fits c.args.c.now c.in_ok-system.system c.requires.form c.in_ok-system.ensures in
    alike_even c.in_ok-start.start.items c.in_ok-rows.rows.items (nodes_in_code c.args.c.now) c.in_ok-rows.ensures.alike
    (subst (λ n. All (λ row. length row ≡ n) c.in_ok-start.start.items) c.in_ok-system.ensures.width
    (subst (All (λ row. length row ≡ c.in_ok-system.system.width)) (sym start) fitting.rows))

pub returns-clause-points : goal.returns-clause-points
returns-clause-points c key n exists =
    let start =
    c.in_ok-start.ensures ∙ ap (λ n. replicate n (replicate c.args.map.now.nodes false)) c.count.ensures
    ∙ ap (λ n. replicate (row_count c.args.c.now) (replicate n false)) c.requires.map.nodes in
    solved c.args.c.now c.in_ok-system.system c.in_ok-start.start.items c.in_ok-rows.rows.items c.requires.form c.in_ok-system.ensures
    (subst (λ t. IsEmpty t (row_count c.args.c.now)) (sym start) (empty_table (row_count c.args.c.now) (nodes_in_code c.args.c.now))) c.in_ok-rows.ensures key n exists
