use Rattle.std.proofs.Common.{◌≡◌, ◌∙◌, ap, sym}
use Rattle.std.specs.List.{list_all}
use Rattle.tac_ir.specs.Answers.{has}
use Rattle.tac_ir.specs.Accesses.{nodes_for}
use Rattle.flow_rules.proofs.Members.{all_had, had_all}
use Rattle.flow_rules.proofs.point_rules.goes.Goals as goal

pub returns : goal.returns
returns c =
    let rows = c.args.points.now.rows in
    let from = c.nodes_for.ensures in
    let to = c.nodes_for-2.ensures in
    let is : c.is_within.result ≡ list_all (has (nodes_for rows c.args.to)) (nodes_for rows c.args.from) =
    c.is_within.ensures ∙ ap (λ xs. list_all (has xs) c.nodes_for.result.now) to ∙ ap (list_all (has (nodes_for rows c.args.to))) from in
    (λ h. all_had (nodes_for rows c.args.to) (nodes_for rows c.args.from) (sym is ∙ h), λ h. is ∙ had_all (nodes_for rows c.args.to) (nodes_for rows c.args.from) h)
