use Rattle.std.proofs.Common.{◌≡◌, length, ap, sym, subst, ◌∙◌}
use Rattle.std.specs.List.{flat_map}
use Rattle.std.proofs.lemmas.List.Elements.{recursion_from_All}
use Rattle.tac_ir.specs.Counts.{nodes_in_code}
use Rattle.flow_rules.specs.ReachRows.{ArePointsOf}
use Rattle.points_to.specs.tools.Entries.{entry_in, keys_of}
use Rattle.points_to.proofs.Ordered.{entries_ordered}
use Rattle.points_to.proofs.Closing.{closed, entries_are}
use Rattle.points_to.proofs.solve.solve_points.Goals as goal

pub returns-clause-form : goal.returns-clause-form
returns-clause-form c =
    let code = c.args.c.now in
    let rows = c.in_ok-rows.rows.items in
    let list : c.in_ok-list.list ≡ flat_map (entry_in code rows) (keys_of code) =
    c.in_ok-list.ensures ∙ ap (λ t. flat_map (entry_in code t) (keys_of code)) c.as_slice.ensures.value in
    subst (ArePointsOf code) (sym list)
    (entries_ordered code rows (recursion_from_All (λ row. length row ≡ nodes_in_code code) rows c.in_ok-rows.ensures.wide))

pub returns-clause-points : goal.returns-clause-points
returns-clause-points c =
    let code = c.args.c.now in
    entries_are code c.in_ok-rows.rows.items c.in_ok-list.list c.requires
    (c.in_ok-list.ensures ∙ ap (λ t. flat_map (entry_in code t) (keys_of code)) c.as_slice.ensures.value) c.in_ok-rows.ensures.points

pub returns-clause-closed : goal.returns-clause-closed
returns-clause-closed c =
    let code = c.args.c.now in
    closed code c.in_ok-list.list
    (entries_are code c.in_ok-rows.rows.items c.in_ok-list.list c.requires
    (c.in_ok-list.ensures ∙ ap (λ t. flat_map (entry_in code t) (keys_of code)) c.as_slice.ensures.value) c.in_ok-rows.ensures.points)
