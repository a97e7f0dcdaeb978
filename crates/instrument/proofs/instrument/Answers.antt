use Rattle.instrument.proofs.GoodModules.{same_reach}
use Rattle.instrument.specs.Instruments.{IsRowOf}
use Rattle.std.proofs.Common.{◌≡◌, true, false, length, replicate, refl, sym, ap, ◌∙◌, subst}
use Rattle.std.specs.Prelude.{All}
use Rattle.std.specs.List.{list_all}
use Rattle.std.proofs.lemmas.List.{length-replicate}
use Rattle.tac_ir.specs.declared.module.ReachRow.{ReachRow}
use Rattle.tac_ir.specs.declared.module.Size.{Size}
use Rattle.tac_ir.specs.Module.{Module, is_chain, is_row, point_before}
use Rattle.flow_rules.specs.Tables.{facts_at}
use Rattle.instrument.specs.tools.MadeRows.{rows_from}
use Rattle.instrument.proofs.FoundRows.{points_exist, rows_found, rows_full, rows_ordered}
use Rattle.instrument.proofs.instrument.Goals as goal

made : (c : goal.In_ok-removed) → c.in_ok-reach.reach ≡ rows_from 0 c.args.c.funs c.args.r.rows
made c = c.in_ok-reach.ensures ∙ ap (λ rows. rows_from 0 c.args.c.funs rows) c.as_slice.ensures

checked : (c : goal.In_ok-removed) → c.in_ok-removed.removed ≡ replicate (length c.args.s.lists) false
checked c = c.in_ok-removed.ensures ∙ ap (λ n. replicate n false) c.len.ensures

pub invariant_of-result : goal.invariant_of-result
invariant_of-result c = record {
  marks = ap length (checked c) ∙ length-replicate (length c.args.s.lists) false;
  members = c.requires.sets.members;
  points_rows = c.requires.points.members;
  points_order = c.requires.points.order;
  reach_rows = subst (λ rows. list_all (λ (r : ReachRow). is_row r.facts) rows ≡ true) (sym (made c)) (rows_full 0 c.args.c.funs c.args.r.rows);
  reach_order = subst (λ rows. is_chain (λ (a b : ReachRow). point_before a.point b.point) rows ≡ true) (sym (made c)) (rows_ordered 0 c.args.c.funs c.args.r.rows);
}

kept : (c : goal.After-drop-r-3) → c.in_ok-reach.reach ≡ rows_from 0 c.args.c.funs c.args.r.rows
kept c = c.in_ok-reach.ensures ∙ ap (λ rows. rows_from 0 c.args.c.funs rows) c.as_slice.ensures

pub returns-clause-module : goal.returns-clause-module
returns-clause-module c = record {
  size = refl;
  code = refl;
  classes_kept = refl;
  sets_kept = refl;
  checked = c.in_ok-removed.ensures ∙ ap (λ n. replicate n false) c.len.ensures;
  points_kept = refl;
  reach = λ p is. ap (λ rows. facts_at rows p) (kept c) ∙ rows_found c.args.c c.args.r c.requires.reach.count p is;
  exist = subst (All (IsRowOf c.args.c c.args.r)) (sym (kept c)) (points_exist c.args.c c.args.r c.requires.reach.width);
}

pub returns-clause-table : goal.returns-clause-table
returns-clause-table c =
    let m : Module = record {
      size = Size.Small;
      code = c.args.c;
      classes = c.args.k.list;
      sets = c.args.s.lists;
      removed = c.in_ok-removed.removed;
      points = c.args.p.rows;
      reach = c.in_ok-reach.reach;
    } in
    same_reach c.args.c c.args.p.rows c.args.r c.args.s.lists c.args.k.list m (returns-clause-module c) c.requires.reach
