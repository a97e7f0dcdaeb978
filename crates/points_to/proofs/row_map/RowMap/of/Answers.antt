use Rattle.std.proofs.Common.{◌+◌, length, ap, sym, ◌∙◌, subst, arith}
use Rattle.std.specs.Prelude.{slice_index}
use Rattle.points_to.specs.tools.RowMaps.{AreStarts}
use Rattle.tac_ir.specs.Nodes.{site_node}
use Rattle.flow_rules.proofs.SpotSteps.{sites_fit, all_sites}
use Rattle.points_to.proofs.Numbers.{last_start}
use Rattle.points_to.proofs.row_map.RowMap.of.Goals as goal

pub overflow_cast-len : goal.overflow_cast-len
overflow_cast-len c = (let few = sites_fit c.args.c.now c.requires in omega (arith, c.len.ensures, few))

pub returns : goal.returns
returns c = record {
  nodes = c.site_node.ensures ∙ ap (site_node c.args.c.now) c.len.ensures ∙ all_sites c.args.c.now;
  temps =
      ap (λ l. slice_index l c.len-2.result) c.as_slice.ensures.value ∙ ap (slice_index c.in_ok-starts.starts.items) c.len-2.ensures
      ∙ c.in_ok-starts.ensures.each (length c.args.c.now.funs) (omega arith) ∙ last_start c.args.c.now;
  starts = subst (AreStarts c.args.c.now (length c.args.c.now.funs + 1)) (sym c.from_vec.ensures) c.in_ok-starts.ensures;
}
