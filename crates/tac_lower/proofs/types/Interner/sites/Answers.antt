use Rattle.std.proofs.Common.{◌++◌, map, subst, sym, arith}
use Rattle.std.proofs.lemmas.List.{take_all}
use Rattle.tac_lower.specs.CodeOf.{all_of, site_of, sites_in}
use Rattle.tac_lower.specs.Shapes.{shapes_from}
use Rattle.tac_lower.specs.tools.Interning.{AreFew, Interned}
use Rattle.tac_lower.proofs.interned.DraftLaws.{all_sites_more}
use Rattle.tac_lower.proofs.interned.FewShapes.{few_sites}
use Rattle.tac_lower.proofs.types.Interner.sites.Goals as goal

pub loop-drafts-preserved : goal.loop-drafts-preserved
loop-drafts-preserved c =
    let here = subst (λ ds. Interned c.args.structs.now (map (λ i. i.object) (sites_in ds)) (λ shape. c.loop-drafts.sites ++ map (site_of shape) (sites_in ds)) c.loop-drafts.self c.sites_in.new.self c.sites_in.new.sites)
    c.as_slice.ensures c.in_ok-sites_in.ensures in
    all_sites_more c.args.structs.now c.args.drafts.now c.loop-drafts.drafts-index c.drafts-item.result c.args.self.now c.loop-drafts.self c.sites_in.new.self c.loop-drafts.sites c.sites_in.new.sites
    c.loop-drafts-test.true c.drafts-item.is c.loop-drafts.invariant here

pub returns : goal.returns
returns c =
    subst (λ xs. Interned c.args.structs.now (map (λ i. i.object) (sites_in (all_of xs))) (λ shape. map (site_of shape) (sites_in (all_of xs))) c.args.self.now c.loop-drafts.self c.loop-drafts.sites)
    (take_all c.loop-drafts.drafts-index c.args.drafts.now (omega arith)) c.loop-drafts.invariant

pub sites_in-requires-clause-few : goal.sites_in-requires-clause-few
sites_in-requires-clause-few c =
    let few = few_sites c.args.structs.now c.args.self.now.shapes c.loop-drafts.self.shapes c.args.drafts.now c.loop-drafts.drafts-index c.drafts-item.result
    c.loop-drafts-test.true c.drafts-item.is c.loop-drafts.invariant.shapes c.requires.few in
    subst (λ ds. AreFew (shapes_from c.args.structs.now c.loop-drafts.self.shapes (map (λ i. i.object) (sites_in ds)))) (sym c.as_slice.ensures) few
