use Rattle.std.proofs.Common.{◌++◌, map, subst, arith}
use Rattle.std.proofs.lemmas.List.{take_all}
use Rattle.tac_lower.specs.CodeOf.{site_of, sites_in}
use Rattle.tac_lower.specs.tools.Interning.{Interned}
use Rattle.tac_lower.proofs.interned.DraftLaws.{sites_more}
use Rattle.tac_lower.proofs.interned.FewShapes.{few_site}
use Rattle.tac_lower.proofs.types.Interner.sites_in.Goals as goal

pub loop-draft-preserved : goal.loop-draft-preserved
loop-draft-preserved c =
    sites_more c.args.structs.now c.args.sites.now c.args.drafts.now c.loop-draft.draft-index c.draft-item.result c.args.self.now c.loop-draft.self c.site.new.self c.loop-draft.sites c.site.new.sites
    c.loop-draft-test.true c.draft-item.is c.loop-draft.invariant c.in_ok-site.ensures

pub returns : goal.returns
returns c =
    subst (λ xs. Interned c.args.structs.now (map (λ i. i.object) (sites_in xs)) (λ shape. c.args.sites.now ++ map (site_of shape) (sites_in xs)) c.args.self.now c.loop-draft.self c.loop-draft.sites)
    (take_all c.loop-draft.draft-index c.args.drafts.now (omega arith)) c.loop-draft.invariant

pub site-requires-clause-few : goal.site-requires-clause-few
site-requires-clause-few c =
    few_site c.args.structs.now c.args.self.now.shapes c.loop-draft.self.shapes c.args.drafts.now c.loop-draft.draft-index c.draft-item.result
    c.loop-draft-test.true c.draft-item.is c.loop-draft.invariant.shapes c.requires.few
