use Rattle.std.proofs.Common.{◌∙◌, ◌++◌, [], ◌∷◌, map, subst, sym}
use Rattle.tac_lower.specs.CodeOf.{site_by, site_of}
use Rattle.tac_lower.specs.tools.Interning.{Interned}
use Rattle.tac_lower.proofs.interned.DraftLaws.{one_site}
use Rattle.tac_lower.proofs.types.Interner.site.Goals as goal

pub returns-in_ok-push : goal.returns-in_ok-push
returns-in_ok-push c =
    let structs = c.args.structs.now in
    let sites = c.args.sites.now in
    let line = c.args.draft.now.line in
    let i = c.args.draft.now.instr in
    let old = c.args.self.now in
    let new = c.number.new.self in
    let n = c.in_ok-shape.shape in
    subst (λ all. Interned structs (map (λ i. i.object) (site_by line c.args.draft.now.object i)) (λ shape. sites ++ map (site_of shape) (site_by line c.args.draft.now.object i)) old new all) (sym c.in_ok-push.ensures.ok)
    (subst (λ o. Interned structs (map (λ i. i.object) (site_by line o i)) (λ shape. sites ++ map (site_of shape) (site_by line o i)) old new (sites ++ record { shape = n; line = line } ∷ [])) (sym c.in-Some.is)
    (one_site structs sites line c.in-Some.object i old new n (sym c.is_new.ensures ∙ c.if-not-is_new.false) c.in_ok-shape.ensures))
