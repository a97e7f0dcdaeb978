use Rattle.std.proofs.Common.{map, take}
use Rattle.tac_lower.specs.CodeOf.{all_of, site_of, sites_in}
use Rattle.tac_lower.specs.tools.Interning.{Interned}
use Rattle.tac_lower.proofs.types.Interner.sites.Given as goal

abbrev pub invariant-loop-drafts : goal.invariant-loop-drafts
invariant-loop-drafts l =
    let seen = sites_in (all_of (take l.drafts-index l.drafts)) in
    Interned l.structs (map (λ i. i.object) seen) (λ shape. map (site_of shape) seen) l.initial.self l.self l.sites
