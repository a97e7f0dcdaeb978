use Rattle.std.proofs.Common.{◌++◌, map, take}
use Rattle.tac_lower.specs.CodeOf.{site_of, sites_in}
use Rattle.tac_lower.specs.tools.Interning.{Interned}
use Rattle.tac_lower.proofs.types.Interner.sites_in.Given as goal

abbrev pub invariant-loop-draft : goal.invariant-loop-draft
invariant-loop-draft l =
    let seen = sites_in (take l.draft-index l.drafts) in
    Interned l.structs (map (λ i. i.object) seen) (λ shape. l.initial.sites ++ map (site_of shape) seen) l.initial.self l.self l.sites
