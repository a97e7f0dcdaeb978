use Rattle.std.proofs.Common.{◌≡◌, ◌++◌, List, length, map, reverse}
use Rattle.tac_lower.specs.declared.draft.Draft.{Draft}
use Rattle.tac_lower.specs.CodeOf.{all_of, finished, needs_in}
use Rattle.tac_lower.specs.tools.Interning.{Interned}
use Rattle.tac_lower.proofs.types.Interner.lines.Given as goal

abbrev pub invariant-loop-drafts : goal.invariant-loop-drafts
invariant-loop-drafts l =
    (seen : List (List Draft)) × (l.fn.drafts ≡ seen ++ reverse l.left)
    × Interned l.structs (map (λ i. i.object) (needs_in (all_of seen))) (λ shape. map (λ ds. map (finished shape) ds) seen) l.initial.self l.self l.lines

abbrev pub decreases-loop-drafts : goal.decreases-loop-drafts
decreases-loop-drafts l = length l.left
