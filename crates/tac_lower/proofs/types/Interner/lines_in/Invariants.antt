use Rattle.std.proofs.Common.{◌≡◌, ◌++◌, List, length, map, reverse}
use Rattle.tac_lower.specs.declared.draft.Draft.{Draft}
use Rattle.tac_lower.specs.CodeOf.{finished, needs_in}
use Rattle.tac_lower.specs.tools.Interning.{Interned}
use Rattle.tac_lower.proofs.types.Interner.lines_in.Given as goal

abbrev pub invariant-loop-draft : goal.invariant-loop-draft
invariant-loop-draft l =
    (seen : List Draft) × (l.fn.drafts ≡ seen ++ reverse l.left)
    × Interned l.structs (map (λ i. i.object) (needs_in seen)) (λ shape. map (finished shape) seen) l.initial.self l.self l.lines

abbrev pub decreases-loop-draft : goal.decreases-loop-draft
decreases-loop-draft l = length l.left
