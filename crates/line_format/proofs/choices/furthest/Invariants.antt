use Rattle.std.proofs.Common.{◌≡◌, ◌≤◌, drop, map, ℕ, length}
use Rattle.std.specs.Prelude.{max}
use Rattle.line_format.specs.tools.Words.{furthest}
use Rattle.line_format.proofs.choices.furthest.Given as goal

abbrev pub invariant-loop-row : goal.invariant-loop-row
invariant-loop-row g l =
    (furthest (map (λ row. (row.0.now, row.1)) l.fn.table) l.fn.bytes
    ≡ max l.most (furthest (map (λ row. (row.0.now, row.1)) (drop l.row-index l.fn.table)) l.fn.bytes)) × (l.most ≤ length l.fn.bytes)
