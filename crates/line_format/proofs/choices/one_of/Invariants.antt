use Rattle.std.proofs.Common.{◌≡◌, drop, map, ℕ}
use Rattle.line_format.specs.tools.Words.{look}
use Rattle.line_format.proofs.choices.one_of.Given as goal

abbrev pub invariant-loop-row : goal.invariant-loop-row
invariant-loop-row g l =
    (look (map (λ row. (row.0.now, row.1)) l.fn.table) (map (λ row. (row.0.now, row.1)) l.fn.table) l.fn.cursor
    ≡ look (map (λ row. (row.0.now, row.1)) l.fn.table) (map (λ row. (row.0.now, row.1)) (drop l.row-index l.fn.table)) l.cursor) × (l.cursor ≡ l.fn.cursor)
