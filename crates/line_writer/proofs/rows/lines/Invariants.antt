use Rattle.std.proofs.Common.{◌≤◌, drop, take, length}
use Rattle.std.specs.List.{All}
use Rattle.std.specs.String.{string_bytes}
use Rattle.std.specs.Prelude.{List, ℕ, ◌≡◌, ◌++◌}
use Rattle.dfi_base.specs.Limits.{file_limit}
use Rattle.line_format.specs.Lines.{lines}
use Rattle.line_writer.proofs.rows.lines.Given as goal

abbrev pub invariant-loop-value : goal.invariant-loop-value
invariant-loop-value g l =
    ((rest : List ℕ) → string_bytes l.text ++ lines g.L.Line.words (drop l.value-index l.values) rest ≡ string_bytes l.fn.text ++ lines g.L.Line.words l.values rest)
    × All g.L.Line.fits (take l.value-index l.values)
    × (l.value-index ≤ length (string_bytes l.text))
    × (l.value-index ≤ file_limit)
