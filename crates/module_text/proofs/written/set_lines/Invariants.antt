use Rattle.std.proofs.Common.{◌≤◌, drop, take, length}
use Rattle.std.specs.List.{All}
use Rattle.std.specs.Prelude.{List, ℕ, ◌≡◌, ◌++◌}
use Rattle.std.specs.String.{string_bytes}
use Rattle.dfi_base.specs.Limits.{file_limit}
use Rattle.line_format.specs.Lines.{lines}
use Rattle.text_law.specs.ModuleText.{beside, set_words}
use Rattle.text_law.specs.IsModule.{Are32Bits}
use Rattle.module_text.proofs.written.set_lines.Given as goal

abbrev pub invariant-loop-at : goal.invariant-loop-at
invariant-loop-at l =
    ((rest : List ℕ) → string_bytes l.text ++ lines set_words (beside (drop l.at l.removed) (drop l.at l.sets)) rest ≡ string_bytes l.fn.text ++ lines set_words (beside l.removed l.sets) rest)
    × All Are32Bits (take l.at l.sets)
    × (l.at ≤ length (string_bytes l.text))
    × (l.at ≤ file_limit)
