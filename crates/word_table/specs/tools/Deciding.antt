-- What the words answer, and what a write makes of them, by index.
use Rattle.std.specs.Prelude.{ℕ, ◌&&◌, not, nat_lt, if◌then◌else◌, Some, None, List, length, slice_get, slice_set}
use Rattle.tac_ir.specs.declared.run.Answer.{Answer}
use Rattle.tac_ir.specs.declared.run.Stop.{Stop}
use Rattle.tac_ir.specs.Module.{Module}
use Rattle.tac_ir.specs.Answers.{is_checked}
use Rattle.word_table.specs.Words.{Words}
use Rattle.word_table.specs.declared.bits.Bits.{Bits}
use Rattle.word_table.specs.tools.BitRows.{row_has}

-- a read that finds this value and class
abbrev pub found_by : Module → List Bits → ℕ → ℕ → ℕ → Answer
found_by m rows r value class =
    if is_checked m r && not (row_has rows r class) then Answer.Stop (Stop.Alarm class) else Answer.Value value

abbrev pub decided : Module → Words → ℕ → ℕ → Answer
decided m t r w = elim (slice_get t.values w) [
  | None ↦ Answer.Stop Stop.Address
  | Some value ↦ elim (slice_get t.classes w) [ None ↦ Answer.Stop Stop.Address | Some class ↦ found_by m t.rows r value class ]
]

-- with a value and a class at this word, where there is one
abbrev pub written : Words → ℕ → ℕ → ℕ → Words
written t class w v =
    if nat_lt w (length t.values) && nat_lt w (length t.classes)
    then record { values = slice_set t.values w v; classes = slice_set t.classes w class; rows = t.rows }
    else t
