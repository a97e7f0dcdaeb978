use Rattle.std.proofs.Common.{◌≡◌, ◌-◌, [], length}
use Rattle.line_format.specs.tools.Format.{read, loop, turns}
use Rattle.line_format.specs.tools.Times.{next_one}
use Rattle.text_law.specs.ModuleText.{beside}
use Rattle.text_law.specs.tools.Parts.{set}
use Rattle.module_text.proofs.tables.more_sets.Given as goal

abbrev pub invariant-loop : goal.invariant-loop
invariant-loop l =
    (read (loop (next_one set) ([], l.fn.behind)) l.fn.cursor
    ≡ turns (λ t r. read (next_one set t) r) (l.end - l.counter) (beside l.removed l.sets, l.owed) l.cursor) × (length l.removed ≡ length l.sets)
