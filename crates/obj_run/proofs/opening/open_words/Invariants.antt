use Rattle.std.proofs.Common.{◌≡◌, ◌++◌, drop, length}
use Rattle.obj_mem.specs.Objects.{of_program}
use Rattle.obj_mem.specs.Opening.{words_opened, global_of}
use Rattle.obj_run.proofs.opening.open_words.Given as goal

abbrev pub invariant-loop-at : goal.invariant-loop-at
invariant-loop-at l =
    (l.stamps.items ++ words_opened (global_of l.site (length l.words)) l.at (drop l.at l.words) ≡ l.fn.stamps.items ++ words_opened (global_of l.site (length l.words)) 0 l.words)
    × (l.maker ≡ of_program) × (l.len ≡ length l.words)
