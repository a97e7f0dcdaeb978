use Rattle.std.proofs.Common.{◌≡◌, drop}
use Rattle.c_lex.specs.Words.{look_up, same_word}
use Rattle.c_lex.proofs.word.text_beside.Given as goal

abbrev pub invariant-loop-row : goal.invariant-loop-row
invariant-loop-row l =
    look_up (λ row. same_word row.1 l.word) (λ row. row.0.now) (drop l.row-index l.table)
    ≡ look_up (λ row. same_word row.1 l.word) (λ row. row.0.now) l.table
