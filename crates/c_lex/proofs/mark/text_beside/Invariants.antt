use Rattle.std.proofs.Common.{◌≡◌, drop}
use Rattle.c_lex.specs.Words.{look_up}
use Rattle.c_lex.specs.Marks.{same_mark}
use Rattle.c_lex.proofs.mark.text_beside.Given as goal

abbrev pub invariant-loop-row : goal.invariant-loop-row
invariant-loop-row l =
    look_up (λ row. same_mark row.1 l.mark) (λ row. row.0.now) (drop l.row-index l.table)
    ≡ look_up (λ row. same_mark row.1 l.mark) (λ row. row.0.now) l.table
