use Rattle.std.proofs.Common.{◌≡◌, drop}
use Rattle.std.specs.Prelude.{bytes_eq}
use Rattle.c_lex.specs.Words.{look_up}
use Rattle.c_lex.proofs.word.beside.Given as goal

abbrev pub invariant-loop-row : goal.invariant-loop-row
invariant-loop-row l =
    look_up (λ row. bytes_eq l.text row.0.now) (λ row. row.1) (drop l.row-index l.table) ≡ look_up (λ row. bytes_eq l.text row.0.now) (λ row. row.1) l.table
