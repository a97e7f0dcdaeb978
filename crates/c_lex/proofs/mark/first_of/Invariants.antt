use Rattle.std.proofs.Common.{◌≡◌, ℕ, drop, length}
use Rattle.std.specs.Prelude.{nat_eq}
use Rattle.std.specs.List.{starts_with}
use Rattle.c_lex.specs.declared.token.Mark.{Mark}
use Rattle.c_lex.specs.Words.{look_up}
use Rattle.c_lex.proofs.mark.first_of.Given as goal

abbrev pub invariant-loop-row : goal.invariant-loop-row
invariant-loop-row l =
    look_up {B = ℕ × Mark} (λ row. starts_with nat_eq l.bytes row.0.now) (λ row. (length row.0.now, row.1)) (drop l.row-index l.table)
    ≡ look_up {B = ℕ × Mark} (λ row. starts_with nat_eq l.bytes row.0.now) (λ row. (length row.0.now, row.1)) l.table
