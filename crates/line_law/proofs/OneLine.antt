-- A rule that is broken twice at one place has one line there.
use Rattle.std.proofs.Common.{◌+◌, [], length, arith}
use Rattle.std.specs.Prelude.{nat_lt}
use Rattle.c_ast.specs.Ast.{Ast}
use Rattle.c_typed.specs.Whole.{Whole, whole_of}
use Rattle.c_typed.specs.Faults.{no_main}
use Rattle.c_typed.specs.Programs.{text, main_number, faults_by, faults_of}
use Rattle.line_law.specs.Laws.{OneLine}
use Rattle.line_law.proofs.Lined.{IsLined, from_contains, apart, wider, unless_at, lined_at}
use Rattle.line_law.proofs.Programs.{AllItemsBegin, inside_text}
use Rattle.line_law.proofs.Begins.{program_begins}

lined_program : (w : Whole) (a : Ast) → AllItemsBegin a.items → IsLined 0 ((text w a.items).tokens + 1) (faults_by w a)
lined_program w a begin =
    apart {middle = (text w a.items).tokens} (omega arith) (omega arith)
    (wider {from = 0} {to = 0 + (text w a.items).tokens} (omega arith) (omega arith) ((inside_text w a.items begin).within (record { before = []; at = 0 })))
    (lined_at (omega arith) (omega arith) (unless_at (nat_lt (main_number w) (length w.functions)) (text w a.items).tokens no_main a.last))

pub one_line : OneLine
one_line ts a program f g x y at rule =
    let is = lined_program (whole_of a.names a.items) a (program_begins program) in
    is.lined f g (from_contains (faults_of a) f x) (from_contains (faults_of a) g y) at rule
