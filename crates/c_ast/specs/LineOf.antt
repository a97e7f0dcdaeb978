-- The line of the first token.
use Rattle.dfi_base.specs.declared.numbers.Line.{Line}
use Rattle.c_ast.specs.declared.decl.Base.{Base}
use Rattle.c_ast.specs.declared.stmt.Simple.{Simple}

abbrev pub line_of_base : Base → Line
line_of_base (Base.Int line) = line
line_of_base (Base.Struct line tag) = line

abbrev pub line_of_simple : Simple → Line
line_of_simple (Simple.Assign line target op value) = line
line_of_simple (Simple.Increment line target) = line
line_of_simple (Simple.Decrement line target) = line
line_of_simple (Simple.PreIncrement line target) = line
line_of_simple (Simple.PreDecrement line target) = line
line_of_simple (Simple.Call function arguments) = function.line
