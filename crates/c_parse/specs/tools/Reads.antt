-- A function of the code gives a parser's answer, unless memory fails.
use Rattle.std.specs.Prelude.{◌≡◌, Result, Ok, Err}
use Rattle.c_parse.specs.declared.cursor.Failure.{Failure}
use Rattle.parse_law.specs.tools.Parsing.{Answer, done, fault, unexpected, deep}
use Rattle.c_parse.specs.Symbol.{Symbol, Symbols}

abbrev pub Fails : {A : Type 0} → Answer Symbol A → Failure → Type 0
Fails answer Failure.Memory = Unit {0}
Fails answer (Failure.Unexpected n) = answer ≡ fault unexpected n
Fails answer (Failure.Deep n) = answer ≡ fault deep n

abbrev pub Reads : {A : Type 0} → Answer Symbol A → Result A Failure → Symbols → Type 0
Reads answer (Ok a) new = answer ≡ done a new
Reads answer (Err e) new = Fails answer e
