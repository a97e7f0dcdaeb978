use Rattle.std.proofs.Common.{◌-◌, length}
use Rattle.c_lex.specs.tools.Reading.{IsRead}
use Rattle.c_lex.proofs.lexer.lex.Given as goal

abbrev pub invariant-loop-at : goal.invariant-loop-at
invariant-loop-at l = IsRead l.bytes l.found.tokens l.found.names l.found.line l.at

abbrev pub decreases-loop-at : goal.decreases-loop-at
decreases-loop-at l = length l.bytes - l.at
