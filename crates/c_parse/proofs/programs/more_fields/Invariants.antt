use Rattle.std.proofs.Common.{◌≡◌, ◌-◌}
use Rattle.parse_law.specs.tools.Parsing.{turns}
use Rattle.c_parse.specs.tools.ProgramParser as spec
use Rattle.c_parse.specs.tools.StmtParser.{is_open}
use Rattle.parse_law.specs.tools.Parsing.{found_and, ◌<$>◌}
use Rattle.c_parse.specs.tools.Tokens.{goes}
use Rattle.c_parse.proofs.programs.more_fields.Given as goal

abbrev pub invariant-loop-turn : goal.invariant-loop-turn
invariant-loop-turn l = spec.more_fields l.fn.found l.fn.cursor ≡ turns (goes (is_open)) (λ found. found_and found <$> spec.field) (l.turns - l._turn) l.found l.cursor
