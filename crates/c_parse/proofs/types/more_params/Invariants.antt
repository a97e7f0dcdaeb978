use Rattle.std.proofs.Common.{◌≡◌, ◌-◌}
use Rattle.parse_law.specs.tools.Parsing.{turns}
use Rattle.c_lex.specs.declared.token.Mark.{Mark}
use Rattle.c_parse.specs.tools.Tokens.{is_mark}
use Rattle.c_parse.specs.tools.TypeParser as spec
use Rattle.parse_law.specs.tools.Parsing.{found_and, ◌<$>◌}
use Rattle.c_parse.specs.tools.Tokens.{goes}
use Rattle.c_parse.proofs.types.more_params.Given as goal

abbrev pub invariant-loop-turn : goal.invariant-loop-turn
invariant-loop-turn l = spec.more_params l.fn.found l.fn.cursor ≡ turns (goes (is_mark Mark.Comma)) (λ found. found_and found <$> spec.after_comma spec.param) (l.turns - l._turn) l.found l.cursor
