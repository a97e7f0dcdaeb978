use Rattle.std.proofs.Common.{◌≡◌, ◌-◌}
use Rattle.parse_law.specs.tools.Parsing.{turns}
use Rattle.c_lex.specs.declared.token.Mark.{Mark}
use Rattle.c_parse.specs.tools.Tokens.{is_mark}
use Rattle.c_parse.specs.tools.TypeParser as spec
use Rattle.c_parse.specs.tools.Tokens.{goes}
use Rattle.c_parse.proofs.types.stars.Given as goal

abbrev pub invariant-loop-stars : goal.invariant-loop-stars
invariant-loop-stars l = spec.stars l.fn.cursor ≡ turns (goes (is_mark Mark.Star)) (spec.star) (l.turns - l.stars) l.stars l.cursor
