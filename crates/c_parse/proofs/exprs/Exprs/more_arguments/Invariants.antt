use Rattle.std.proofs.Common.{◌≡◌, ◌-◌}
use Rattle.parse_law.specs.tools.Parsing.{turns}
use Rattle.c_lex.specs.declared.token.Mark.{Mark}
use Rattle.c_parse.specs.tools.Tokens.{is_mark}
use Rattle.c_parse.specs.tools.ExprParser as spec
use Rattle.c_parse.specs.tools.TypeParser.{after_comma}
use Rattle.parse_law.specs.tools.Parsing.{found_and, ◌<$>◌}
use Rattle.c_parse.specs.tools.Tokens.{goes}
use Rattle.c_parse.proofs.exprs.Exprs.more_arguments.Given as goal
use Rattle.dfi_base.specs.Limits.{nesting_limit}

abbrev pub invariant-loop-turn : goal.invariant-loop-turn
invariant-loop-turn g l = spec.more_arguments nesting_limit (spec.unary_of (spec.subject nesting_limit l.self.fuel)) l.counter l.fn.found l.fn.cursor ≡ turns (goes (is_mark Mark.Comma)) (λ found. found_and found <$> after_comma (spec.expr nesting_limit (spec.unary_of (spec.subject nesting_limit l.self.fuel)) l.counter)) (l.turns - l._turn) l.found l.cursor
