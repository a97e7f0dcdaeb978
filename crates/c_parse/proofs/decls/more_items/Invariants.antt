use Rattle.std.proofs.Common.{◌≡◌, ◌-◌}
use Rattle.parse_law.specs.tools.Parsing.{turns}
use Rattle.c_lex.specs.declared.token.Mark.{Mark}
use Rattle.c_parse.specs.tools.Tokens.{is_mark}
use Rattle.c_parse.specs.tools.StmtParser as spec
use Rattle.c_parse.specs.tools.TypeParser.{after_comma}
use Rattle.parse_law.specs.tools.Parsing.{found_and, ◌<$>◌}
use Rattle.c_parse.specs.tools.Tokens.{goes}
use Rattle.c_parse.proofs.decls.more_items.Given as goal
use Rattle.dfi_base.specs.Limits.{nesting_limit}

abbrev pub invariant-loop-turn : goal.invariant-loop-turn
invariant-loop-turn l = spec.more_items nesting_limit l.counter l.fn.found l.fn.cursor ≡ turns (goes (is_mark Mark.Comma)) (λ found. found_and found <$> after_comma (spec.decl_item nesting_limit l.counter)) (l.turns - l._turn) l.found l.cursor
