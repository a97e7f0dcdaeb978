use Rattle.std.proofs.Common.{◌≡◌, ◌-◌}
use Rattle.parse_law.specs.tools.Parsing.{turns}
use Rattle.c_parse.specs.tools.ProgramParser as spec
use Rattle.parse_law.specs.tools.Parsing.{found_and, ◌<$>◌}
use Rattle.c_parse.specs.tools.Tokens.{goes}
use Rattle.c_parse.proofs.programs.items.Given as goal
use Rattle.dfi_base.specs.Limits.{nesting_limit}

abbrev pub invariant-loop-turn : goal.invariant-loop-turn
invariant-loop-turn l = spec.more_items nesting_limit l.fn.found l.fn.cursor ≡ turns (goes (spec.is_more)) (λ found. found_and found <$> spec.item nesting_limit) (l.turns - l._turn) l.found l.cursor
