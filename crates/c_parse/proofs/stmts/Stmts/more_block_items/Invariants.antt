use Rattle.std.proofs.Common.{◌≡◌, ◌-◌}
use Rattle.parse_law.specs.tools.Parsing.{turns}
use Rattle.c_parse.specs.tools.StmtParser as spec
use Rattle.parse_law.specs.tools.Parsing.{found_and, ◌<$>◌}
use Rattle.c_parse.specs.tools.Tokens.{goes}
use Rattle.c_parse.proofs.stmts.Stmts.more_block_items.Given as goal
use Rattle.dfi_base.specs.Limits.{nesting_limit}

abbrev pub invariant-loop-turn : goal.invariant-loop-turn
invariant-loop-turn g l = spec.more_block_items nesting_limit (spec.stmt nesting_limit l.self.fuel) l.counter l.fn.found l.fn.cursor ≡ turns (goes (spec.is_open)) (λ found. found_and found <$> spec.item nesting_limit (spec.stmt nesting_limit l.self.fuel) l.counter) (l.turns - l._turn) l.found l.cursor
