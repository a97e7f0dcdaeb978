use Rattle.std.proofs.Common.{◌≡◌, ◌-◌}
use Rattle.parse_law.specs.tools.Parsing.{turns}
use Rattle.c_parse.specs.tools.Sorts.{is_suffix}
use Rattle.c_parse.specs.tools.ExprParser as spec
use Rattle.c_parse.specs.tools.Tokens.{goes}
use Rattle.c_parse.proofs.exprs.Exprs.suffixes.Given as goal
use Rattle.dfi_base.specs.Limits.{nesting_limit}

abbrev pub invariant-loop-turn : goal.invariant-loop-turn
invariant-loop-turn g l = spec.suffixes nesting_limit (spec.unary_of (spec.subject nesting_limit l.self.fuel)) l.line l.fn.found l.fn.cursor ≡ turns (goes (is_suffix)) (spec.suffix_after nesting_limit (spec.unary_of (spec.subject nesting_limit l.self.fuel)) l.line) (l.turns - l._turn) l.found l.cursor
