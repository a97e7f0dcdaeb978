use Rattle.std.proofs.Common.{◌≡◌, ◌+◌, ◌-◌, ◌*◌, length}
use Rattle.parse_law.specs.tools.Parsing.{rising, turns}
use Rattle.c_parse.specs.tools.ExprParser as spec
use Rattle.c_parse.specs.tools.Tokens.{goes}
use Rattle.c_parse.proofs.exprs.Exprs.+level.Given as goal
use Rattle.dfi_base.specs.Limits.{nesting_limit}

abbrev pub decreases-level : goal.decreases-level
decreases-level g l = 5 * length l.tiers.now

abbrev pub decreases-operator : goal.decreases-operator
decreases-operator g l = 5 * length l.lower.now + 2

abbrev pub decreases-operators : goal.decreases-operators
decreases-operators g l = 5 * length l.lower.now + 3

abbrev pub decreases-chain : goal.decreases-chain
decreases-chain g l = 5 * length l.lower.now + 4

abbrev pub decreases-right : goal.decreases-right
decreases-right g l = 5 * length l.lower.now + 1

abbrev pub invariant-operators-loop-turn : goal.invariant-operators-loop-turn
invariant-operators-loop-turn g l =
    spec.operators l.tier (spec.level nesting_limit (spec.unary_of (spec.subject nesting_limit l.self.fuel)) l.lower) l.line nesting_limit l.fn.found l.fn.cursor
    ≡ turns (goes (spec.is_binary l.tier)) (λ v. rising nesting_limit v.1 (spec.right l.tier (spec.level nesting_limit (spec.unary_of (spec.subject nesting_limit l.self.fuel)) l.lower) l.line v.0)) (l.turns - l._turn) l.found l.cursor
