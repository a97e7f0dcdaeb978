use Rattle.std.proofs.Common.{rules, arith, refl}
use Rattle.std.proofs.lemmas.Grind.{common_steps}
use Rattle.parse_law.specs.tools.Parsing.{rising}
use Rattle.c_parse.specs.tools.ExprParser as spec
use Rattle.c_parse.proofs.Loops.{turn_first, turn_more, turn_none}
use Rattle.c_parse.proofs.exprs.Exprs.+level.Goals as goal
use Rattle.dfi_base.specs.Limits.{nesting_limit}

pub operators-loop-turn-init : goal.operators-loop-turn-init
operators-loop-turn-init g t c = turn_first (spec.is_binary c.args.tier) refl (λ v. rising nesting_limit v.1 (spec.right c.args.tier (spec.level nesting_limit (spec.unary_of (spec.subject nesting_limit c.args.self.now.fuel)) c.args.lower.now) c.args.line v.0)) _ _ _ (omega arith)

pub operators-returns-then-not-is_binary : goal.operators-returns-then-not-is_binary
operators-returns-then-not-is_binary g t c =
    let e = turn_more (spec.is_binary c.args.tier) refl (λ v. rising nesting_limit v.1 (spec.right c.args.tier (spec.level nesting_limit (spec.unary_of (spec.subject nesting_limit c.args.self.now.fuel)) c.args.lower.now) c.args.line v.0)) _ _ _ _ _ c.loop-turn.invariant c.loop-turn-test.true in
    first_of (search rules, grind (arith, common_steps))

pub operators-loop-turn-preserved : goal.operators-loop-turn-preserved
operators-loop-turn-preserved g t c =
    let e = turn_more (spec.is_binary c.args.tier) refl (λ v. rising nesting_limit v.1 (spec.right c.args.tier (spec.level nesting_limit (spec.unary_of (spec.subject nesting_limit c.args.self.now.fuel)) c.args.lower.now) c.args.line v.0)) _ _ _ _ _ c.loop-turn.invariant c.loop-turn-test.true in
    first_of (search rules, grind (arith, common_steps))

pub operators-returns-in_err-found : goal.operators-returns-in_err-found
operators-returns-in_err-found g t c =
    let e = turn_more (spec.is_binary c.args.tier) refl (λ v. rising nesting_limit v.1 (spec.right c.args.tier (spec.level nesting_limit (spec.unary_of (spec.subject nesting_limit c.args.self.now.fuel)) c.args.lower.now) c.args.line v.0)) _ _ _ _ _ c.loop-turn.invariant c.loop-turn-test.true in
    first_of (search rules, grind (arith, common_steps))

pub operators-returns : goal.operators-returns
operators-returns g t c =
    let e = turn_none (spec.is_binary c.args.tier) refl (λ v. rising nesting_limit v.1 (spec.right c.args.tier (spec.level nesting_limit (spec.unary_of (spec.subject nesting_limit c.args.self.now.fuel)) c.args.lower.now) c.args.line v.0)) _ _ _ _ _ c.loop-turn.invariant (omega arith) in
    first_of (search rules, grind (arith, common_steps))
