use Rattle.std.proofs.Common.{rules, arith, refl}
use Rattle.std.proofs.lemmas.Grind.{common_steps}
use Rattle.c_parse.specs.tools.Sorts.{is_suffix}
use Rattle.c_parse.specs.tools.ExprParser as spec
use Rattle.c_parse.proofs.Loops.{turn_first, turn_more, turn_none}
use Rattle.c_parse.proofs.exprs.Exprs.suffixes.Goals as goal
use Rattle.dfi_base.specs.Limits.{nesting_limit}

pub loop-turn-init : goal.loop-turn-init
loop-turn-init g c = turn_first (is_suffix) refl (spec.suffix_after nesting_limit (spec.unary_of (spec.subject nesting_limit c.args.self.now.fuel)) c.args.line) _ _ _ (omega arith)

pub returns-then-not-is_suffix : goal.returns-then-not-is_suffix
returns-then-not-is_suffix g c =
    let e = turn_more (is_suffix) refl (spec.suffix_after nesting_limit (spec.unary_of (spec.subject nesting_limit c.args.self.now.fuel)) c.args.line) _ _ _ _ _ c.loop-turn.invariant c.loop-turn-test.true in
    first_of (search rules, grind (arith, common_steps))

pub returns-in_err-found : goal.returns-in_err-found
returns-in_err-found g c =
    let e = turn_more (is_suffix) refl (spec.suffix_after nesting_limit (spec.unary_of (spec.subject nesting_limit c.args.self.now.fuel)) c.args.line) _ _ _ _ _ c.loop-turn.invariant c.loop-turn-test.true in
    first_of (search rules, grind (arith, common_steps))

pub loop-turn-preserved : goal.loop-turn-preserved
loop-turn-preserved g c =
    let e = turn_more (is_suffix) refl (spec.suffix_after nesting_limit (spec.unary_of (spec.subject nesting_limit c.args.self.now.fuel)) c.args.line) _ _ _ _ _ c.loop-turn.invariant c.loop-turn-test.true in
    first_of (search rules, grind (arith, common_steps))

pub returns : goal.returns
returns g c =
    let e = turn_none (is_suffix) refl (spec.suffix_after nesting_limit (spec.unary_of (spec.subject nesting_limit c.args.self.now.fuel)) c.args.line) _ _ _ _ _ c.loop-turn.invariant (omega arith) in
    first_of (search rules, grind (arith, common_steps))
