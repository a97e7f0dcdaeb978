use Rattle.std.proofs.Common.{rules, arith, refl}
use Rattle.std.proofs.lemmas.Grind.{common_steps}
use Rattle.c_lex.specs.declared.token.Mark.{Mark}
use Rattle.c_parse.specs.tools.Tokens.{is_mark}
use Rattle.c_parse.specs.tools.ExprParser as spec
use Rattle.c_parse.specs.tools.TypeParser.{after_comma}
use Rattle.parse_law.specs.tools.Parsing.{found_and, ◌<$>◌}
use Rattle.c_parse.proofs.Loops.{turn_first, turn_more, turn_none}
use Rattle.c_parse.proofs.exprs.Exprs.more_arguments.Goals as goal
use Rattle.dfi_base.specs.Limits.{nesting_limit}

pub loop-turn-init : goal.loop-turn-init
loop-turn-init g c = turn_first (is_mark Mark.Comma) refl (λ found. found_and found <$> after_comma (spec.expr nesting_limit (spec.unary_of (spec.subject nesting_limit c.args.self.now.fuel)) c.args.counter)) _ _ _ (omega arith)

pub returns-then-not-is_mark : goal.returns-then-not-is_mark
returns-then-not-is_mark g c =
    let e = turn_more (is_mark Mark.Comma) refl (λ found. found_and found <$> after_comma (spec.expr nesting_limit (spec.unary_of (spec.subject nesting_limit c.args.self.now.fuel)) c.args.counter)) _ _ _ _ _ c.loop-turn.invariant c.loop-turn-test.true in
    first_of (search rules, grind (arith, common_steps))

pub returns-in_err-mark : goal.returns-in_err-mark
returns-in_err-mark g c =
    let e = turn_more (is_mark Mark.Comma) refl (λ found. found_and found <$> after_comma (spec.expr nesting_limit (spec.unary_of (spec.subject nesting_limit c.args.self.now.fuel)) c.args.counter)) _ _ _ _ _ c.loop-turn.invariant c.loop-turn-test.true in
    first_of (search rules, grind (arith, common_steps))

pub returns-in_err-next : goal.returns-in_err-next
returns-in_err-next g c =
    let e = turn_more (is_mark Mark.Comma) refl (λ found. found_and found <$> after_comma (spec.expr nesting_limit (spec.unary_of (spec.subject nesting_limit c.args.self.now.fuel)) c.args.counter)) _ _ _ _ _ c.loop-turn.invariant c.loop-turn-test.true in
    first_of (search rules, grind (arith, common_steps))

pub loop-turn-preserved : goal.loop-turn-preserved
loop-turn-preserved g c =
    let e = turn_more (is_mark Mark.Comma) refl (λ found. found_and found <$> after_comma (spec.expr nesting_limit (spec.unary_of (spec.subject nesting_limit c.args.self.now.fuel)) c.args.counter)) _ _ _ _ _ c.loop-turn.invariant c.loop-turn-test.true in
    first_of (search rules, grind (arith, common_steps))

pub returns : goal.returns
returns g c =
    let e = turn_none (is_mark Mark.Comma) refl (λ found. found_and found <$> after_comma (spec.expr nesting_limit (spec.unary_of (spec.subject nesting_limit c.args.self.now.fuel)) c.args.counter)) _ _ _ _ _ c.loop-turn.invariant (omega arith) in
    first_of (search rules, grind (arith, common_steps))
