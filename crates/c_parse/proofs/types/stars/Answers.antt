use Rattle.std.proofs.Common.{rules, arith, refl}
use Rattle.std.proofs.lemmas.Grind.{common_steps}
use Rattle.c_lex.specs.declared.token.Mark.{Mark}
use Rattle.c_parse.specs.tools.Tokens.{is_mark}
use Rattle.c_parse.specs.tools.TypeParser as spec
use Rattle.c_parse.proofs.Loops.{turn_first, turn_more, turn_none}
use Rattle.c_parse.proofs.types.stars.Goals as goal

pub loop-stars-init : goal.loop-stars-init
unfolding spec.stars
loop-stars-init c = turn_first (is_mark Mark.Star) refl (spec.star) _ _ _ (omega arith)

pub returns-then-not-is_mark : goal.returns-then-not-is_mark
returns-then-not-is_mark c =
    let e = turn_more (is_mark Mark.Star) refl (spec.star) _ _ _ _ _ c.loop-stars.invariant c.loop-stars-test.true in
    first_of (search rules, grind (arith, common_steps))

pub returns-in_err-mark : goal.returns-in_err-mark
returns-in_err-mark c =
    let e = turn_more (is_mark Mark.Star) refl (spec.star) _ _ _ _ _ c.loop-stars.invariant c.loop-stars-test.true in
    first_of (search rules, grind (arith, common_steps))

pub loop-stars-preserved : goal.loop-stars-preserved
loop-stars-preserved c =
    let e = turn_more (is_mark Mark.Star) refl (spec.star) _ _ _ _ _ c.loop-stars.invariant c.loop-stars-test.true in
    first_of (search rules, grind (arith, common_steps))

pub returns : goal.returns
returns c =
    let e = turn_none (is_mark Mark.Star) refl (spec.star) _ _ _ _ _ c.loop-stars.invariant (omega arith) in
    first_of (search rules, grind (arith, common_steps))
