use Rattle.std.proofs.Common.{rules, arith, refl}
use Rattle.std.proofs.lemmas.Grind.{common_steps}
use Rattle.c_parse.specs.tools.ProgramParser as spec
use Rattle.c_parse.specs.tools.StmtParser.{is_open}
use Rattle.parse_law.specs.tools.Parsing.{found_and, ◌<$>◌}
use Rattle.c_parse.proofs.Loops.{turn_first, turn_more, turn_none}
use Rattle.c_parse.proofs.programs.more_fields.Goals as goal

pub loop-turn-init : goal.loop-turn-init
loop-turn-init c = turn_first (is_open) refl (λ found. found_and found <$> spec.field) _ _ _ (omega arith)

pub returns-then-not-is_open : goal.returns-then-not-is_open
returns-then-not-is_open c =
    let e = turn_more (is_open) refl (λ found. found_and found <$> spec.field) _ _ _ _ _ c.loop-turn.invariant c.loop-turn-test.true in
    first_of (search rules, grind (arith, common_steps))

pub returns-in_err-next : goal.returns-in_err-next
returns-in_err-next c =
    let e = turn_more (is_open) refl (λ found. found_and found <$> spec.field) _ _ _ _ _ c.loop-turn.invariant c.loop-turn-test.true in
    first_of (search rules, grind (arith, common_steps))

pub loop-turn-preserved : goal.loop-turn-preserved
loop-turn-preserved c =
    let e = turn_more (is_open) refl (λ found. found_and found <$> spec.field) _ _ _ _ _ c.loop-turn.invariant c.loop-turn-test.true in
    first_of (search rules, grind (arith, common_steps))

pub returns : goal.returns
returns c =
    let e = turn_none (is_open) refl (λ found. found_and found <$> spec.field) _ _ _ _ _ c.loop-turn.invariant (omega arith) in
    first_of (search rules, grind (arith, common_steps))
