use Rattle.std.proofs.Common.{rules, arith, refl}
use Rattle.std.proofs.lemmas.Grind.{common_steps}
use Rattle.c_parse.specs.tools.StmtParser as spec
use Rattle.parse_law.specs.tools.Parsing.{found_and, ◌<$>◌}
use Rattle.c_parse.proofs.Loops.{turn_first, turn_more, turn_none}
use Rattle.c_parse.proofs.stmts.Stmts.more_branches.Goals as goal
use Rattle.dfi_base.specs.Limits.{nesting_limit}

pub loop-turn-init : goal.loop-turn-init
loop-turn-init g c = turn_first (spec.is_open) refl (λ found. found_and found <$> spec.block nesting_limit (spec.stmt nesting_limit c.args.self.now.fuel) c.args.counter) _ _ _ (omega arith)

pub returns-then-not-is_open : goal.returns-then-not-is_open
returns-then-not-is_open g c =
    let e = turn_more (spec.is_open) refl (λ found. found_and found <$> spec.block nesting_limit (spec.stmt nesting_limit c.args.self.now.fuel) c.args.counter) _ _ _ _ _ c.loop-turn.invariant c.loop-turn-test.true in
    first_of (search rules, grind (arith, common_steps))

pub returns-in_err-next : goal.returns-in_err-next
returns-in_err-next g c =
    let e = turn_more (spec.is_open) refl (λ found. found_and found <$> spec.block nesting_limit (spec.stmt nesting_limit c.args.self.now.fuel) c.args.counter) _ _ _ _ _ c.loop-turn.invariant c.loop-turn-test.true in
    first_of (search rules, grind (arith, common_steps))

pub loop-turn-preserved : goal.loop-turn-preserved
loop-turn-preserved g c =
    let e = turn_more (spec.is_open) refl (λ found. found_and found <$> spec.block nesting_limit (spec.stmt nesting_limit c.args.self.now.fuel) c.args.counter) _ _ _ _ _ c.loop-turn.invariant c.loop-turn-test.true in
    first_of (search rules, grind (arith, common_steps))

pub returns : goal.returns
returns g c =
    let e = turn_none (spec.is_open) refl (λ found. found_and found <$> spec.block nesting_limit (spec.stmt nesting_limit c.args.self.now.fuel) c.args.counter) _ _ _ _ _ c.loop-turn.invariant (omega arith) in
    first_of (search rules, grind (arith, common_steps))
