use Rattle.std.proofs.Common.{◌≡◌, ◌+◌, ap, length, arith}
use Rattle.code_layout.proofs.Starts.{global_start-read, global_start-le, AreStarts-more, AreStarts-up}
use Rattle.code_layout.proofs.globals.global_starts.Goals as goal

pub overflow_add-next : goal.overflow_add-next
overflow_add-next c =
    let n = c.loop-global.global-index in
    let more = global_start-read c.args.code.now _ _ _ _ _ _ c.as_slice-global-items.ensures c.loop-global-test.true c.as_slice.ensures.value (c.in_ok-sizes.ensures).sizes c.size_at-next.ensures in
    omega (arith, more, c.loop-global.invariant.behind, global_start-le c.args.code.now (n + 1), c.requires.globals)

pub loop-global-preserved : goal.loop-global-preserved
loop-global-preserved c =
    let more = global_start-read c.args.code.now _ _ _ _ _ _ c.as_slice-global-items.ensures c.loop-global-test.true c.as_slice.ensures.value (c.in_ok-sizes.ensures).sizes c.size_at-next.ensures in
    rw (c.in_ok-push.ensures).items (AreStarts-more _ _ _ _ _ c.loop-global.invariant (omega (arith, more, c.loop-global.invariant.behind)))

pub returns-clause-ascending : goal.returns-clause-ascending
returns-clause-ascending c =
    let all : c.loop-global.global-index ≡ length c.args.code.now.globals = omega (arith, ap length c.as_slice-global-items.ensures) in
    λ g h. rw (c.in_ok-push-2.ensures).items (AreStarts-up _ _ _ _ c.loop-global.invariant all g (omega arith))
