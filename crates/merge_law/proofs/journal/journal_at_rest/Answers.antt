use Rattle.std.proofs.Common.{◌+◌, drop, map, sym, subst, ◌∙◌, arith}
use Rattle.guest_log.specs.declared.stamped.Stamped.{Stamped}
use Rattle.merge_law.proofs.runs.Upto.{IsReading, goes_at, stops_at, ends_at}
use Rattle.merge_law.proofs.journal.journal_at_rest.Goals as goal

pub returns-in-Stop : goal.returns-in-Stop
returns-in-Stop c =
    (λ j. record { entries = (c.from_vec.ensures ∙ c.in_ok-push.ensures.items) j; «end» = c.end.ensures j })
    ∙ stops_at c.args.rest c.args.log.now c.loop-stamped.entries.items c.loop-stamped.stamped-index _ c.in-Stop.stop c.loop-stamped-test.true c.in-Stop.is c.loop-stamped.invariant

pub loop-stamped-preserved : goal.loop-stamped-preserved
loop-stamped-preserved c =
    subst (λ l. IsReading c.args.rest (map (λ (s : Stamped). s.entry) c.args.log.now) l (map (λ (s : Stamped). s.entry) (drop (c.loop-stamped.stamped-index + 1) c.args.log.now)))
    (sym c.in_ok-push.ensures.items)
    (goes_at c.args.rest c.args.log.now c.loop-stamped.entries.items c.loop-stamped.stamped-index _ c.loop-stamped-test.true c.in_default.not-Stop c.loop-stamped.invariant)

pub returns : goal.returns
returns c =
    (λ j. record { entries = c.from_vec-2.ensures j; «end» = c.end_at_rest.ensures j })
    ∙ ends_at c.args.rest c.args.log.now c.loop-stamped.entries.items c.loop-stamped.stamped-index (omega (arith, c.loop-stamped.auto.stamped-index-end, c.loop-stamped-test.false)) c.loop-stamped.invariant
