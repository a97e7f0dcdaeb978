use Rattle.std.proofs.Common.{Err, arith, get_or, sym, subst}
use Rattle.std.proofs.lemmas.Option.{slice_get-get_or}
use Rattle.dfi_base.specs.declared.numbers.Name.{Name}
use Rattle.flat_core.specs.Runs.{GoesAlong}
use Rattle.flat_core.proofs.Turning.{spent_refuses, step_refuses}
use Rattle.flat_core.proofs.drive.along.Goals as goal

pub returns-then-place-budget : goal.returns-then-place-budget
returns-then-place-budget c = λ input is. spent_refuses c.args.m.now input c.args.budget c.loop-k.k c.args.names.now c.loop-k.core (c.loop-k.invariant input is) c.loop-k-test.true (omega (arith, c.if-place-budget.true))

pub returns-in-Err : goal.returns-in-Err
returns-in-Err c = λ input is.
    let m = c.args.m.now in
    let names = c.args.names.now in
    let k = c.loop-k.k in
    let nobody : Name = record { 0 = 0 } in
    let gone = c.loop-k.invariant input is in
    subst (λ f. GoesAlong m input c.args.budget names (Err f) c.step.new.self) (sym c.refused.ensures)
    (step_refuses m input c.args.budget k names (get_or names k nobody) c.loop-k.core c.step.new.self c.in-Err.fault gone (slice_get-get_or names k nobody c.loop-k-test.true) (c.in-Err.ensures input gone.is))
