use Rattle.std.proofs.Common.{reverse, sym, ap, ◌∙◌}
use Rattle.std.proofs.lemmas.Int.{to_z-of_z}
use mir.Syntax.{w32}
use mir.Val.{SFits}
use Rattle.std.proofs.Common.{rules}
use Rattle.obj_mem.proofs.Inputs.{oldest, oldest_of_all, oldest_other, oldest_here, oldest_before, oldest_nowhere, given_nothing}
use Rattle.obj_mem.proofs.number.first_left.Goals as goal

pub loop-stamp-init : goal.loop-stamp-init
loop-stamp-init c = ap (λ k. oldest k (reverse c.args.events.now)) c.count_left-left.ensures.left ∙ oldest_of_all (reverse c.args.events.now)

pub loop-stamp-preserved-in_default-event : goal.loop-stamp-preserved-in_default-event
loop-stamp-preserved-in_default-event c =
    sym (oldest_other c.loop-stamp.left c.loop-stamp.rest.now c.in-Some.earlier.now c.in-Some.stamp.now (c.in-Some.ensures).cases.0
    (λ f. given_nothing c.in-Some.stamp.now.event c.loop-stamp.left f c.in_default-event.not-Given)) ∙ c.loop-stamp.invariant

pub returns-then-left-eq1 : goal.returns-then-left-eq1
returns-then-left-eq1 c =
    let fits : SFits w32 c.in-Given.v = search rules in
    to_z-of_z w32 c.in-Given.v fits
    ∙ (sym (oldest_here c.loop-stamp.left c.loop-stamp.rest.now c.in-Some.earlier.now c.in-Some.stamp.now c.in-Given.v (c.in-Some.ensures).cases.0 c.in-Given.is c.if-left-eq1.true) ∙ c.loop-stamp.invariant)

pub loop-stamp-preserved : goal.loop-stamp-preserved
loop-stamp-preserved c =
    ap (λ k. oldest k (reverse c.in-Some.earlier.now)) c.saturating_sub-left.ensures
    ∙ (sym (oldest_before c.loop-stamp.left c.loop-stamp.rest.now c.in-Some.earlier.now c.in-Some.stamp.now c.in-Given.v (c.in-Some.ensures).cases.0 c.in-Given.is (search rules)) ∙ c.loop-stamp.invariant)

pub returns : goal.returns
returns c = sym (oldest_nowhere c.loop-stamp.left c.loop-stamp.rest.now (c.in_default.ensures).cases) ∙ c.loop-stamp.invariant
