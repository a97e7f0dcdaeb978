use Rattle.std.proofs.Common.{◌≡◌, Some, None, reverse, sym, ◌∙◌, subst}
use Rattle.std.proofs.lemmas.Int.{to_z-of_z}
use mir.Syntax.{w64}
use Rattle.obj_mem.specs.Written.{last_value}
use Rattle.obj_mem.proofs.Words.{value_found, value_skipped, value_nowhere}
use Rattle.obj_mem.proofs.word.last_value.Goals as goal

pub returns-in-Some-written : goal.returns-in-Some-written
returns-in-Some-written c =
    subst (λ off. Some c.in-Some-written.v ≡ last_value c.args.obj off (reverse c.args.events.now)) (to_z-of_z w64 c.args.off c.ranges.off)
    (sym (value_found c.args.obj _ c.loop-stamp.rest.now c.in-Some.earlier.now c.in-Some.stamp.now c.in-Some-written.v (c.in-Some.ensures).cases.0 c.in-Some-written.ensures) ∙ c.loop-stamp.invariant)

pub loop-stamp-preserved : goal.loop-stamp-preserved
loop-stamp-preserved c =
    sym (value_skipped c.args.obj _ c.loop-stamp.rest.now c.in-Some.earlier.now c.in-Some.stamp.now (c.in-Some.ensures).cases.0 c.in-None.ensures) ∙ c.loop-stamp.invariant

pub returns : goal.returns
returns c =
    subst (λ off. None ≡ last_value c.args.obj off (reverse c.args.events.now)) (to_z-of_z w64 c.args.off c.ranges.off)
    (sym (value_nowhere c.args.obj _ c.loop-stamp.rest.now (c.in_default.ensures).cases) ∙ c.loop-stamp.invariant)
