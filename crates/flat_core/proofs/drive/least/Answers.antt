use Rattle.std.proofs.Common.{[], ◌∷◌, length, arith, ap, subst}
use Rattle.std.specs.Prelude.{option_map}
use Rattle.std.proofs.lemmas.List.{length-append}
use Rattle.tac_thread.specs.Threads.{name_number}
use Rattle.flat_core.specs.Stands.{history_of}
use Rattle.flat_core.specs.tools.Ends.{IsLeastOf}
use Rattle.flat_core.proofs.Turning.{nothing_least, least_more}
use Rattle.flat_core.proofs.drive.least.Goals as goal

pub loop-init : goal.loop-init
loop-init c = λ input is. (nothing_least c.args.m.now input c.args.core.now c.requires.first is, ap length c.requires.first)

pub loop-preserved : goal.loop-preserved
loop-preserved c = λ input is.
    let m = c.args.m.now in
    let gone = c.loop.invariant input is in
    let told = subst (λ o. IsLeastOf m (history_of c.loop.core) (option_map name_number o)) c.in-Some.is (c.least.ensures m input gone.0.is) in
    let step = c.in-Ok.ensures input gone.0.is in (
      least_more m input c.in-Some.name.0 c.loop.core c.step.new.self c.in-Ok.field-0 gone.0 told step,
      (let more = ap length step.entries in omega (arith, more, length-append c.loop.core.entries (c.in-Ok.field-0 ∷ []), gone.1)),
    )
