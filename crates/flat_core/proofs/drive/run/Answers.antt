use Rattle.std.proofs.Common.{Ok, sym, subst}
use Rattle.flat_core.specs.Runs.{Gives, HasGone, GoesByLeast}
use Rattle.flat_core.proofs.Turning.{gives_least, gives_along}
use Rattle.flat_core.proofs.drive.run.Goals.{in-Least+in_ok-least-in-Least, in-Given+in_ok-along-in-Given}
use Rattle.flat_core.proofs.drive.run.Goals as goal

pub returns : goal.returns
returns c = elim c.match-turns.branch [
  | in-Least+in_ok-least-in-Least w ↦
      (let m = c.args.m.now in
      let input = c.args.input.now in
      let budget = c.args.budget in
      let gone = subst (GoesByLeast m input budget) (sym w.core-is) (w.in_ok-least-in-Least.ensures input c.in_ok-core.ensures.core) in
      subst (λ t. Gives m input budget t (Ok c.finish.result)) (sym w.in-Least.is) (gives_least m input budget c.match-turns.core c.finish.result c.requires.can_run gone c.finish.ensures))
  | in-Given+in_ok-along-in-Given w ↦
      (let m = c.args.m.now in
      let input = c.args.input.now in
      let budget = c.args.budget in
      let gone = subst (HasGone m input budget w.deref.result.now) (sym w.core-is) (w.in_ok-along-in-Given.ensures input c.in_ok-core.ensures.core) in
      let named = subst (λ l. HasGone m input budget l c.match-turns.core) w.deref.ensures.value gone in
      subst (λ t. Gives m input budget t (Ok c.finish.result)) (sym w.in-Given.is) (gives_along m input budget w.in-Given.names.items c.match-turns.core c.finish.result c.requires.can_run named c.finish.ensures))
]
