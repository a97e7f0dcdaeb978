use Rattle.std.proofs.Common.{subst, sym, ◌++◌, ◌∷◌, []}
use Rattle.tac_thread.specs.Threads.{life_in, IsTree}
use Rattle.obj_run.specs.Objects.{object_meaning}
use Rattle.obj_run.specs.tools.SoFar.{Run, IsSoFar, Answers}
use Rattle.obj_run.proofs.Going.{goes_on}
use Rattle.obj_run.proofs.threads.Run.take.Goals as goal

pub returns-clause-steps : goal.returns-clause-steps
returns-clause-steps c = λ input names so.
    let code = c.args.c.now in
    let n = c.args.name.0 in
    let e = c.args.event in
    let a = c.args.answer in
    let old = c.args.self.now in
    let new : Run = record { tree = c.self.inside.tree; events = c.self.inside.events.items; opened = c.self.inside.opened; state = c.self.inside.state } in
    let after = subst (λ (r : Run). IsTree object_meaning code (life_in r.tree)) (sym c.self.view_is) (c.in_ok-answer.ensures).tree in
    let answers = subst (λ r. Answers code old n e a r) (sym c.self.view_is) (c.in_ok-answer.ensures).answers in
    subst (λ xs. IsSoFar code input (names ++ n ∷ []) (record new { events = xs })) (sym (c.in_ok-push.ensures).items)
    (goes_on code input names n e a old new c.requires.form c.requires.tree after c.requires.asks answers so)
