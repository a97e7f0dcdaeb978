use Rattle.std.proofs.Common.{rules, ◌≡◌, reverse, Some, None, subst, sym}
use Rattle.obj_mem.specs.Valid.{answer_of}
use Rattle.tac_thread.specs.Threads.{life_in, next_in}
use Rattle.obj_run.specs.declared.threads.State.{State}
use Rattle.obj_run.specs.Objects.{object_meaning}
use Rattle.obj_run.specs.Asked.{event_of}
use Rattle.obj_run.specs.tools.SoFar.{Run, IsSoFar}
use Rattle.obj_run.proofs.Going.{goes_wrong}
use Rattle.obj_run.proofs.threads.Run.step.Goals as goal

pub returns-in-None-clause-steps : goal.returns-in-None-clause-steps
returns-in-None-clause-steps c = λ input names so.
    let code = c.args.c.now in
    let r : Run = record { tree = c.self.inside.tree; events = c.self.inside.events.items; opened = c.self.inside.opened; state = c.self.inside.state } in
    let state : c.self.inside.state ≡ State.Going = search rules in
    let value : c.self.inside.tree.done ≡ None = search rules in
    let wants : next_in object_meaning code (life_in c.self.inside.tree) c.args.name.0 ≡ Some c.in-Some.want = search rules in
    let event : event_of code c.in-Some.want ≡ Some c.in-Some-event_of.event = search rules in
    let answer : answer_of (reverse c.self.inside.events.items) c.args.name.0 c.in-Some-event_of.event ≡ None = search rules in
    goes_wrong code input names c.args.name.0 c.in-Some.want c.in-Some-event_of.event r state value wants event answer (subst (λ x. IsSoFar code input names x) (sym c.self.view_is) so)
