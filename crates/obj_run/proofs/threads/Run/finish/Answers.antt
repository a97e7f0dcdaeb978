use Rattle.std.proofs.Common.{rules, ◌≡◌, drop, subst, sym}
use Rattle.obj_run.specs.Runs.{outputs_of}
use Rattle.obj_run.specs.tools.SoFar.{Run, IsSoFar, end_in}
use Rattle.obj_run.proofs.Finishing.{finished}
use Rattle.obj_run.proofs.threads.Run.finish.Goals as goal

pub returns : goal.returns
returns c = λ code input names so.
    let r : Run = record { tree = c.self.inside.tree; events = c.self.inside.events.items; opened = c.self.inside.opened; state = c.self.inside.state } in
    let events : c.from_vec.result ≡ drop c.self.inside.opened c.self.inside.events.items = search rules in
    let outputs : c.from_vec-2.result ≡ outputs_of c.from_vec.result = search rules in
    let end : c.end-end.result ≡ end_in r = search rules in
    finished code input names r (record { events = c.from_vec.result; outputs = c.from_vec-2.result; «end» = c.end-end.result }) events outputs end (subst (λ x. IsSoFar code input names x) (sym c.self.view_is) so)
