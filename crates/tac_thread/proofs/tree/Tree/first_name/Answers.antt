use Rattle.std.proofs.Common.{Some, sym, ◌∙◌, subst}
use Rattle.tac_thread.specs.Threads.{life_in, IsLeastOf}
use Rattle.tac_thread.proofs.Trees.{first_runs}
use Rattle.tac_thread.proofs.tree.Tree.first_name.Goals as goal

pub returns-in-Some : goal.returns-in-Some
returns-in-Some g c =
    subst (λ t. IsLeastOf (life_in t) (Some c.in-Some.name.now)) c.self.view_is
    (first_runs c.self.inside.guests.entries _ c.in-Some.guest.now c.in-Some.ensures.first (sym c.is_waiting.ensures ∙ c.if-not-is_waiting.true) c.in-Some.ensures.all_from)
