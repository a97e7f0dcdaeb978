use Rattle.std.proofs.Common.{◌≡◌, ◌∙◌, ap, Some}
use Rattle.tac_thread.specs.Threads.{life_in}
use Rattle.tac_thread.proofs.Trees.{guest_is}
use Rattle.tac_thread.proofs.tree.Tree.ended.Goals as goal

pub want-requires-clause-guest : goal.want-requires-clause-guest
want-requires-clause-guest g c =
    let lived : Some c.in-Some.guest.now ≡ life_in c.args.self.now c.args.name = c.in-Some.ensures.value ∙ ap (λ t. life_in t c.args.name) c.self.view_is in
    guest_is g.D.Domain.meaning _ c.args.self.now _ _ lived c.requires.threads
