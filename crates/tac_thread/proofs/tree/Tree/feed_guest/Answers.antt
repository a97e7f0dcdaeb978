use Rattle.std.proofs.Common.{◌≡◌, ◌∙◌, ap, Some}
use Rattle.tac_thread.specs.Threads.{life_in}
use Rattle.tac_thread.proofs.Trees.{stepped, not_ended, some_is, takes_reply, guest_is}
use Rattle.tac_thread.proofs.tree.Tree.feed_guest.Goals as goal

pub feed-requires-clause-guest : goal.feed-requires-clause-guest
feed-requires-clause-guest g c =
    let lived : Some c.in-Some.guest.now ≡ life_in c.args.self.now c.args.name = c.in-Some.ensures.value ∙ ap (λ t. life_in t c.args.name) c.self.view_is in
    guest_is g.D.Domain.meaning _ c.args.self.now _ _ lived c.requires.threads

pub feed-requires-clause-kind : goal.feed-requires-clause-kind
feed-requires-clause-kind g c =
    let lived : Some c.in-Some.guest.now ≡ life_in c.args.self.now c.args.name = c.in-Some.ensures.value ∙ ap (λ t. life_in t c.args.name) c.self.view_is in
    takes_reply g.D.Domain.meaning _ (life_in c.args.self.now) c.args.name _ _ lived c.requires.kind

pub returns-clause-fed : goal.returns-clause-fed
returns-clause-fed g c =
    let update = (c.get_mut.follows.holds c.feed.new.self).3 (some_is _ _ c.in-Some.ensures.value) in
    stepped g.D.Domain.meaning _ _ _ _ _ _ _ _ c.self.view_is c.in-Some.ensures.value update.0 c.in_ok-feed.ensures.runs c.in_ok-feed.ensures.guest

pub returns-clause-ended : goal.returns-clause-ended
returns-clause-ended g c =
    let update = (c.get_mut.follows.holds c.feed.new.self).3 (some_is _ _ c.in-Some.ensures.value) in
    λ no_. not_ended g.D.Domain.meaning _ _ _ _ _ update.0 (c.may_have_ended.ensures no_)
