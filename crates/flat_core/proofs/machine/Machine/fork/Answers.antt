use Rattle.std.proofs.Common.{◌≡◌, ◌/◌, sym, ◌∙◌, ap, subst, length}
use Rattle.std.specs.Prelude.{MatchOption}
use Rattle.path_law.specs.Wants.{room_in}
use Rattle.path_law.specs.Alive.{AreShares}
use Rattle.flat_core.proofs.Branches.{takes_shares, forked}
use Rattle.flat_core.proofs.machine.Machine.fork.Goals as goal

pub fork-requires-clause-kind : goal.fork-requires-clause-kind
fork-requires-clause-kind c =
    let s = c.args.asked.stack in
    let k = c.args.branches in
    let made = subst (λ o. MatchOption o (room_in s / k ≡ 0) (λ v. (length v.items ≡ k) × AreShares s v.items)) c.in-Some.is c.in_ok-shares.ensures in
    let here = subst (λ l. (length l ≡ k) × AreShares s l) (sym c.deref.ensures.value) made in
    takes_shares c.args.m.now c.args.self.now.tree c.args.name.0 k c.args.asked c.deref.result.now c.m.inside.code (ap (λ m. m.code) c.m.view_is) ((c.requires.serves.2).threads).tree c.requires.asks c.requires.op
    here.0 here.1

pub returns-in_ok-fork-in-Some-clause-ok : goal.returns-in_ok-fork-in-Some-clause-ok
returns-in_ok-fork-in-Some-clause-ok c = λ input h serves.
    let s = c.args.asked.stack in
    let k = c.args.branches in
    let made = subst (λ o. MatchOption o (room_in s / k ≡ 0) (λ v. (length v.items ≡ k) × AreShares s v.items)) c.in-Some.is c.in_ok-shares.ensures in
    let here = subst (λ l. (length l ≡ k) × AreShares s l) (sym c.deref.ensures.value) made in
    forked c.args.m.now input h c.args.self.now.tree c.fork.new.self c.args.self.now.store c.args.name.0 k c.args.asked c.deref.result.now c.m.inside.code (ap (λ m. m.code) c.m.view_is)
    c.requires.can_run serves c.requires.asks c.requires.op (sym c.is_deep.ensures.deep ∙ c.if-is_deep.false) here.0 here.1 (c.in_ok-fork-in-Some.ensures).forks (c.in_ok-fork-in-Some.ensures).tree
