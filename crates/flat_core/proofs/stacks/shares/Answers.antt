use Rattle.std.proofs.Common.{sym, ◌∙◌}
use Rattle.flat_core.proofs.Branches.{shares_more, shares_done}
use Rattle.flat_core.proofs.stacks.shares.Goals as goal

pub returns : goal.returns
returns c = shares_done c.args.stack.now c.args.n c.loop-i.i c.loop-i.stacks.items c.loop-i.invariant c.loop-i.auto.i-end c.loop-i-test.false

pub loop-i-preserved : goal.loop-i-preserved
loop-i-preserved c =
    shares_more c.args.stack.now c.args.n c.loop-i.i c.loop-i.stacks.items c.push.new.self.items c.in-Some.share c.loop-i.invariant (c.in_ok-push.ensures).items (sym c.share.ensures ∙ c.in-Some.is)
