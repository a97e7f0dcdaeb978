use Rattle.std.proofs.Common.{Ok, ap, arith}
use Rattle.c_types.proofs.ScopesLaws.{closing_goes_on, closing_at}
use Rattle.c_types.proofs.scopes.Scopes.close.Goals as goal

pub loop-self-preserved-in-Some : goal.loop-self-preserved-in-Some
loop-self-preserved-in-Some c =
    closing_goes_on c.start-start.result _ c.loop-self.self.bindings c.pop.new.self c.loop-self.self.starts c.loop-self.self.newest c.put.new.self c.in-Some.last
    c.in-Some.ensures (omega (arith, c.loop-self-test.true, c.len.ensures)) c.in_ok-put.ensures c.loop-self.invariant

pub returns : goal.returns
returns c =
    ap (λ s. Ok (tt, s))
    (closing_at c.args.self.now _ c.loop-self.self c.start-start.result c.start-start.ensures
    (ap (λ ns. record { bindings = c.args.self.now.bindings; starts = ns; newest = c.args.self.now.newest }) c.drop_last.ensures)
    (omega (arith, c.loop-self-test.false, c.len.ensures)) c.loop-self.invariant)
