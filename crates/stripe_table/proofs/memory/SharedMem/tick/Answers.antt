use Rattle.std.proofs.Common.{ap, ◌∙◌}
use Rattle.atomic_table.specs.Table.{Me}
use Rattle.tac_ir.specs.Path.{stops}
use Rattle.stripe_rule.specs.declared.content.Content.{Content}
use Rattle.stripe_rule.specs.declared.view.View.{View}
use Rattle.stripe_table.specs.Calls.{settled}
use Rattle.stripe_table.proofs.Pushing.{older}
use Rattle.stripe_table.proofs.memory.SharedMem.tick.Goals as goal

pub push-requires-clause-newest : goal.push-requires-clause-newest
push-requires-clause-newest c = older c.in_ok-ticket.ticket c.args.pass.now.log.items c.args.pass.now.seat.me.0.log c.args.pass.now.logged c.in_ok-ticket.ensures.ok.1

pub returns-clause-ok : goal.returns-clause-ok
returns-clause-ok c =
    let ok = c.in_ok-ticket.ensures.ok in record {
      going = c.in_ok-ticket.ensures.going;
      ticket = c.in_ok-ticket.ticket;
      logged = c.push.ensures;
      greatest = older c.in_ok-ticket.ticket c.args.pass.now.log.items c.args.pass.now.seat.me.0.log c.args.pass.now.logged ok.1;
      above = ok.2;
      early = ok.3;
      view = ap (λ (m : Me Content View). m.0) c.settle.ensures.settled ∙ ap (λ (m : Me Content View). settled (stops c.args.answer) m.0) ok.0;
    }
