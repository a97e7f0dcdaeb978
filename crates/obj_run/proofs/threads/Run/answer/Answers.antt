use Rattle.std.proofs.Common.{subst, sym}
use Rattle.tac_thread.specs.Threads.{life_in, Takes, IsTree}
use Rattle.obj_run.specs.Objects.{object_meaning}
use Rattle.obj_run.specs.tools.SoFar.{Run}
use Rattle.obj_run.proofs.Going.{takes, not_zero, not_fork}
use Rattle.obj_run.proofs.threads.Run.answer.Goals as goal

pub feed-requires : goal.feed-requires
feed-requires c =
    let code = c.args.c.now in
    record {
      form = c.requires.form;
      laid = c.requires.laid;
      tree = subst (λ (r : Run). IsTree object_meaning code (life_in r.tree)) (sym c.self-in_default.view_is) c.requires.tree;
      kind = subst (λ (r : Run). Takes object_meaning code (life_in r.tree) c.args.name.0 c.reply_of.result) (sym c.self-in_default.view_is)
          (subst (λ x. Takes object_meaning code (life_in c.args.self.now.tree) c.args.name.0 x) (sym c.reply_of.ensures)
          (takes code c.args.self.now c.args.name.0 c.args.event c.args.answer c.requires.asks (not_zero c.args.event c.in_default.not-Zero) (not_fork c.args.event c.in_default.not-Fork)));
    }
