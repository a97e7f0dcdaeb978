use Rattle.std.proofs.Common.{ap, sym, ◌∙◌, arith}
use Rattle.c_types.specs.tools.Tables.{put_in}
use Rattle.c_types.proofs.TableLaws.{put_within, put_behind}
use Rattle.c_types.proofs.table.Table.put.Goals as goal

pub loop-self-preserved : goal.loop-self-preserved
loop-self-preserved c =
    ap (λ es. put_in c.args.name c.args.entry es) c.in_ok-push.ensures.ok
    ∙ put_behind c.loop-self.self.entries c.args.name c.args.entry (omega (arith, c.loop-self-test.true, c.len.ensures)) ∙ c.loop-self.invariant

pub returns : goal.returns
returns c =
    ap (λ es. record { entries = es })
    (c.set.ensures ∙ sym (put_within c.loop-self.self.entries c.args.name c.args.entry (omega (arith, c.loop-self-test.false, c.len.ensures))) ∙ c.loop-self.invariant)
