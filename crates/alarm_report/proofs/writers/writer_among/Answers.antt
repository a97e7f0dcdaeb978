use Rattle.std.proofs.Common.{sym, ◌∙◌}
use Rattle.alarm_report.proofs.WriterLemmas.{writer_in-taken, writer_in-skipped, writer_in-none}
use Rattle.alarm_report.proofs.writers.writer_among.Goals as goal

pub returns-in-Some-definition_at : goal.returns-in-Some-definition_at
returns-in-Some-definition_at c =
    sym (writer_in-taken c.loop-entry.rest.now c.in-Some.before.now c.in-Some.entry.now c.args.word _ (c.in-Some.ensures).cases.0 c.in-Some-definition_at.ensures) ∙ c.loop-entry.invariant

pub loop-entry-preserved : goal.loop-entry-preserved
loop-entry-preserved c =
    sym (writer_in-skipped c.loop-entry.rest.now c.in-Some.before.now c.in-Some.entry.now c.args.word (c.in-Some.ensures).cases.0 c.in-None.ensures) ∙ c.loop-entry.invariant

pub returns : goal.returns
returns c = sym (writer_in-none c.loop-entry.rest.now c.args.word (c.in_default.ensures).cases) ∙ c.loop-entry.invariant
