use Rattle.std.proofs.Common.{sym, ap, ◌∙◌}
use Rattle.std.specs.Prelude.{unwrap_or, position, nat_lt}
use Rattle.alarm_report.proofs.WriterLemmas.{starting-def}
use Rattle.alarm_report.proofs.writers.starting_definition.Goals as goal

pub returns : goal.returns
returns c =
    c.unwrap_or.ensures ∙ (ap (λ o. unwrap_or o 0) c.first_above.ensures ∙ (ap (λ xs. unwrap_or (position (λ start. nat_lt c.args.word start) xs) 0) c.as_slice.ensures.value ∙ sym (starting-def c.args.code.now _ c.args.word (c.in_ok-starts.ensures).count (c.in_ok-starts.ensures).starts)))
