use Rattle.std.proofs.Common.{◌≡◌, sym, ap, ◌∙◌, reverse}
use Rattle.std.specs.Prelude.{unwrap_or}
use Rattle.std.proofs.lemmas.Result.{IfOk-weaker}
use Rattle.tac_ir.specs.Layout.{globals_from}
use Rattle.tac_ir.specs.Last.{starting, last_write}
use Rattle.alarm_report.proofs.WriterLemmas.{last_write-def}
use Rattle.alarm_report.proofs.writers.last_writer.Goals as goal

pub returns-in-Some : goal.returns-in-Some
returns-in-Some c =
    let start = (starting c.args.code.now c.args.code.now.globals 0 globals_from c.args.word).def in
    ap (λ o. unwrap_or o start) c.in-Some.ensures ∙ sym (last_write-def c.args.code.now (reverse c.args.entries.now) c.args.word)

pub returns-in-None : goal.returns-in-None
returns-in-None c =
    let start = (starting c.args.code.now c.args.code.now.globals 0 globals_from c.args.word).def in
    let last = (last_write c.args.code.now (reverse c.args.entries.now) c.args.word).def in
    let same : start ≡ last = ap (λ o. unwrap_or o start) c.in-None.ensures ∙ sym (last_write-def c.args.code.now (reverse c.args.entries.now) c.args.word) in
    IfOk-weaker c.starting_definition.result (λ def. def ≡ start) (λ def. def ≡ last) (λ def is. is ∙ same) c.starting_definition.ensures
