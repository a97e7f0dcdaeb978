use Rattle.std.proofs.Common.{map, drop, codes, string_bytes}
use Rattle.std.proofs.lemmas.Result.{err_from_is_err_and}
use Rattle.dfi_words.specs.Reads.{Asks}
use Rattle.dfi_words.specs.tools.Jobs.{words_in}
use Rattle.dfi_words.proofs.Runs.{trial_found, trial_line_err, trial_number_err, settings_err}
use Rattle.dfi_words.proofs.commands.trial.Goals as goal

pub returns-in_err-line : goal.returns-in_err-line
returns-in_err-line c =
    let p = err_from_is_err_and c.from_residual.result c.from_residual.ensures.1 in
    rw (p.1, p.2) (trial_line_err (map string_bytes c.args.words.now) c.in_err-line.field-0.0 c.in_err-line.ensures)

pub returns-in_err-n : goal.returns-in_err-n
returns-in_err-n c =
    let p = err_from_is_err_and c.from_residual-in_err-n.result c.from_residual-in_err-n.ensures.1 in
    rw (p.1, p.2)
    (trial_number_err (map string_bytes c.args.words.now) c.in_ok-line.line c.in_ok-line.ensures (words_in c.plain_words.result) c.plain_words.ensures c.in_err-n.field-0.0 c.in_err-n.ensures)

pub returns-in_err-how : goal.returns-in_err-how
returns-in_err-how c =
    let p = err_from_is_err_and c.from_residual-in_err-how.result c.from_residual-in_err-how.ensures.1 in
    let words = map string_bytes c.args.words.now in
    rw (p.1, p.2)
    (settings_err (Asks (codes "trial") (drop 1 words)) c.in_ok-line.line c.in_err-how.field-0.0 (trial_found words c.in_ok-line.line c.in_ok-line.ensures) c.in_err-how.ensures)
