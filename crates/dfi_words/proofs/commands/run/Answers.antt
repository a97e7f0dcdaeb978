use Rattle.std.proofs.Common.{map, drop, codes, string_bytes}
use Rattle.std.proofs.lemmas.Result.{err_from_is_err_and}
use Rattle.dfi_words.specs.Reads.{Asks}
use Rattle.dfi_words.specs.tools.Jobs.{words_in}
use Rattle.dfi_words.proofs.Runs.{run_answer, run_found, run_line_err, settings_err}
use Rattle.dfi_words.proofs.commands.run.Goals as goal

pub returns-in_err-line : goal.returns-in_err-line
returns-in_err-line c =
    let p = err_from_is_err_and c.from_residual.result c.from_residual.ensures.1 in
    rw (p.1, p.2) (run_line_err (map string_bytes c.args.words.now) c.in_err-line.field-0.0 c.in_err-line.ensures)

pub returns-in_err-how : goal.returns-in_err-how
returns-in_err-how c =
    let p = err_from_is_err_and c.from_residual-in_err-how.result c.from_residual-in_err-how.ensures.1 in
    let words = map string_bytes c.args.words.now in
    rw (p.1, p.2)
    (settings_err (Asks (codes "run") (drop 1 words)) c.in_ok-line.line c.in_err-how.field-0.0 (run_found words c.in_ok-line.line c.in_ok-line.ensures) c.in_err-how.ensures)

pub returns : goal.returns
returns c =
    run_answer (map string_bytes c.args.words.now) c.in_ok-line.line c.in_ok-line.ensures (words_in c.plain_words.result) c.in_ok-how.how.workers c.in_ok-how.how.stripes c.in_ok-how.how.budget
    c.run_job.result c.plain_words.ensures c.in_ok-how.ensures c.run_job.ensures
