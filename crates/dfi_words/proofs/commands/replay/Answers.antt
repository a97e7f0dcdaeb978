use Rattle.std.proofs.Common.{map, string_bytes}
use Rattle.std.proofs.lemmas.Result.{err_from_is_err_and}
use Rattle.dfi_words.specs.tools.Jobs.{words_in}
use Rattle.dfi_words.proofs.Jobs.{replay_answer, replay_budget_err, replay_line_err}
use Rattle.dfi_words.proofs.commands.replay.Goals as goal

pub returns-in_err-line : goal.returns-in_err-line
returns-in_err-line c =
    let p = err_from_is_err_and c.from_residual.result c.from_residual.ensures.1 in
    rw (p.1, p.2) (replay_line_err (map string_bytes c.args.words.now) c.in_err-line.field-0.0 c.in_err-line.ensures)

pub returns-in_err-budget : goal.returns-in_err-budget
returns-in_err-budget c =
    let p = err_from_is_err_and c.from_residual-in_err-budget.result c.from_residual-in_err-budget.ensures.1 in
    rw (p.1, p.2) (replay_budget_err (map string_bytes c.args.words.now) c.in_ok-line.line c.in_err-budget.field-0.0 c.in_ok-line.ensures c.in_err-budget.ensures)

pub returns : goal.returns
returns c =
    replay_answer (map string_bytes c.args.words.now) c.in_ok-line.line (words_in c.plain_words.result) c.in_ok-budget.budget c.replay_job.result c.in_ok-line.ensures
    c.plain_words.ensures c.in_ok-budget.ensures c.replay_job.ensures
