use Rattle.std.proofs.Common.{map, drop, codes, string_bytes, Err}
use Rattle.std.proofs.lemmas.Result.{err_from_is_err_and}
use Rattle.dfi_words.proofs.Runs.{build_err, by_word, check_err, gen_err, sets_err}
use Rattle.dfi_words.proofs.read_words.Goals as goal

pub returns-in_err-one_file-in-build : goal.returns-in_err-one_file-in-build
returns-in_err-one_file-in-build c =
    let p = err_from_is_err_and c.from_residual.result c.from_residual.ensures.1 in
    let f = c.in_err-one_file-in-build.field-0.0 in
    rw (p.1, p.2)
    (by_word c.args.words.now c.in-Some.command.now c.as_str.result.now (codes "build") (Err f) c.in-Some.ensures.value c.as_str.ensures.value c.in-build.is
    (build_err (drop 1 (map string_bytes c.args.words.now)) f c.in_err-one_file-in-build.ensures))

pub returns-in_err-one_file-in-check : goal.returns-in_err-one_file-in-check
returns-in_err-one_file-in-check c =
    let p = err_from_is_err_and c.from_residual-in_err-one_file-in-check.result c.from_residual-in_err-one_file-in-check.ensures.1 in
    let f = c.in_err-one_file-in-check.field-0.0 in
    rw (p.1, p.2)
    (by_word c.args.words.now c.in-Some.command.now c.as_str.result.now (codes "check") (Err f) c.in-Some.ensures.value c.as_str.ensures.value c.in-check.is
    (check_err (drop 1 (map string_bytes c.args.words.now)) f c.in_err-one_file-in-check.ensures))

pub returns-in_err-one_file-in-sets : goal.returns-in_err-one_file-in-sets
returns-in_err-one_file-in-sets c =
    let p = err_from_is_err_and c.from_residual-in_err-one_file-in-sets.result c.from_residual-in_err-one_file-in-sets.ensures.1 in
    let f = c.in_err-one_file-in-sets.field-0.0 in
    rw (p.1, p.2)
    (by_word c.args.words.now c.in-Some.command.now c.as_str.result.now (codes "sets") (Err f) c.in-Some.ensures.value c.as_str.ensures.value c.in-sets.is
    (sets_err (drop 1 (map string_bytes c.args.words.now)) f c.in_err-one_file-in-sets.ensures))

pub returns-in_err-one_number-in-gen : goal.returns-in_err-one_number-in-gen
returns-in_err-one_number-in-gen c =
    let p = err_from_is_err_and c.from_residual-in_err-one_number-in-gen.result c.from_residual-in_err-one_number-in-gen.ensures.1 in
    let f = c.in_err-one_number-in-gen.field-0.0 in
    rw (p.1, p.2)
    (by_word c.args.words.now c.in-Some.command.now c.as_str.result.now (codes "gen") (Err f) c.in-Some.ensures.value c.as_str.ensures.value c.in-gen.is
    (gen_err (drop 1 (map string_bytes c.args.words.now)) f c.in_err-one_number-in-gen.ensures))

pub returns-in-replay : goal.returns-in-replay
returns-in-replay c =
    by_word c.args.words.now c.in-Some.command.now c.as_str.result.now (codes "replay") c.replay.result c.in-Some.ensures.value c.as_str.ensures.value c.in-replay.is c.replay.ensures

pub returns-in-run : goal.returns-in-run
returns-in-run c =
    by_word c.args.words.now c.in-Some.command.now c.as_str.result.now (codes "run") c.run.result c.in-Some.ensures.value c.as_str.ensures.value c.in-run.is c.run.ensures

pub returns-in-trial : goal.returns-in-trial
returns-in-trial c =
    by_word c.args.words.now c.in-Some.command.now c.as_str.result.now (codes "trial") c.trial.result c.in-Some.ensures.value c.as_str.ensures.value c.in-trial.is c.trial.ensures
