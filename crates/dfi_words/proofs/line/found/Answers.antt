use Rattle.std.proofs.Common.{ap, ◌∙◌, map, string_bytes}
use Rattle.std.proofs.lemmas.Result.{err_from_is_err_and}
use Rattle.clap.specs.Words.{app_of, is_simple_and_free, kind_of}
use Rattle.dfi_words.proofs.Parses.{found_ok, found_err, words_valid}
use Rattle.dfi_words.proofs.line.found.Goals as goal

pub returns-in_err-try_get_matches_from : goal.returns-in_err-try_get_matches_from
returns-in_err-try_get_matches_from c name known is names =
    let p = err_from_is_err_and c.from_residual.result c.from_residual.ensures.1 in
    rw (p.1, p.2)
    (found_err (app_of c.args.command) name known (map string_bytes c.args.words.now) (kind_of c.in_err-try_get_matches_from.field-0.0) is names
    (c.in_err-try_get_matches_from.ensures.kinds (ap is_simple_and_free is ∙ names.simple)))

pub returns : goal.returns
returns c name known is names =
    found_ok (app_of c.args.command) name known (map string_bytes c.args.words.now) c.in_ok-try_get_matches_from.field-0 is names (words_valid c.args.words.now)
    (c.in_ok-try_get_matches_from.ensures.kinds (ap is_simple_and_free is ∙ names.simple)) c.in_ok-try_get_matches_from.ensures.matches
