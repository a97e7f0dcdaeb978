use Rattle.std.proofs.Common.{◌∙◌, ap, codes}
use Rattle.clap.specs.Words.{with_rule}
use Rattle.dfi_words.specs.tools.Found.{option_arg}
use Rattle.dfi_words.specs.Reads.{run_options}
use Rattle.dfi_words.proofs.Parses.{run_names}
use Rattle.dfi_words.proofs.line.run_line.Goals as goal

pub returns : goal.returns
returns c =
    let one = c.in_ok-command-2.ensures ∙ ap (λ app. with_rule app (option_arg (codes "workers"))) c.in_ok-command.ensures in
    let two = c.in_ok-command-3.ensures ∙ ap (λ app. with_rule app (option_arg (codes "stripes"))) one in
    let three = c.in_ok-command-4.ensures ∙ ap (λ app. with_rule app (option_arg (codes "budget"))) two in
    c.found.ensures (codes "dfi") run_options three (run_names (codes "dfi"))
