use Rattle.std.proofs.Common.{◌∙◌, ap, codes}
use Rattle.clap.specs.Words.{with_rule}
use Rattle.dfi_words.specs.tools.Found.{option_arg}
use Rattle.dfi_words.specs.Reads.{replay_options}
use Rattle.dfi_words.proofs.Parses.{replay_names}
use Rattle.dfi_words.proofs.line.replay_line.Goals as goal

pub returns : goal.returns
returns c =
    c.found.ensures (codes "dfi") replay_options
    (c.in_ok-command-2.ensures ∙ ap (λ app. with_rule app (option_arg (codes "budget"))) c.in_ok-command.ensures) (replay_names (codes "dfi"))
