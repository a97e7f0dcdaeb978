use Rattle.std.proofs.Common.{◌∙◌, [], ap}
use Rattle.std.specs.Prelude.{unwrap_or}
use Rattle.clap.proofs.WalkLemmas.{raw_values-rows}
use Rattle.clap.specs.Words.{found_of}
use Rattle.dfi_words.specs.tools.Found.{plain_id}
use Rattle.dfi_words.proofs.line.plain_words.Goals as goal

pub returns : goal.returns
returns c = ap (λ values. unwrap_or values []) (c.get_raw.ensures ∙ raw_values-rows (found_of c.args.line.now) plain_id)
