use Rattle.std.proofs.Common.{[], ◌∷◌}
use Rattle.std.specs.Prelude.{codes}
use Rattle.std.specs.Fmt.{decimal}
use Rattle.line_writer.proofs.Lining.{joined, listed_line}
use Rattle.module_text.proofs.written.temp_row.Goals as goal

pub returns-clause-text : goal.returns-clause-text
returns-clause-text c =
    joined (codes "temp " ∷ decimal c.args.fun ∷ codes " " ∷ []) _ (decimal c.args.temp) _ _ _ _
    c.in_ok-write.ensures.bytes c.in_ok-numbers_to_end.ensures.text (listed_line decimal (decimal c.args.temp) c.args.nodes.now)
