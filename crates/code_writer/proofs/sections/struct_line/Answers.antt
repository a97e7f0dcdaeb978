use Rattle.std.proofs.Common.{[]}
use Rattle.std.specs.Prelude.{codes}
use Rattle.std.specs.Fmt.{decimal}
use Rattle.line_writer.proofs.Lining.{joined, listed_line}
use Rattle.code_writer.proofs.sections.struct_line.Goals as goal

pub returns-clause-text : goal.returns-clause-text
returns-clause-text c = joined [] _ (codes "struct") _ _ _ _ c.in_ok-write.ensures.bytes c.in_ok-numbers_to_end.ensures.text (listed_line decimal (codes "struct") c.args.parts.now)
