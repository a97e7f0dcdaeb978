use Rattle.std.proofs.Common.{[], ◌++◌, ap, ◌∙◌}
use Rattle.std.specs.Fmt.{decimal}
use Rattle.std.specs.String.{string_bytes}
use Rattle.text_law.specs.ModuleText.{check_word}
use Rattle.line_writer.proofs.Lining.{joined, listed_line}
use Rattle.module_text.proofs.written.set.Goals as goal

pub returns-clause-text : goal.returns-clause-text
returns-clause-text c =
    let mid = c.in_ok-write.ensures.bytes ∙ ap (λ z. string_bytes c.args.text.now ++ z) c.check_word-word.ensures in
    joined [] _ (check_word c.args.removed) _ _ _ _ mid c.in_ok-numbers_to_end.ensures.text (listed_line decimal (check_word c.args.removed) c.args.members.now)
