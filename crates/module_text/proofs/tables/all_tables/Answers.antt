use Rattle.std.proofs.Common.{rules, arith}
use Rattle.std.specs.Prelude.{codes}
use Rattle.std.proofs.lemmas.Grind.{common_steps}
use Rattle.text_law.specs.tools.Instrs.{pair}
use Rattle.text_law.specs.tools.Parts.{section, class, set}
use Rattle.text_law.specs.tools.Whole.{points, reach}
use Rattle.module_text.proofs.Joining.{second_fails, both_read}
use Rattle.module_text.proofs.tables.all_tables.Goals as goal

pub returns-in_err-findings-clause-answer : goal.returns-in_err-findings-clause-answer
returns-in_err-findings-clause-answer c =
    let h = second_fails (section (codes "definitions ") class) (pair (section (codes "reads ") set) (pair points reach)) _ _ _ _ c.in_ok-classes.ensures c.in_err-findings.ensures.answer in
    first_of (search rules, grind (arith, common_steps))

pub returns-clause-answer : goal.returns-clause-answer
returns-clause-answer c =
    both_read (section (codes "definitions ") class) (pair (section (codes "reads ") set) (pair points reach)) _ _ _ _ _ c.in_ok-classes.ensures c.in_ok-findings.ensures.answer
