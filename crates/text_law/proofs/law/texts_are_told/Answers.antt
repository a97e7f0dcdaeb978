use Rattle.line_format.specs.tools.Answers.{read_all}
use Rattle.line_format.proofs.Firsts.{either}
use Rattle.text_law.specs.IsText.{IsText}
use Rattle.text_law.specs.tools.Whole.{whole}
use Rattle.text_law.proofs.Whole.{one_answer}
use Rattle.text_law.proofs.law.texts_are_told.Goals as goal

pub returns : goal.returns
returns c = λ bytes. either IsText bytes (read_all whole bytes) (one_answer bytes)
