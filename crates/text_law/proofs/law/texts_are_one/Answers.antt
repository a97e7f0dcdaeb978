use Rattle.line_format.proofs.Firsts.{one_fault, no_fault}
use Rattle.text_law.specs.IsText.{IsText}
use Rattle.text_law.proofs.Whole.{one_module}
use Rattle.text_law.proofs.law.texts_are_one.Goals as goal

pub returns : goal.returns
returns c = record {
  one_module = λ bytes m k t u. one_module bytes m k t u;
  sound = λ bytes m at t f. no_fault IsText bytes m at t f;
  one_fault = λ bytes at other f g. one_fault IsText bytes at other f g;
}
