use Rattle.line_format.proofs.Told.{number_told}
use Rattle.line_format.proofs.law.numbers_are_told.Goals as goal

pub returns : goal.returns
returns c = λ end low high plain order small bytes. number_told end low high order small bytes plain
