use Rattle.dfi_base.specs.Told.{kind_of}
use Rattle.dfi_base.proofs.Told.{told_one}
use Rattle.dfi_base.proofs.Laws.{one_life}
use Rattle.dfi_base.proofs.law.lives_are_one.Goals as goal

pub returns : goal.returns
returns g c = λ p. one_life (kind_of p) (told_one p)
