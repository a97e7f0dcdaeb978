use Rattle.std.specs.Prelude.{◌≡◌, true}
use Rattle.dfi_base.specs.Told.{kind_of}
use Rattle.dfi_base.proofs.Laws.{grown_join}
use Rattle.dfi_base.proofs.law.join_is_grown.Goals as goal

pub returns : goal.returns
returns g c = λ p fits. grown_join (kind_of p) (λ w e. fits w e ≡ true)
