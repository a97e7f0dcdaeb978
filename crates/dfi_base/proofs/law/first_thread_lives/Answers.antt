use Rattle.std.specs.Prelude.{◌≡◌, true}
use Rattle.dfi_base.specs.Told.{kind_of}
use Rattle.dfi_base.proofs.Told.{told_one}
use Rattle.dfi_base.proofs.Laws.{living_first}
use Rattle.dfi_base.proofs.law.first_thread_lives.Goals as goal

pub returns : goal.returns
returns g c = λ p fits. living_first (kind_of p) (λ h w e. fits h w e ≡ true) (told_one p)
