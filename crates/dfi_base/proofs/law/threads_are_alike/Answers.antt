use Rattle.std.specs.Prelude.{◌≡◌, true}
use Rattle.dfi_base.specs.Told.{kind_of}
use Rattle.dfi_base.proofs.Laws.{alike}
use Rattle.dfi_base.proofs.law.threads_are_alike.Goals as goal

pub returns : goal.returns
returns g c = λ p q same fits r s0 t0 is start. alike (kind_of p) (kind_of q) (λ s t. same s t ≡ true) (λ h w e. fits h w e ≡ true) r s0 t0 is start
