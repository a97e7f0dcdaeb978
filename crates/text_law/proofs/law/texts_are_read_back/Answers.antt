use Rattle.std.proofs.Common.{refl}
use Rattle.text_law.specs.ModuleText.{module_text}
use Rattle.text_law.proofs.Whole.{one_module}
use Rattle.text_law.proofs.law.texts_are_read_back.Goals as goal

pub returns : goal.returns
returns c = λ m k i t. one_module (module_text m) k m t (i, refl)
