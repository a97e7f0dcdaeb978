-- The modules of the programs have code of good form.
use Rattle.std.proofs.Common.{◌≡◌, true, sym, subst, Ok, Err, IfOk}
use Rattle.std.specs.Prelude.{Result}
use Rattle.std.specs.declared.alloc.AllocError.{AllocError}
use Rattle.tac_ir.specs.Module.{Module}
use Rattle.tac_ir.specs.GoodForm.{GoodForm}
use Rattle.tac_ir.proofs.FormTest.{form_test, form_good}

-- what is equal to a module with such code
pub good_module : (known : Module) → form_test known.code ≡ true → (r : Result Module AllocError) → IfOk r (λ m. m ≡ known) → IfOk r (λ m. GoodForm m.code)
good_module known passes (Ok m) is = subst (λ m. GoodForm m.code) (sym is) (form_good known.code passes)
good_module known passes (Err e) is = tt
