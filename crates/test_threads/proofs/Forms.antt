-- The modules of the programs have code of good form.
use Rattle.std.proofs.Common.{◌≡◌, true, sym, subst, Ok, Err, IfOk}
use Rattle.std.specs.Prelude.{Result}
use Rattle.std.specs.declared.alloc.AllocError.{AllocError}
use Rattle.tac_ir.specs.declared.code.Code.{Code}
use Rattle.tac_ir.specs.Module.{Module}
use Rattle.tac_ir.specs.GoodForm.{GoodForm}
use Rattle.tac_ir.proofs.FormTest.{form_test, form_good}

-- what is equal to a module with such code
pub good_module : (known : Module) → form_test known.code ≡ true → (r : Result Module AllocError) → IfOk r (λ m. m ≡ known) → IfOk r (λ m. GoodForm m.code)
good_module known passes (Ok m) is = subst (λ m. GoodForm m.code) (sym is) (form_good known.code passes)
good_module known passes (Err e) is = tt

-- what is equal to code that has a property
pub known_code : (P : Code → Type 0) (known : Code) → P known → (r : Result Code AllocError) → IfOk r (λ c. c ≡ known) → IfOk r P
known_code P known has (Ok c) is = subst P (sym is) has
known_code P known has (Err e) is = tt
