-- What lowering answers.
use Rattle.std.specs.Prelude.{◌≡◌, ◌≢◌, Result, Ok, Err, Some, None}
use Rattle.c_typed.specs.Typed.{Typed}
use Rattle.tac_ir.specs.declared.code.Code.{Code}
use Rattle.tac_ir.specs.GoodForm.{GoodForm}
use Rattle.tac_lower.specs.declared.fault.LowerFault.{LowerFault}
use Rattle.tac_lower.specs.CodeOf.{code_of}
use Rattle.tac_lower.specs.Limits.{first_passed}

-- the code of a program that is within the limits
pub record IsLowered (t : Typed) (c : Code) : Type 0 where
  pub code : c ≡ code_of t
  pub within : first_passed (code_of t) ≡ None
  pub good : GoodForm c

-- its code, or the first limit that the code passes; want of memory is free
abbrev pub Lowers : Typed → Result Code LowerFault → Type 0
Lowers t (Ok c) = IsLowered t c
Lowers t (Err e) = e ≢ LowerFault.Memory → first_passed (code_of t) ≡ Some e
