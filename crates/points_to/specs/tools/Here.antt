-- Instructions of code of a good form.
use Rattle.std.specs.Prelude.{◌<◌, length, All}
use Rattle.dfi_base.specs.declared.numbers.Point.{Point}
use Rattle.tac_ir.specs.declared.code.Code.{Code}
use Rattle.tac_ir.specs.declared.code.Instr.{Instr}
use Rattle.tac_ir.specs.Counts.{temps_named, temps_of}
use Rattle.tac_ir.specs.GoodForm.{NamesExist}

-- what an instruction names exists, where it stands at this point
pub record IsHere (c : Code) (p : Point) (i : Instr) : Type 0 where
  pub fun : p.fun < length c.funs
  pub names : NamesExist c p.fun i
  pub temps : All (λ t. t < temps_of c p.fun) (temps_named i)
