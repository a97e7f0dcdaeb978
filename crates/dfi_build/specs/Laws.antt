-- A source has one module or one first fault.
use Rattle.std.specs.Prelude.{◌≡◌, ℕ, List}
use Rattle.tac_ir.specs.Module.{Module}
use Rattle.dfi_build.specs.declared.fault.BuildFault.{BuildFault}
use Rattle.dfi_build.specs.Builds.{IsFaultOf, IsModuleOf}

-- it has one module at most
abbrev pub OneModule : Type 0
OneModule = (bytes : List ℕ) (m n : Module) → IsModuleOf bytes m → IsModuleOf bytes n → m ≡ n

-- and no fault where it has a module
abbrev pub NoFaultOfModule : Type 0
NoFaultOfModule = (bytes : List ℕ) (m : Module) (fault : BuildFault) → IsModuleOf bytes m → IsFaultOf bytes fault → ⊥

-- and one first fault at most
abbrev pub OneFault : Type 0
OneFault = (bytes : List ℕ) (f g : BuildFault) → IsFaultOf bytes f → IsFaultOf bytes g → f ≡ g
