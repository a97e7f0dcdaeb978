-- What a check says of a program: it breaks no rule, and is this typed program; or this rule is the first that it breaks.
use Rattle.std.specs.Prelude.{◌≡◌, ◌≢◌, [], Result, Ok, Err}
use Rattle.c_ast.specs.Ast.{Ast, IsBuilt}
use Rattle.c_typed.specs.declared.fault.TypeFault.{TypeFault}
use Rattle.c_typed.specs.Faults.{Fault, IsFirst, told}
use Rattle.c_typed.specs.Typed.{Typed}
use Rattle.c_typed.specs.Programs.{faults_of, typed_of}

-- the typed program of a program that breaks no rule
pub record IsTyped (t : Typed) : Type 0 where
  pub source : Ast
  pub built : IsBuilt source.items source.names
  pub keeps : faults_of source ≡ []
  pub typed : t ≡ typed_of source

-- want of memory is free
abbrev pub Checks : Ast → Result Typed TypeFault → Type 0
Checks a (Ok t) = (faults_of a ≡ []) × (t ≡ typed_of a)
Checks a (Err e) = e ≢ TypeFault.Memory → (f : Fault) × IsFirst f (faults_of a) × (e ≡ told f)
