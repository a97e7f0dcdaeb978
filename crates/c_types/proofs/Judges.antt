-- What a walk over a whole program is to find.
use Rattle.std.proofs.Common.{◌≡◌, ◌≢◌, [], Ok, Err}
use Rattle.c_ast.specs.Ast.{Ast}
use Rattle.c_typed.specs.declared.fault.TypeFault.{TypeFault}
use Rattle.c_types.specs.declared.programs.Program.{Program}
use Rattle.c_typed.specs.Faults.{Fault, IsFirst, told}
use Rattle.c_types.specs.tools.Steps.{Found}
use Rattle.c_typed.specs.Typed.{Typed}
use Rattle.c_typed.specs.Sites.{numbered}
use Rattle.c_typed.specs.Programs.{faults_of, typed_of}

-- with its sites numbered
abbrev pub as_typed : Program → Typed
as_typed p = record { structs = p.structs; globals = p.globals; functions = numbered p.functions; main = p.main }

-- want of memory is free
abbrev pub Judges : Ast → Found Program → Type 0
Judges a (Ok p) = (faults_of a ≡ []) × (as_typed p ≡ typed_of a)
Judges a (Err e) = e ≢ TypeFault.Memory → (f : Fault) × IsFirst f (faults_of a) × (e ≡ told f)
