-- What building a source answers.
use Rattle.std.specs.Prelude.{◌≡◌, ℕ, List, Some, None, Result, Ok, Err}
use Rattle.c_lex.specs.IsLexed.{Lexed, LexesTo}
use Rattle.c_lex.specs.FirstFault.{IsFirstFault}
use Rattle.c_ast.specs.Ast.{Ast}
use Rattle.c_parse.specs.declared.fault.ParseFault.{ParseFault}
use Rattle.c_parse.specs.Parsed.{IsFault}
use Rattle.c_typed.specs.Faults.{Fault, IsFirst, told}
use Rattle.c_typed.specs.Programs.{faults_of}
use Rattle.c_typed.specs.Typed.{Typed}
use Rattle.tac_ir.specs.declared.code.Code.{Code}
use Rattle.tac_ir.specs.Module.{Module}
use Rattle.tac_lower.specs.CodeOf.{code_of}
use Rattle.tac_lower.specs.Limits.{first_passed}
use Rattle.first_module.specs.ModuleOf.{module_of}
use Rattle.dfi_build.specs.declared.fault.BuildFault.{BuildFault}
use Rattle.dfi_build.specs.Source.{IsParsed, IsTyped}

-- the source has a typed program with this code, which passes no limit
pub record IsCodeOf (bytes : List ℕ) (c : Code) : Type 0 where
  pub program : Typed
  pub typed : IsTyped bytes program
  pub within : first_passed (code_of program) ≡ None
  pub code : c ≡ code_of program

-- the module of that code
pub record IsModuleOf (bytes : List ℕ) (m : Module) : Type 0 where
  pub code : Code
  pub source : IsCodeOf bytes code
  pub made : m ≡ module_of code

-- a fault of the parser that is not want of memory
abbrev pub IsParseFault : Lexed → ParseFault → Type 0
IsParseFault l ParseFault.Memory = ⊥
IsParseFault l fault = IsFault l fault

-- The first fault of a source: in its text, in the order of its tokens, in its types, or a limit that its code passes.
abbrev pub IsFaultOf : List ℕ → BuildFault → Type 0
IsFaultOf bytes (BuildFault.Lex fault) = IsFirstFault bytes fault
IsFaultOf bytes (BuildFault.Parse fault) = (lexed : Lexed) × LexesTo bytes lexed × IsParseFault lexed fault
IsFaultOf bytes (BuildFault.Types fault) = (a : Ast) × IsParsed bytes a × ((f : Fault) × IsFirst f (faults_of a) × (fault ≡ told f))
IsFaultOf bytes (BuildFault.Lower fault) = (t : Typed) × IsTyped bytes t × (first_passed (code_of t) ≡ Some fault)
IsFaultOf bytes BuildFault.Memory = ⊥

-- a fault that is told is the source's; want of memory tells nothing
abbrev pub Tells : List ℕ → BuildFault → Type 0
Tells bytes BuildFault.Memory = Unit {0}
Tells bytes fault = IsFaultOf bytes fault

-- the module of a source, or its first fault
abbrev pub Builds : List ℕ → Result Module BuildFault → Type 0
Builds bytes (Ok m) = IsModuleOf bytes m
Builds bytes (Err fault) = Tells bytes fault
