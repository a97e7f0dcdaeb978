-- What the parser's answer says, as the code has it.
use Rattle.std.proofs.Common.{◌≡◌, ◌-◌, List, Result, Ok, Err, refl, subst}
use Rattle.c_lex.specs.IsLexed.{Lexed}
use Rattle.c_ast.specs.declared.program.Item.{Item}
use Rattle.parse_law.specs.tools.Parsing.{fault, unexpected, deep}
use Rattle.parse_law.specs.Tells as laws
use Rattle.c_parse.specs.declared.cursor.Failure.{Failure}
use Rattle.c_parse.specs.Symbol.{Symbols, symbols_of}
use Rattle.c_parse.specs.Programs.{ProgramAt}
use Rattle.c_parse.specs.Parsed.{IsUnexpected, IsDeep, IsFault}
use Rattle.c_parse.specs.tools.Reads.{Reads}
use Rattle.c_parse.specs.tools.Failures.{Tells, FailsAt, fault_of, place}
use Rattle.c_parse.specs.tools.ProgramParser as spec
use Rattle.c_parse.proofs.Symbols.{length_symbols}
use Rattle.c_parse.proofs.ProgramLaws.{program_tells}
use Rattle.dfi_base.specs.Limits.{nesting_limit}

pub told : (l : Lexed) (r : Result (List Item) Failure) (new : Symbols) → Reads (spec.program nesting_limit (symbols_of l.tokens)) r new → Tells l r
told l (Ok items) new e = (subst (laws.Tells ProgramAt nesting_limit (symbols_of l.tokens)) e (program_tells (symbols_of l.tokens))).0
told l (Err Failure.Memory) new e = tt
told l (Err (Failure.Unexpected n)) new e =
    let h : laws.Tells ProgramAt nesting_limit (symbols_of l.tokens) (fault unexpected n) = subst (laws.Tells ProgramAt nesting_limit (symbols_of l.tokens)) e (program_tells (symbols_of l.tokens)) in
    subst (λ k. IsUnexpected (symbols_of l.tokens) (k - n)) (length_symbols l.tokens) h.1
told l (Err (Failure.Deep n)) new e =
    let h : laws.Tells ProgramAt nesting_limit (symbols_of l.tokens) (fault deep n) = subst (laws.Tells ProgramAt nesting_limit (symbols_of l.tokens)) e (program_tells (symbols_of l.tokens)) in
    subst (λ k. IsDeep (symbols_of l.tokens) (k - n)) (length_symbols l.tokens) h.1

pub fault_is : (l : Lexed) (f : Failure) → FailsAt l f → IsFault l (fault_of l f)
fault_is l Failure.Memory h = tt
fault_is l (Failure.Unexpected n) h = (h, refl)
fault_is l (Failure.Deep n) h = (place l n, h, refl)

pub told_of : (l : Lexed) (ts : Symbols) (r : Result (List Item) Failure) (new : Symbols) → ts ≡ symbols_of l.tokens
    → Reads (spec.program nesting_limit ts) r new → Tells l r
told_of l ts r new e h = told l r new (subst (λ w. Reads (spec.program nesting_limit w) r new) e h)
