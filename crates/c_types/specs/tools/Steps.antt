-- What a walk over the tree finds: a value, or the fault that it tells. A tool of proof: no public clause names it.
use Rattle.std.specs.Prelude.{◌≡◌, ◌≢◌, Bool, true, false, List, [], ◌∷◌, ◌++◌, Option, Some, None, Result, Ok, Err}
use Rattle.dfi_base.specs.declared.numbers.Line.{Line}
use Rattle.c_typed.specs.declared.fault.TypeFault.{TypeFault}
use Rattle.c_typed.specs.Faults.{Rule, told_by}

abbrev pub Found : Type 0 → Type 0
Found A = Result A TypeFault

infixl 10 ◌>>=◌
abbrev pub ◌>>=◌ : {A B : Type 0} → Found A → (A → Found B) → Found B
Ok a >>= f = f a
Err e >>= f = Err e

abbrev pub broken : {A : Type 0} → Rule → Line → Found A
broken rule line = Err (told_by rule line)

-- a rule of a whole
abbrev pub kept : {A : Type 0} → Rule → Line → Option A → Found A
kept rule line None = broken rule line
kept rule line (Some a) = Ok a

abbrev pub unless_kept : {A : Type 0} → Bool → Rule → Line → Found A → Found A
unless_kept test rule line f = elim test [ true ↦ f | false ↦ broken rule line ]

-- An answer of the code is what the walk finds; want of memory is free.
abbrev pub Finds : {A : Type 0} → Found A → Found A → Type 0
Finds (Ok a) found = found ≡ Ok a
Finds (Err e) found = e ≢ TypeFault.Memory → found ≡ Err e

-- with what is known behind it
abbrev pub Leaves : {A K : Type 0} → Found A → K → Found (A × K) → Type 0
Leaves (Ok a) known found = found ≡ Ok (a, known)
Leaves (Err e) known found = e ≢ TypeFault.Memory → found ≡ Err e

-- each in turn, and what each gives
abbrev pub each : {X K B C : Type 0} → (B → List C) → (X → K → Found (B × K)) → List X → K → Found (List C × K)
each given step [] k = Ok ([], k)
each given step (x ∷ xs) k = step x k >>= (λ s. each given step xs s.1 >>= (λ t. Ok (given s.0 ++ t.0, t.1)))

abbrev pub one : {B : Type 0} → B → List B
one b = b ∷ []

abbrev pub if_some : {B : Type 0} → Option B → List B
if_some None = []
if_some (Some b) = b ∷ []

abbrev pub every : {X K : Type 0} → (X → K → Found ((Unit {0}) × K)) → List X → K → Found ((Unit {0}) × K)
every step [] k = Ok (tt, k)
every step (x ∷ xs) k = step x k >>= (λ s. every step xs s.1)
