-- Functions (C99 6.9.1), and the drafts of all of them.
use Rattle.std.specs.Prelude.{ℕ, zero, suc, pos, nat_eq, List, [], ◌∷◌, map, take, Option, Some, None}
use Rattle.c_typed.specs.declared.types.ObjectType.{ObjectType}
use Rattle.c_typed.specs.declared.program.Function.{Function}
use Rattle.c_typed.specs.declared.program.Variable.{Variable}
use Rattle.tac_ir.specs.declared.code.Place.{Place}
use Rattle.tac_lower.specs.declared.draft.Numbers.{Numbers}
use Rattle.tac_lower.specs.declared.draft.Draft.{Draft}
use Rattle.tac_lower.specs.declared.draft.Ends.{Ends}
use Rattle.tac_lower.specs.Parts.{Part, in_turn, ◌▷◌, ◌⨟◌}
use Rattle.tac_lower.specs.Instrs.{constant, null, set}
use Rattle.tac_lower.specs.Stmts.{Around, stmt, returned}

-- an argument is written to its parameter
abbrev pub parameters_from : ℕ → List Variable → List (Part ℕ)
parameters_from k [] = []
parameters_from k (v ∷ vs) = set v.line.0 (Place.Local k []) k ∷ parameters_from (suc k) vs

-- the value at the closing brace: null for a pointer, else 0
abbrev pub default_by : ℕ → ℕ → Part ℕ
default_by line zero = constant line (pos 0)
default_by line (suc stars) = null line

abbrev pub default : ℕ → Option ObjectType → Part ℕ
default line None = constant line (pos 0)
default line (Some t) = default_by line t.stars

-- a function, by the code of its statements
abbrev pub function_with : Around → Function → List (Part ℕ) → Part ℕ
function_with c f body =
    in_turn (parameters_from 0 (take f.parameters f.variables)) ⨟ in_turn body
    ⨟ default f.close.0 f.result ▷ λ a. returned c.in_main f.close.0 a

abbrev pub function : Around → Function → Part ℕ
function c f = function_with c f (map (stmt c) f.body)

-- (no loop stands round a function)
abbrev pub no_loop : Ends
no_loop = record { leave = 0; again = 0 }

-- a function's temporaries and indexes begin anew
abbrev pub first_of : Function → Numbers → Numbers
first_of f n = record { temp = f.parameters; def = n.def; read = n.read; at = 0 }

abbrev pub around : List ℕ → ℕ → ℕ → Around
around sizes main k = record { sizes = sizes; in_main = nat_eq k main }

-- the drafts of each function; the first of them is number k
abbrev pub drafts_from : List ℕ → ℕ → ℕ → Numbers → List Function → List (List Draft)
drafts_from sizes main k n [] = []
drafts_from sizes main k n (f ∷ fs) =
    let made = (function (around sizes main k) f).make no_loop (first_of f n) in
    made.drafts ∷ drafts_from sizes main (suc k) made.next fs
