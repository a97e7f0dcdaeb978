-- The edges between points. A call has none to the next point: its callee's returns have.
use Rattle.std.specs.Prelude.{ℕ, suc, ◌+◌, Bool, true, false, nat_eq, Some, None, List, [], ◌∷◌, ◌++◌, map}
use Rattle.dfi_base.specs.declared.numbers.Point.{Point}
use Rattle.tac_ir.specs.declared.code.Code.{Code}
use Rattle.tac_ir.specs.declared.code.Fun.{Fun}
use Rattle.tac_ir.specs.declared.code.Lined.{Lined}
use Rattle.tac_ir.specs.declared.code.Instr.{Instr}
use Rattle.tac_ir.specs.Layout.{instr_at}

abbrev pub calls_fun : ℕ → Instr → Bool
calls_fun f (Instr.Call to g def args) = nat_eq f g
calls_fun f i = false

-- the points after the calls of function f, among the instructions of function g from index at on
abbrev pub after_calls : ℕ → ℕ → ℕ → List Lined → List Point
after_calls f g at [] = []
after_calls f g at (l ∷ rest) =
    elim (calls_fun f l.instr) [ true ↦ record { fun = g; at = suc at } ∷ after_calls f g (suc at) rest | false ↦ after_calls f g (suc at) rest ]

-- the same in all functions, of which the first has number g
abbrev pub all_after_calls : ℕ → ℕ → List Fun → List Point
all_after_calls f g [] = []
all_after_calls f g (fun ∷ funs) = after_calls f g 0 fun.code ++ all_after_calls f (suc g) funs

abbrev pub points_in : ℕ → List ℕ → List Point
points_in f indexes = map (λ i. record { fun = f; at = i }) indexes

-- where the edges from an instruction at p lead; a return with a link read is one outside main
abbrev pub edges_of : Code → Point → Instr → List Point
edges_of c p (Instr.Jump target) = points_in p.fun (target ∷ [])
edges_of c p (Instr.Test a at_other at_zero) = points_in p.fun (at_other ∷ at_zero ∷ [])
edges_of c p (Instr.Call to f def args) = record { fun = f; at = 0 } ∷ []
edges_of c p (Instr.Ret v (Some r)) = all_after_calls p.fun 0 c.funs
edges_of c p (Instr.Ret v None) = []
edges_of c p (Instr.Fork join entries) = points_in p.fun entries
edges_of c p Instr.End = []
edges_of c p i = points_in p.fun ((p.at + 1) ∷ [])

abbrev pub edges_from : Code → Point → List Point
edges_from c p = edges_of c p (instr_at c p)
