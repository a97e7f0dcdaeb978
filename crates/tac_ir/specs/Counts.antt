-- How many points, temporaries and nodes code has.
use Rattle.std.specs.Prelude.{ℕ, suc, ◌+◌, max, true, false, Some, None, List, [], ◌∷◌, ◌++◌, reverse, length, map, sum, nat_eq, slice_get}
use Rattle.tac_ir.specs.declared.code.Code.{Code}
use Rattle.tac_ir.specs.declared.code.Shape.{Shape}
use Rattle.tac_ir.specs.declared.code.Instr.{Instr}
use Rattle.tac_ir.specs.declared.code.Lined.{Lined}
use Rattle.tac_ir.specs.declared.code.Fun.{Fun}
use Rattle.tac_ir.specs.Layout.{shapes_of_globals}

-- Points.

abbrev pub points_in_code : Code → ℕ
points_in_code c = sum (map (λ fun. length fun.code) c.funs)

-- Temporaries.

-- those that an instruction names
abbrev pub temps_named : Instr → List ℕ
temps_named (Instr.Const to k) = to ∷ []
temps_named (Instr.Null to) = to ∷ []
temps_named (Instr.Un to op a) = to ∷ a ∷ []
temps_named (Instr.Bin to op a b) = to ∷ a ∷ b ∷ []
temps_named (Instr.Addr to place) = to ∷ []
temps_named (Instr.Field to a shape k) = to ∷ a ∷ []
temps_named (Instr.Decay to a shape) = to ∷ a ∷ []
temps_named (Instr.Index to a b words) = to ∷ a ∷ b ∷ []
temps_named (Instr.Get to place r) = to ∷ []
temps_named (Instr.Load to a r) = to ∷ a ∷ []
temps_named (Instr.Set place a d) = a ∷ []
temps_named (Instr.Store a b d) = a ∷ b ∷ []
temps_named (Instr.Same to ne a b) = to ∷ a ∷ b ∷ []
temps_named (Instr.New to a site) = to ∷ a ∷ []
temps_named (Instr.Free a) = a ∷ []
temps_named (Instr.In to) = to ∷ []
temps_named (Instr.Left to) = to ∷ []
temps_named (Instr.Out a) = a ∷ []
temps_named (Instr.Call to f def args) = to ∷ args
temps_named (Instr.Ret a r) = a ∷ []
temps_named (Instr.Jump target) = []
temps_named (Instr.Test a at_other at_zero) = a ∷ []
temps_named Instr.Turn = []
temps_named (Instr.Fork join entries) = []
temps_named Instr.End = []

-- the greatest of a number and one more than each of a list
abbrev pub past : ℕ → List ℕ → ℕ
past least [] = least
past least (n ∷ ns) = past (max least (suc n)) ns

-- one more than the greatest temporary of these lines, and at least so many
abbrev pub temps_in : ℕ → List Lined → ℕ
temps_in least [] = least
temps_in least (l ∷ rest) = temps_in (past least (temps_named l.instr)) rest

-- the temporaries of an activation of a function: its parameters are the first
abbrev pub temps_of_fun : Fun → ℕ
temps_of_fun fun = temps_in fun.params fun.code

abbrev pub temps_of : Code → ℕ → ℕ
temps_of c f = elim (slice_get c.funs f) [ None ↦ 0 | Some fun ↦ temps_of_fun fun ]

abbrev pub temps_in_code : Code → ℕ
temps_in_code c = sum (map temps_of_fun c.funs)

-- Nodes: one for a shape and those of its parts, where all items of an array are one.

abbrev pub nodes_by : (ℕ → ℕ) → Shape → ℕ
nodes_by nodes Shape.Int = 1
nodes_by nodes Shape.Ptr = 1
nodes_by nodes (Shape.Array len item) = 1 + nodes item
nodes_by nodes (Shape.Struct parts) = 1 + sum (map nodes parts)

-- the nodes of shape s, among shapes listed with the last one first; a shape names earlier ones alone
unfoldable pub nodes_in : List Shape → ℕ → ℕ
nodes_in [] s = 0
nodes_in (shape ∷ earlier) s =
    elim (nat_eq s (length earlier)) [ true ↦ nodes_by (nodes_in earlier) shape | false ↦ nodes_in earlier s ]

abbrev pub shape_nodes : Code → ℕ → ℕ
shape_nodes c s = nodes_in (reverse c.shapes) s

-- the shapes of all globals, of the variables of all functions, and of the items of all sites
abbrev pub vars_in_funs : List Fun → List ℕ
vars_in_funs [] = []
vars_in_funs (fun ∷ funs) = fun.vars ++ vars_in_funs funs

abbrev pub shapes_used : Code → List ℕ
shapes_used c = shapes_of_globals c ++ (vars_in_funs c.funs ++ map (λ s. s.shape) c.sites)

abbrev pub nodes_in_code : Code → ℕ
nodes_in_code c = sum (map (shape_nodes c) (shapes_used c))
