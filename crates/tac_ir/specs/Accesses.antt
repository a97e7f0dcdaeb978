-- Which leaves each definition and each read may touch, by given rows of points; and the list of facts.
use Rattle.std.specs.Prelude.{ℕ, suc, Bool, true, false, ◌&&◌, nat_eq, Option, Some, None, List, [], ◌∷◌, ◌++◌, length, map, filter}
use Rattle.std.specs.List.{flat_map, range_with_len}
use Rattle.tac_ir.specs.declared.code.Code.{Code}
use Rattle.tac_ir.specs.declared.code.Fun.{Fun}
use Rattle.tac_ir.specs.declared.code.Lined.{Lined}
use Rattle.tac_ir.specs.declared.code.Instr.{Instr}
use Rattle.tac_ir.specs.declared.module.Key.{Key}
use Rattle.tac_ir.specs.declared.module.PointsRow.{PointsRow}
use Rattle.tac_ir.specs.declared.module.Fact.{Fact}
use Rattle.tac_ir.specs.Numbers.{new_def, new_read}
use Rattle.tac_ir.specs.Nodes.{is_leaf_node, place_node, leaves_of_global, link_leaf}

-- Rows of points.

abbrev pub is_same_key : Key → Key → Bool
is_same_key (Key.Temp f t) (Key.Temp g u) = nat_eq f g && nat_eq t u
is_same_key (Key.Node n) (Key.Node k) = nat_eq n k
is_same_key a b = false

-- the nodes to which a temporary or a node may point: those of its row, none without a row
abbrev pub nodes_for : List PointsRow → Key → List ℕ
nodes_for [] key = []
nodes_for (r ∷ rows) key = elim (is_same_key r.key key) [ true ↦ r.nodes | false ↦ nodes_for rows key ]

-- the leaves to which temporary t of function f may point
abbrev pub leaves_for : Code → List PointsRow → ℕ → ℕ → List ℕ
leaves_for c points f t = filter (is_leaf_node c) (nodes_for points (Key.Temp f t))

-- Instructions.

-- the leaves that the definition of an instruction of function f may touch: a call's is the link of the function that it calls
abbrev pub leaves_defined : Code → List PointsRow → ℕ → Instr → List ℕ
leaves_defined c points f (Instr.Set place a def) = place_node c f place ∷ []
leaves_defined c points f (Instr.Store a b def) = leaves_for c points f a
leaves_defined c points f (Instr.Call to g def args) = link_leaf c g ∷ []
leaves_defined c points f i = []

-- those that its read may touch: a return's is the link of its own function
abbrev pub leaves_read : Code → List PointsRow → ℕ → Instr → List ℕ
leaves_read c points f (Instr.Get to place r) = place_node c f place ∷ []
leaves_read c points f (Instr.Load to a r) = leaves_for c points f a
leaves_read c points f (Instr.Ret a (Some r)) = link_leaf c f ∷ []
leaves_read c points f i = []

-- All of code.

-- a definition or a read, and the leaves that it may touch
pub record Access : Type 0 where
  pub number : ℕ
  pub leaves : List ℕ

-- those of lines of function f, in their order
abbrev pub accesses_in : (Instr → Option ℕ) → (ℕ → Instr → List ℕ) → ℕ → List Lined → List Access
accesses_in number leaves f [] = []
accesses_in number leaves f (l ∷ rest) = elim (number l.instr) [
  | Some n ↦ record { number = n; leaves = leaves f l.instr } ∷ accesses_in number leaves f rest
  | None ↦ accesses_in number leaves f rest
]

-- those of functions, of which the first has number f
abbrev pub accesses_in_funs : (Instr → Option ℕ) → (ℕ → Instr → List ℕ) → ℕ → List Fun → List Access
accesses_in_funs number leaves f [] = []
accesses_in_funs number leaves f (fun ∷ funs) = accesses_in number leaves f fun.code ++ accesses_in_funs number leaves (suc f) funs

-- the starting definition of a global may touch the leaves of its global
abbrev pub starting_accesses : Code → List Access
starting_accesses c = map (λ v. record { number = suc v; leaves = leaves_of_global c v }) (range_with_len 0 (length c.globals))

-- all definitions, in their order
abbrev pub defs_accesses : Code → List PointsRow → List Access
defs_accesses c points = starting_accesses c ++ accesses_in_funs new_def (leaves_defined c points) 0 c.funs

abbrev pub reads_accesses : Code → List PointsRow → List Access
reads_accesses c points = accesses_in_funs new_read (leaves_read c points) 0 c.funs

abbrev pub leaves_among : List Access → ℕ → List ℕ
leaves_among [] n = []
leaves_among (a ∷ rest) n = elim (nat_eq a.number n) [ true ↦ a.leaves | false ↦ leaves_among rest n ]

-- the leaves that definition d may touch, and read r
abbrev pub leaves_of_def : Code → List PointsRow → ℕ → List ℕ
leaves_of_def c points d = leaves_among (defs_accesses c points) d

abbrev pub leaves_of_read : Code → List PointsRow → ℕ → List ℕ
leaves_of_read c points r = leaves_among (reads_accesses c points) r

-- Facts: the pairs of a definition and a leaf that it may touch, in the order of definitions, and then of leaves.
abbrev pub facts_by : Access → List Fact
facts_by a = map (λ leaf. record { def = a.number; leaf = leaf }) a.leaves

abbrev pub facts_of : Code → List PointsRow → List Fact
facts_of c points = flat_map facts_by (defs_accesses c points)
