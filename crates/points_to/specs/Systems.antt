-- The rules of the instructions of a code, over the rows of its table.
use Rattle.std.specs.Prelude.{◌≡◌, ◌↔◌, ℕ, suc, ◌+◌, ◌<◌, Bool, true, false, nat_eq, Option, Some, None, List, [], ◌∷◌, ◌++◌, All, IsTrue, length}
use Rattle.std.specs.List.{list_any}
use Rattle.tac_ir.specs.declared.code.Code.{Code}
use Rattle.tac_ir.specs.declared.code.Fun.{Fun}
use Rattle.tac_ir.specs.declared.code.Instr.{Instr}
use Rattle.tac_ir.specs.declared.code.Lined.{Lined}
use Rattle.tac_ir.specs.Counts.{nodes_in_code}
use Rattle.tac_ir.specs.Nodes.{node_shapes, is_leaf_node, place_node, site_node, part_node}
use Rattle.least_rows.specs.declared.rules.Rule.{Rule}
use Rattle.least_rows.specs.declared.rules.System.{System}
use Rattle.least_rows.specs.Rules.{Table, row_has}
use Rattle.flow_rules.specs.PointsClosed.{HasShape}
use Rattle.points_to.specs.Rows.{Row, row_number}

-- Masks: one for each shape, of the nodes that have it, and behind them one of all leaves.

abbrev pub leaf_mask : Code → ℕ
leaf_mask c = length c.shapes

pub record AreMasks (c : Code) (masks : Table) : Type 0 where
  pub count : length masks ≡ length c.shapes + 1
  pub wide : All (λ mask. length mask ≡ nodes_in_code c) masks
  pub shapes : (s n : ℕ) → s < length c.shapes → IsTrue (row_has masks s n) ↔ HasShape c n s
  pub leaves : (n : ℕ) → row_has masks (leaf_mask c) n ≡ is_leaf_node c n

-- Rules.

-- some node has the shape
abbrev pub has_node : Code → ℕ → Bool
has_node c s = list_any (λ x. nat_eq x s) (node_shapes c)

abbrev pub flows : Code → Row → Row → Rule
flows c from to = Rule.Flow (row_number c from) None (row_number c to)

-- arguments, of which the first has number i, flow into parameters
abbrev pub arg_rules : Code → ℕ → ℕ → ℕ → List ℕ → List Rule
arg_rules c f g i [] = []
arg_rules c f g i (x ∷ args) = flows c (Row.in_temp f x) (Row.in_temp g i) ∷ arg_rules c f g (suc i) args

-- the leaves to which a temporary may point have a row of their own
abbrev pub leaf_rule : Code → ℕ → ℕ → Rule
leaf_rule c f x = Rule.Flow (row_number c (Row.in_temp f x)) (Some (leaf_mask c)) (row_number c (Row.leaves_in f x))

-- the rule of an instruction of function f, beside those of leaves and of arguments
abbrev pub own_rule : Code → ℕ → Instr → Option Rule
own_rule c f (Instr.Addr to place) = Some (Rule.Has (row_number c (Row.in_temp f to)) (place_node c f place))
own_rule c f (Instr.Field to x s k) = elim (has_node c s) [
  | true ↦ Some (Rule.Shift (row_number c (Row.in_temp f x)) s (part_node c s k) (row_number c (Row.in_temp f to)))
  | false ↦ None
]
own_rule c f (Instr.Decay to x s) = Some (Rule.Shift (row_number c (Row.in_temp f x)) s 1 (row_number c (Row.in_temp f to)))
own_rule c f (Instr.Index to x y words) = Some (flows c (Row.in_temp f x) (Row.in_temp f to))
own_rule c f (Instr.New to x site) = Some (Rule.Has (row_number c (Row.in_temp f to)) (site_node c site))
own_rule c f (Instr.Call to g d args) = Some (flows c (Row.returned g) (Row.in_temp f to))
own_rule c f (Instr.Ret x r) = Some (flows c (Row.in_temp f x) (Row.returned f))
own_rule c f (Instr.Get to place r) = Some (flows c (Row.in_node (place_node c f place)) (Row.in_temp f to))
own_rule c f (Instr.Load to x r) = Some (Rule.Load (row_number c (Row.leaves_in f x)) (row_number c (Row.in_temp f to)))
own_rule c f (Instr.Set place x d) = Some (flows c (Row.in_temp f x) (Row.in_node (place_node c f place)))
own_rule c f (Instr.Store x y d) = Some (Rule.Store (row_number c (Row.leaves_in f x)) (row_number c (Row.in_temp f y)))
own_rule c f i = None

abbrev pub list_of : Option Rule → List Rule
list_of None = []
list_of (Some rule) = rule ∷ []

-- all rules of an instruction of function f
abbrev pub rules_of : Code → ℕ → Instr → List Rule
rules_of c f (Instr.Load to x r) = leaf_rule c f x ∷ list_of (own_rule c f (Instr.Load to x r))
rules_of c f (Instr.Store x y d) = leaf_rule c f x ∷ list_of (own_rule c f (Instr.Store x y d))
rules_of c f (Instr.Call to g d args) = list_of (own_rule c f (Instr.Call to g d args)) ++ arg_rules c f g 0 args
rules_of c f i = list_of (own_rule c f i)

abbrev pub rules_in : Code → ℕ → List Lined → List Rule
rules_in c f [] = []
rules_in c f (l ∷ lines) = rules_of c f l.instr ++ rules_in c f lines

-- those of functions, of which the first has number f
abbrev pub rules_from : Code → ℕ → List Fun → List Rule
rules_from c f [] = []
rules_from c f (fun ∷ funs) = rules_in c f fun.code ++ rules_from c (suc f) funs

pub record IsSystemOf (c : Code) (s : System) : Type 0 where
  pub width : s.width ≡ nodes_in_code c
  pub masks : AreMasks c s.masks
  pub rules : s.rules ≡ rules_from c 0 c.funs
