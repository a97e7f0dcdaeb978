-- Which limit a code passes, and at which line. Too many instructions are told before too many definitions or nodes.
pub use Rattle.dfi_base.specs.Limits.{point_limit, definition_limit, node_limit}
use Rattle.std.specs.Prelude.{ℕ, ◌-◌, nat_lt, true, false, List, [], ◌∷◌, ◌++◌, map, length, sum, Option, Some, None}
use Rattle.tac_ir.specs.declared.code.Code.{Code}
use Rattle.tac_ir.specs.declared.code.Fun.{Fun}
use Rattle.tac_ir.specs.declared.code.Global.{Global}
use Rattle.tac_ir.specs.declared.code.Site.{Site}
use Rattle.tac_ir.specs.Counts.{shape_nodes}
use Rattle.tac_ir.specs.Numbers.{new_def, numbers_in}
use Rattle.tac_lower.specs.declared.fault.LowerWhat.{LowerWhat}
use Rattle.tac_lower.specs.declared.fault.LowerFault.{LowerFault}

-- so many, at a line
pub record Share : Type 0 where
  pub count : ℕ
  pub line : ℕ

-- the line of the share with which the count passes a limit
abbrev pub passing : ℕ → List Share → Option ℕ
passing limit [] = None
passing limit (s ∷ shares) = elim (nat_lt limit s.count) [ true ↦ Some s.line | false ↦ passing (limit - s.count) shares ]

-- Points: the instructions of each function.
abbrev pub points_in : Fun → Share
points_in f = record { count = length f.code; line = f.line }

-- Definitions: a starting one of each global, then those that instructions make.
abbrev pub starting_in : Global → Share
starting_in g = record { count = 1; line = g.line }

abbrev pub defs_in : Fun → Share
defs_in f = record { count = length (numbers_in new_def f.code); line = f.line }

-- Nodes.
abbrev pub global_nodes : Code → Global → Share
global_nodes c g = record { count = shape_nodes c g.shape; line = g.line }

abbrev pub fun_nodes : Code → Fun → Share
fun_nodes c f = record { count = sum (map (shape_nodes c) f.vars); line = f.line }

abbrev pub site_nodes : Code → Site → Share
site_nodes c s = record { count = shape_nodes c s.shape; line = s.line }

abbrev pub point_shares : Code → List Share
point_shares c = map points_in c.funs

abbrev pub def_shares : Code → List Share
def_shares c = map starting_in c.globals ++ map defs_in c.funs

abbrev pub node_shares : Code → List Share
node_shares c = map (global_nodes c) c.globals ++ map (fun_nodes c) c.funs ++ map (site_nodes c) c.sites

abbrev pub or_else : LowerWhat → Option ℕ → Option LowerFault → Option LowerFault
or_else what (Some line) rest = Some (LowerFault.Big what (record { 0 = line }))
or_else what None rest = rest

abbrev pub first_passed : Code → Option LowerFault
first_passed c =
    or_else LowerWhat.Points (passing point_limit (point_shares c))
    (or_else LowerWhat.Defs (passing definition_limit (def_shares c))
    (or_else LowerWhat.Nodes (passing node_limit (node_shares c)) None))
