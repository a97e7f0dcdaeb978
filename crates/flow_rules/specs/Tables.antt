-- The tables of an analysis as functions to truth values, and those that rows give.
use Rattle.std.specs.Prelude.{ℕ, Bool, true, false, ◌&&◌, ◌||◌, nat_eq, Some, None, List, [], ◌∷◌, slice_get}
use Rattle.std.specs.List.{list_any}
use Rattle.dfi_base.specs.declared.numbers.Point.{Point}
use Rattle.tac_ir.specs.declared.module.Key.{Key}
use Rattle.tac_ir.specs.declared.module.PointsRow.{PointsRow}
use Rattle.tac_ir.specs.declared.module.ReachRow.{ReachRow}
use Rattle.tac_ir.specs.declared.module.Fact.{Fact}
use Rattle.tac_ir.specs.Module.{Module}
use Rattle.tac_ir.specs.Answers.{has}
use Rattle.tac_ir.specs.Accesses.{nodes_for, facts_of}

-- whether the value of a temporary, or of a node, may point to a node
abbrev pub PointsTable : Type 0
PointsTable = Key → ℕ → Bool

-- whether the access of the instruction at a point may touch a leaf
abbrev pub AccessTable : Type 0
AccessTable = Point → ℕ → Bool

-- whether a definition reaches a point for a leaf
abbrev pub ReachTable : Type 0
ReachTable = Point → ℕ → ℕ → Bool

-- Those of a module.

abbrev pub points_by : List PointsRow → PointsTable
points_by rows key n = has (nodes_for rows key) n

abbrev pub is_point : Point → Point → Bool
is_point p q = nat_eq p.fun q.fun && nat_eq p.at q.at

-- the numbers of the facts that reach a point: those of its row, none without a row
abbrev pub facts_at : List ReachRow → Point → List ℕ
facts_at [] p = []
facts_at (r ∷ rows) p = elim (is_point r.point p) [ true ↦ r.facts | false ↦ facts_at rows p ]

abbrev pub is_fact : ℕ → ℕ → Fact → Bool
is_fact d a fact = nat_eq fact.def d && nat_eq fact.leaf a

-- one of these facts is that of a definition with a leaf
abbrev pub has_pair : List Fact → ℕ → ℕ → Bool
has_pair facts d a = list_any (is_fact d a) facts

-- one of these numbers is that of a definition with a leaf
abbrev pub has_fact : List Fact → List ℕ → ℕ → ℕ → Bool
has_fact facts [] d a = false
has_fact facts (i ∷ numbers) d a = elim (slice_get facts i) [ None ↦ false | Some fact ↦ is_fact d a fact ] || has_fact facts numbers d a

abbrev pub reach_by : List Fact → List ReachRow → ReachTable
reach_by facts rows p d a = has_fact facts (facts_at rows p) d a

abbrev pub reach_in : Module → ReachTable
reach_in m = reach_by (facts_of m.code m.points) m.reach
