-- A closed table has all that the rules of inference give.
use Rattle.std.proofs.Common.{◌≡◌, ℕ, Bool, true, false, List, [], ◌∷◌, ◌++◌, refl, ap, ◌∙◌, subst, eq-eqb}
use Rattle.std.specs.Prelude.{◌&&◌, ◌||◌}
use Rattle.dfi_base.specs.declared.numbers.Point.{Point}
use Rattle.tac_ir.specs.declared.code.Code.{Code}
use Rattle.tac_ir.specs.declared.code.Instr.{Instr}
use Rattle.tac_ir.specs.declared.module.Key.{Key}
use Rattle.tac_ir.specs.declared.module.PointsRow.{PointsRow}
use Rattle.tac_ir.specs.Layout.{instr_at}
use Rattle.tac_ir.specs.Nodes.{is_leaf_node, place_node}
use Rattle.tac_ir.specs.Answers.{has}
use Rattle.tac_ir.specs.Accesses.{nodes_for, leaves_for}
use Rattle.flow_rules.specs.PointNumber.{entry}
use Rattle.flow_rules.specs.Tables.{points_by}
use Rattle.flow_rules.specs.Touches.{leaves_touched}
use Rattle.flow_rules.specs.PointsClosed.{ValueRule, AccessRule}
use Rattle.flow_rules.specs.PointsTo.PointsTo.{addr, field, decay, index, new, call, ret, get, load, set, store}
use Rattle.flow_rules.specs.Reaches.Reaches.{starts, makes, keeps, joins_one, joins_all}
use Rattle.flow_rules.specs.Laws.{AreClosed, ClosedPointsHaveAll, PointsAreLeast, ClosedReachHasAll, ReachIsLeast}
use Rattle.flow_rules.proofs.Members.{has_append, has_filter}

-- Accesses.

-- an access of a place touches its leaf
itself : (a : ℕ) → has (a ∷ []) a ≡ true
itself a = ap (λ b. b || false) (eq-eqb a a refl)

-- one through a pointer touches the leaves to which the pointer may point
pub leaf_of : (c : Code) (rows : List PointsRow) (f x a : ℕ) → has (leaves_for c rows f x) a ≡ (points_by rows (Key.Temp f x) a && is_leaf_node c a)
leaf_of c rows f x a = has_filter (is_leaf_node c) (nodes_for rows (Key.Temp f x)) a

pub leaf_before : (c : Code) (rows : List PointsRow) (f x a : ℕ) → has (leaves_for c rows f x ++ []) a ≡ (points_by rows (Key.Temp f x) a && is_leaf_node c a)
leaf_before c rows f x a = has_append (leaves_for c rows f x) [] a ∙ plain (has (leaves_for c rows f x) a) ∙ leaf_of c rows f x a
  where
    plain : (b : Bool) → (b || false) ≡ b
    plain true = refl
    plain false = refl

both : (a b : Bool) → a ≡ true → b ≡ true → (a && b) ≡ true
both a b first second = cc

-- Points.

values_at : (c : Code) (rows : List PointsRow) → AreClosed c rows → (p : Point) (i : Instr) → instr_at c p ≡ i → ValueRule c (points_by rows) p.fun i
values_at c rows closed p i is = subst (ValueRule c (points_by rows) p.fun) is (closed.values.each p)

accesses_at : (c : Code) (rows : List PointsRow) → AreClosed c rows → (p : Point) (i : Instr) → instr_at c p ≡ i → AccessRule (has (leaves_touched c rows p.fun i)) (points_by rows) p.fun i
accesses_at c rows closed p i is = subst (λ j. AccessRule (has (leaves_touched c rows p.fun j)) (points_by rows) p.fun j) is (closed.accesses.each p)

pub has_all : ClosedPointsHaveAll
has_all c rows closed key n (addr p to place is) = values_at c rows closed p (Instr.Addr to place) is
has_all c rows closed key n (field p to x s k m is from shape) = values_at c rows closed p (Instr.Field to x s k) is m (has_all c rows closed (Key.Temp p.fun x) m from) shape
has_all c rows closed key n (decay p to x s m is from shape) = values_at c rows closed p (Instr.Decay to x s) is m (has_all c rows closed (Key.Temp p.fun x) m from) shape
has_all c rows closed key n (index p to x y words m is from) = values_at c rows closed p (Instr.Index to x y words) is m (has_all c rows closed (Key.Temp p.fun x) m from)
has_all c rows closed key n (new p to x site is) = values_at c rows closed p (Instr.New to x site) is
has_all c rows closed key n (call p to g d i x m args is here from) = values_at c rows closed p (Instr.Call to g d args) is i x here m (has_all c rows closed (Key.Temp p.fun x) m from)
has_all c rows closed key n (ret p q x to d m r args is called from) = values_at c rows closed p (Instr.Ret x r) is q to d args called m (has_all c rows closed (Key.Temp p.fun x) m from)
has_all c rows closed key n (get p to r m place is from) =
    accesses_at c rows closed p (Instr.Get to place r) is (place_node c p.fun place) (itself (place_node c p.fun place)) m (has_all c rows closed (Key.Node (place_node c p.fun place)) m from)
has_all c rows closed key n (load p to x r a m is pointer leaf from) =
    accesses_at c rows closed p (Instr.Load to x r) is a (leaf_of c rows p.fun x a ∙ both (points_by rows (Key.Temp p.fun x) a) (is_leaf_node c a) (has_all c rows closed (Key.Temp p.fun x) a pointer) leaf) m
    (has_all c rows closed (Key.Node a) m from)
has_all c rows closed key n (set p x d m place is from) =
    accesses_at c rows closed p (Instr.Set place x d) is (place_node c p.fun place) (itself (place_node c p.fun place)) m (has_all c rows closed (Key.Temp p.fun x) m from)
has_all c rows closed key n (store p x y d a m is pointer leaf from) =
    accesses_at c rows closed p (Instr.Store x y d) is a (leaf_before c rows p.fun x a ∙ both (points_by rows (Key.Temp p.fun x) a) (is_leaf_node c a) (has_all c rows closed (Key.Temp p.fun x) a pointer) leaf) m
    (has_all c rows closed (Key.Temp p.fun y) m from)

pub points_least : PointsAreLeast
points_least c rows more only closed key n h = has_all c more closed key n (only key n h)

-- Reach.

pub reach_has_all : ClosedReachHasAll
reach_has_all c acc reach a closed p d (starts v low leaf) = (closed.each (entry c.main)).starts refl v low leaf
reach_has_all c acc reach a closed p d (makes q s e def touched edge) = (closed.each q).makes e s def touched edge
reach_has_all c acc reach a closed p d (keeps q s e from alive edge) = (closed.each q).keeps e s (reach_has_all c acc reach a closed q e from) alive edge
reach_has_all c acc reach a closed p d (joins_one q s join e entries r is branch body def from) =
    (closed.each q).joins_one join e entries r s is branch body def (reach_has_all c acc reach a closed (record { fun = q.fun; at = r.last }) e from)
reach_has_all c acc reach a closed p d (joins_all q join e entries is from) =
    (closed.each q).joins_all join e entries is (λ r branch. reach_has_all c acc reach a closed (record { fun = q.fun; at = r.last }) e (from r branch))

pub reach_least : ReachIsLeast
reach_least c acc reach more a only closed p d h = reach_has_all c acc more a closed p d (only p d h)
