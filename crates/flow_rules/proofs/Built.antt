-- The least tables are closed.
use Rattle.std.proofs.Common.{◌≡◌, ℕ, suc, Bool, true, false, [], ◌∷◌, refl, sym, ◌∙◌, subst}
use Rattle.std.proofs.lemmas.Bool.{eqb-true}
use Rattle.std.specs.Prelude.{◌&&◌, ◌||◌, nat_eq}
use Rattle.dfi_base.specs.declared.numbers.Point.{Point}
use Rattle.tac_ir.specs.declared.code.Code.{Code}
use Rattle.tac_ir.specs.declared.code.Instr.{Instr}
use Rattle.tac_ir.specs.declared.module.Key.{Key}
use Rattle.tac_ir.specs.Module.{Module}
use Rattle.tac_ir.specs.Layout.{instr_at}
use Rattle.tac_ir.specs.Nodes.{is_leaf_node, place_node}
use Rattle.tac_ir.specs.Answers.{has}
use Rattle.flow_rules.specs.Tables.{points_by, reach_in}
use Rattle.flow_rules.specs.Touches.{leaves_touched, touches}
use Rattle.flow_rules.specs.PointsClosed.{ValueRule, AccessRule}
use Rattle.flow_rules.specs.PointsTo.{PointsTo}
use Rattle.flow_rules.specs.PointsTo.PointsTo.{addr, field, decay, index, new, call, ret, get, load, set, store}
use Rattle.flow_rules.specs.PointNumber.{point_at}
use Rattle.flow_rules.specs.ReachClosed.{ReachClosedAt}
use Rattle.flow_rules.specs.Reaches.{Reaches}
use Rattle.flow_rules.specs.Reaches.Reaches.{starts, makes, keeps, joins_one, joins_all}
use Rattle.flow_rules.specs.IsBuilt.{IsBuilt}
use Rattle.flow_rules.specs.Laws.{BuiltIsAccepted}
use Rattle.flow_rules.proofs.Least.{leaf_of, leaf_before}

-- the one leaf of a place
only_leaf : (n a : ℕ) → has (n ∷ []) a ≡ true → n ≡ a
only_leaf n a h = by (nat_eq n a) refl h
  where
    by : (b : Bool) → nat_eq n a ≡ b → (b || false) ≡ true → n ≡ a
    by true same h = eqb-true n a same
    by false same h = cc

split : (a b : Bool) → (a && b) ≡ true → (a ≡ true) × (b ≡ true)
split true b h = (refl, h)
split false b h = cc

module _ (c : Code) (m : Module) (built : IsBuilt c m) where
  from : (key : Key) (n : ℕ) → points_by m.points key n ≡ true → PointsTo m.code key n
  from key n = (built.points key n).0

  back : (key : Key) (n : ℕ) → PointsTo m.code key n → points_by m.points key n ≡ true
  back key n = (built.points key n).1

  values : (p : Point) (i : Instr) → instr_at m.code p ≡ i → ValueRule m.code (points_by m.points) p.fun i
  values p (Instr.Addr to place) is = back (Key.Temp p.fun to) (place_node m.code p.fun place) (addr p to place is)
  values p (Instr.Field to x s k) is = λ n h shape. back (Key.Temp p.fun to) _ (field p to x s k n is (from (Key.Temp p.fun x) n h) shape)
  values p (Instr.Decay to x s) is = λ n h shape. back (Key.Temp p.fun to) _ (decay p to x s n is (from (Key.Temp p.fun x) n h) shape)
  values p (Instr.Index to x y words) is = λ n h. back (Key.Temp p.fun to) n (index p to x y words n is (from (Key.Temp p.fun x) n h))
  values p (Instr.New to x site) is = back (Key.Temp p.fun to) _ (new p to x site is)
  values p (Instr.Call to g d args) is = λ i x here n h. back (Key.Temp g i) n (call p to g d i x n args is here (from (Key.Temp p.fun x) n h))
  values p (Instr.Ret x r) is = λ q to d args called n h. back (Key.Temp q.fun to) n (ret p q x to d n r args is called (from (Key.Temp p.fun x) n h))
  values p i is = tt

  accesses : (p : Point) (i : Instr) → instr_at m.code p ≡ i → AccessRule (has (leaves_touched m.code m.points p.fun i)) (points_by m.points) p.fun i
  accesses p (Instr.Get to place r) is = λ a touched n h. back (Key.Temp p.fun to) n
      (get p to r n place is (subst (λ b. PointsTo m.code (Key.Node b) n) (sym (only_leaf (place_node m.code p.fun place) a touched)) (from (Key.Node a) n h)))
  accesses p (Instr.Load to x r) is = λ a touched n h.
      let parts = split (points_by m.points (Key.Temp p.fun x) a) (is_leaf_node m.code a) (sym (leaf_of m.code m.points p.fun x a) ∙ touched) in
      back (Key.Temp p.fun to) n (load p to x r a n is (from (Key.Temp p.fun x) a parts.0) parts.1 (from (Key.Node a) n h))
  accesses p (Instr.Set place x d) is = λ a touched n h.
      subst (λ b. points_by m.points (Key.Node b) n ≡ true) (only_leaf (place_node m.code p.fun place) a touched)
      (back (Key.Node (place_node m.code p.fun place)) n (set p x d n place is (from (Key.Temp p.fun x) n h)))
  accesses p (Instr.Store x y d) is = λ a touched n h.
      let parts = split (points_by m.points (Key.Temp p.fun x) a) (is_leaf_node m.code a) (sym (leaf_before m.code m.points p.fun x a) ∙ touched) in
      back (Key.Node a) n (store p x y d a n is (from (Key.Temp p.fun x) a parts.0) parts.1 (from (Key.Temp p.fun y) n h))
  accesses p i is = tt

  reach_from : (a : ℕ) (p : Point) (d : ℕ) → reach_in m p d a ≡ true → Reaches m.code (touches m.code m.points) a p d
  reach_from a p d = (built.reach p d a).0

  reach_back : (a : ℕ) (p : Point) (d : ℕ) → Reaches m.code (touches m.code m.points) a p d → reach_in m p d a ≡ true
  reach_back a p d = (built.reach p d a).1

  reach_at : (a : ℕ) (p : Point) → ReachClosedAt m.code (touches m.code m.points) (reach_in m) a p
  reach_at a p = record {
    starts = λ here v low leaf. reach_back a p (suc v) (subst (λ q. Reaches m.code (touches m.code m.points) a q (suc v)) (sym here) (starts v low leaf));
    makes = λ d q def touched edge. reach_back a q d (makes p q d def touched edge);
    keeps = λ d q h alive edge. reach_back a q d (keeps p q d (reach_from a p d h) alive edge);
    joins_one = λ join d entries r q is branch body def h. reach_back a _ d (joins_one p q join d entries r is branch body def (reach_from a (point_at p.fun r.last) d h));
    joins_all = λ join d entries is h. reach_back a _ d (joins_all p join d entries is (λ r branch. reach_from a (point_at p.fun r.last) d (h r branch)));
  }

pub built_accepted : BuiltIsAccepted
built_accepted c m built = record {
  form = built.form;
  points = record {
    values = record { each = λ p. values c m built p (instr_at m.code p) refl };
    accesses = record { each = λ p. accesses c m built p (instr_at m.code p) refl };
  };
  reach = λ a. record { each = reach_at c m built a };
  sets = built.sets;
  classes = built.classes;
  removed = λ r h. (built.removed r).0 h;
}
