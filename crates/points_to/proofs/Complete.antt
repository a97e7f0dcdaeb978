-- A closed table has all that the rules of inference give, each by the rules of its instruction.
use Rattle.std.proofs.Common.{◌≡◌, ℕ, zero, suc, ◌+◌, ◌<◌, true, false, Option, Some, None, List, [], ◌∷◌, length, Contains, IsTrue, refl, sym, ◌∙◌, subst, arith}
use Rattle.std.specs.Prelude.{slice_get}
use Rattle.std.proofs.lemmas.List.Elements.{All-contains}
use Rattle.dfi_base.specs.declared.numbers.Point.{Point}
use Rattle.tac_ir.specs.declared.code.Code.{Code}
use Rattle.tac_ir.specs.declared.code.Instr.{Instr}
use Rattle.tac_ir.specs.declared.module.Key.{Key}
use Rattle.tac_ir.specs.Layout.{instr_at}
use Rattle.tac_ir.specs.Nodes.{node_shapes, is_leaf_node, place_node, site_node, part_node}
use Rattle.tac_ir.specs.GoodForm.{GoodForm}
use Rattle.least_rows.specs.declared.rules.Rule.{Rule}
use Rattle.least_rows.specs.declared.rules.System.{System}
use Rattle.least_rows.specs.Rules.{Table, row_has, IsClosed}
use Rattle.least_rows.specs.Solutions.{AreClosed}
use Rattle.flow_rules.specs.PointsTo.{PointsTo}
use Rattle.flow_rules.specs.PointsTo.PointsTo.{addr, field, decay, index, new, call, ret, get, load, set, store}
use Rattle.points_to.specs.Rows.{Row, row_of_key, row_number, row_count}
use Rattle.points_to.specs.Rows.Row.{in_node, in_temp, leaves_in, returned}
use Rattle.points_to.specs.Systems.{IsSystemOf, has_node, flows, arg_rules, leaf_rule, list_of, rules_of}
use Rattle.points_to.proofs.Inside.{part_low, item_low, field_shape, array_shape}
use Rattle.points_to.proofs.Masked.{any_at}
use Rattle.points_to.proofs.Named.{names_at}
use Rattle.points_to.proofs.Gathered.{has_rule}
use Rattle.points_to.proofs.Sound.{leaf_low}

first : (rule : Rule) (rules : List Rule) → Contains (rule ∷ rules) rule
first rule rules = (0, omega arith, refl)

behind : (rule other : Rule) (rules : List Rule) → Contains rules other → Contains (rule ∷ rules) other
behind rule other rules one = (suc one.0, omega (arith, one.1), one.2)

arg_there : (c : Code) (f g i : ℕ) (args : List ℕ) (j x : ℕ) → slice_get args j ≡ Some x → Contains (arg_rules c f g i args) (flows c (in_temp f x) (in_temp g (i + j)))
arg_there c f g i [] j x found = cc
arg_there c f g i (y ∷ args) zero x found =
    let same : y ≡ x = cc in
    let index : i ≡ i + 0 = omega arith in
    subst (λ z. Contains (arg_rules c f g i (y ∷ args)) (flows c (in_temp f z) (in_temp g (i + 0)))) same
    (subst (λ k. Contains (arg_rules c f g i (y ∷ args)) (flows c (in_temp f y) (in_temp g k))) index
    (first (flows c (in_temp f y) (in_temp g i)) (arg_rules c f g (suc i) args)))
arg_there c f g i (y ∷ args) (suc j) x found =
    let index : suc i + j ≡ i + suc j = omega arith in
    subst (λ k. Contains (arg_rules c f g i (y ∷ args)) (flows c (in_temp f x) (in_temp g k))) index
    (behind (flows c (in_temp f y) (in_temp g i)) (flows c (in_temp f x) (in_temp g (suc i + j))) (arg_rules c f g (suc i) args) (arg_there c f g (suc i) args j x found))

module _ (c : Code) (s : System) (t : Table) (good : GoodForm c) (is : IsSystemOf c s) (long : length t ≡ row_count c) (closed : AreClosed s t) where
  abbrev Had : Row → ℕ → Type 0
  Had row n = IsTrue (row_has t (row_number c row) n)

  closed_at : (p : Point) (i : Instr) → instr_at c p ≡ i → (rule : Rule) → Contains (rules_of c p.fun i) rule → IsClosed s t rule
  closed_at p i at rule one =
      All-contains (IsClosed s t) s.rules rule closed
      (subst (λ l. Contains l rule) (sym is.rules) (has_rule c p rule (subst (λ j. Contains (rules_of c p.fun j) rule) (sym at) one)))

  goes : (p : Point) (i : Instr) → instr_at c p ≡ i → (from to : Row) → Contains (rules_of c p.fun i) (flows c from to) → (n : ℕ) → Had from n → Had to n
  goes p i at from to one n had = closed_at p i at (flows c from to) one (row_number c to) n (refl, had, tt)

  leaf_goes : (p : Point) (i : Instr) → instr_at c p ≡ i → (x : ℕ) → Contains (rules_of c p.fun i) (leaf_rule c p.fun x) → (n : ℕ) → Had (in_temp p.fun x) n
      → is_leaf_node c n ≡ true → Had (leaves_in p.fun x) n
  leaf_goes p i at x one n had leaf = closed_at p i at (leaf_rule c p.fun x) one (row_number c (leaves_in p.fun x)) n (refl, had, is.masks.leaves n ∙ leaf)

  pub all_had : (key : Key) (n : ℕ) → PointsTo c key n → Had (row_of_key key) n
  all_had _ _ (addr p to place at) =
      closed_at p (Instr.Addr to place) at (Rule.Has (row_number c (in_temp p.fun to)) (place_node c p.fun place)) (first _ []) (row_number c (in_temp p.fun to))
      (place_node c p.fun place) (refl, refl)
  all_had _ _ (field p to x sh k n at from shape) =
      let some : has_node c sh ≡ true = any_at (node_shapes c) n sh shape in
      let low = names_at c good p (Instr.Field to x sh k) at in
      let rule = Rule.Shift (row_number c (in_temp p.fun x)) sh (part_node c sh k) (row_number c (in_temp p.fun to)) in
      closed_at p (Instr.Field to x sh k) at rule (subst (λ b. Contains (list_of (elim b as (λ z. Option Rule) [ true ↦ Some rule | false ↦ None ])) rule) (sym some) (first rule []))
      (row_number c (in_temp p.fun to)) (n + part_node c sh k) (
        refl,
        subst (λ w. n + part_node c sh k < w) (sym is.width) (part_low c good n sh k shape low),
        (n, refl, all_had (Key.Temp p.fun x) n from, (is.masks.shapes sh n (field_shape c good sh k low)).1 shape),
      )
  all_had _ _ (decay p to x sh n at from shape) =
      let array = names_at c good p (Instr.Decay to x sh) at in
      let rule = Rule.Shift (row_number c (in_temp p.fun x)) sh 1 (row_number c (in_temp p.fun to)) in
      subst (Had (in_temp p.fun to)) (omega arith)
      (closed_at p (Instr.Decay to x sh) at rule (first rule []) (row_number c (in_temp p.fun to)) (n + 1) (
        refl,
        subst (λ w. n + 1 < w) (sym is.width) (item_low c good n sh shape array),
        (n, refl, all_had (Key.Temp p.fun x) n from, (is.masks.shapes sh n (array_shape c sh array)).1 shape),
      ))
  all_had _ _ (index p to x y words n at from) =
      goes p (Instr.Index to x y words) at (in_temp p.fun x) (in_temp p.fun to) (first _ []) n (all_had (Key.Temp p.fun x) n from)
  all_had _ _ (new p to x site at) =
      closed_at p (Instr.New to x site) at (Rule.Has (row_number c (in_temp p.fun to)) (site_node c site)) (first _ []) (row_number c (in_temp p.fun to)) (site_node c site)
      (refl, refl)
  all_had _ _ (call p to g d i x n args at place from) =
      goes p (Instr.Call to g d args) at (in_temp p.fun x) (in_temp g i)
      (behind (flows c (returned g) (in_temp p.fun to)) (flows c (in_temp p.fun x) (in_temp g i)) (arg_rules c p.fun g 0 args)
      (let zeroth : 0 + i ≡ i = omega arith in
      subst (λ j. Contains (arg_rules c p.fun g 0 args) (flows c (in_temp p.fun x) (in_temp g j))) zeroth (arg_there c p.fun g 0 args i x place)))
      n (all_had (Key.Temp p.fun x) n from)
  all_had _ _ (ret p q x to d n r args at called from) =
      goes q (Instr.Call to p.fun d args) called (returned p.fun) (in_temp q.fun to) (first _ (arg_rules c q.fun p.fun 0 args)) n
      (goes p (Instr.Ret x r) at (in_temp p.fun x) (returned p.fun) (first _ []) n (all_had (Key.Temp p.fun x) n from))
  all_had _ _ (get p to r n place at from) =
      goes p (Instr.Get to place r) at (in_node (place_node c p.fun place)) (in_temp p.fun to) (first _ []) n (all_had (Key.Node (place_node c p.fun place)) n from)
  all_had _ _ (load p to x r a n at pointer leaf from) =
      let rule = Rule.Load (row_number c (leaves_in p.fun x)) (row_number c (in_temp p.fun to)) in
      closed_at p (Instr.Load to x r) at rule (behind (leaf_rule c p.fun x) rule (rule ∷ []) (first rule [])) (row_number c (in_temp p.fun to)) n
      (refl, (a, leaf_goes p (Instr.Load to x r) at x (first (leaf_rule c p.fun x) (rule ∷ [])) a (all_had (Key.Temp p.fun x) a pointer) leaf, all_had (Key.Node a) n from))
  all_had _ _ (set p x d n place at from) =
      goes p (Instr.Set place x d) at (in_temp p.fun x) (in_node (place_node c p.fun place)) (first _ []) n (all_had (Key.Temp p.fun x) n from)
  all_had _ _ (store p x y d a n at pointer leaf from) =
      let rule = Rule.Store (row_number c (leaves_in p.fun x)) (row_number c (in_temp p.fun y)) in
      closed_at p (Instr.Store x y d) at rule (behind (leaf_rule c p.fun x) rule (rule ∷ []) (first rule [])) a n (
        let low = leaf_low c a leaf in omega (arith, low, long),
        leaf_goes p (Instr.Store x y d) at x (first (leaf_rule c p.fun x) (rule ∷ [])) a (all_had (Key.Temp p.fun x) a pointer) leaf,
        all_had (Key.Temp p.fun y) n from,
      )
