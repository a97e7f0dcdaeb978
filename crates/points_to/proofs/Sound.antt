-- Each rule of an instruction keeps to what may point to what.
use Rattle.std.proofs.Common.{◌≡◌, ℕ, zero, suc, ◌+◌, ◌<◌, ◌≤◌, Bool, true, false, Option, Some, None, List, [], ◌∷◌, length, All, refl, sym, ap, ◌∙◌, subst, arith}
use Rattle.std.specs.Prelude.{slice_get}
use Rattle.std.proofs.lemmas.List.Elements.{All-nil, All-cons}
use Rattle.std.proofs.lemmas.Option.{slice_get_within}
use Rattle.dfi_base.specs.declared.numbers.Point.{Point}
use Rattle.tac_ir.specs.declared.code.Code.{Code}
use Rattle.tac_ir.specs.declared.code.Instr.{Instr}
use Rattle.tac_ir.specs.declared.module.Key.{Key}
use Rattle.tac_ir.specs.Layout.{instr_at}
use Rattle.tac_ir.specs.Counts.{temps_of, nodes_in_code}
use Rattle.tac_ir.specs.Nodes.{node_shapes, is_leaf_node, place_node, site_node, part_node}
use Rattle.tac_ir.specs.Places.{is_leaf}
use Rattle.tac_ir.specs.GoodForm.{GoodForm, IsGoodCall}
use Rattle.least_rows.specs.declared.rules.Rule.{Rule}
use Rattle.least_rows.specs.declared.rules.System.{System}
use Rattle.least_rows.proofs.Inducing.{Keeps}
use Rattle.flow_rules.specs.PointsTo.{PointsTo}
use Rattle.flow_rules.specs.PointsTo.PointsTo.{addr, field, decay, index, new, call, ret, get, load, set, store}
use Rattle.points_to.specs.Rows.{Row, row_number, row_count, IsRow}
use Rattle.points_to.specs.Rows.Row.{in_node, in_temp, leaves_in, returned}
use Rattle.points_to.specs.Systems.{IsSystemOf, has_node, flows, arg_rules, leaf_rule, list_of, rules_of}
use Rattle.points_to.proofs.Numbers.{one_row}
use Rattle.points_to.proofs.Inside.{node_low, place_low, field_shape, array_shape}
use Rattle.points_to.specs.tools.Here.{IsHere}
use Rattle.points_to.proofs.Named.{params_below}

pub record Returns (c : Code) (f k : ℕ) : Type 0 where
  pub point : Point
  pub from : ℕ
  pub read : Option ℕ
  pub fun : point.fun ≡ f
  pub is : instr_at c point ≡ Instr.Ret from read
  pub points : PointsTo c (Key.Temp point.fun from) k

-- what a row with a member says
abbrev pub Says : Code → Row → ℕ → Type 0
Says c (in_node n) k = PointsTo c (Key.Node n) k
Says c (in_temp f t) k = PointsTo c (Key.Temp f t) k
Says c (leaves_in f t) k = PointsTo c (Key.Temp f t) k × (is_leaf_node c k ≡ true)
Says c (returned f) k = Returns c f k

-- the same of its number
abbrev pub Told : Code → ℕ → ℕ → Type 0
Told c r k = (row : Row) → IsRow c row → row_number c row ≡ r → Says c row k

tell : (c : Code) (row : Row) → IsRow c row → (k : ℕ) → Says c row k → Told c (row_number c row) k
tell c row is k says other is' same = subst (λ x. Says c x k) (one_row c row other is is' (sym same)) says

pub leaf_low : (c : Code) (n : ℕ) → is_leaf_node c n ≡ true → n < nodes_in_code c
leaf_low c n leaf = by (slice_get (node_shapes c) n) refl leaf
  where
    by : (o : Option ℕ) → slice_get (node_shapes c) n ≡ o → elim o as (λ z. Bool) [ None ↦ false | Some s ↦ is_leaf c s ] ≡ true → n < nodes_in_code c
    by None is h = cc
    by (Some s) is h = node_low c n s is

module _ (c : Code) (s : System) (good : GoodForm c) (is : IsSystemOf c s) where
  abbrev Kept : Rule → Type 0
  Kept rule = Keeps s (row_count c) (Told c) rule

  one : (rule : Rule) → Kept rule → All Kept (rule ∷ [])
  one rule kept = All-cons Kept rule [] kept (All-nil Kept)

  two : (rule other : Rule) → Kept rule → Kept other → All Kept (rule ∷ other ∷ [])
  two rule other kept kept' = All-cons Kept rule (other ∷ []) kept (one other kept')

  leaf_kept : (f x : ℕ) → x < temps_of c f → Kept (leaf_rule c f x)
  leaf_kept f x low k had passes = tell c (leaves_in f x) low k (had (in_temp f x) low refl, sym (is.masks.leaves k) ∙ passes)

  arg_kept : (p : Point) (to g d : ℕ) (args : List ℕ) → instr_at c p ≡ Instr.Call to g d args → length args ≤ temps_of c g
      → All (λ x. x < temps_of c p.fun) args → (i : ℕ) (rest : List ℕ)
      → ((j x : ℕ) → slice_get rest j ≡ Some x → (slice_get args (i + j) ≡ Some x) × (x < temps_of c p.fun))
      → All Kept (arg_rules c p.fun g i rest)
  arg_kept p to g d args at few low i [] there = All-nil Kept
  arg_kept p to g d args at few low i (x ∷ rest) there =
      let first = there 0 x refl in
      let index : i + 0 ≡ i = omega arith in
      let place : slice_get args i ≡ Some x = ap (slice_get args) (sym index) ∙ first.0 in
      let within = slice_get_within args i x place in
      All-cons Kept (flows c (in_temp p.fun x) (in_temp g i)) (arg_rules c p.fun g (suc i) rest)
      (λ k had passes. tell c (in_temp g i) (omega (arith, within, few)) k (call p to g d i x k args at place (had (in_temp p.fun x) first.1 refl)))
      (arg_kept p to g d args at few low (suc i) rest (λ j y found. (let next : i + suc j ≡ suc i + j = omega arith in
      let h = there (suc j) y found in (ap (slice_get args) (sym next) ∙ h.0, h.1))))

  -- the item of a list of which all is low
  pub low_at : (n : ℕ) (xs : List ℕ) → All (λ x. x < n) xs → (j x : ℕ) → slice_get xs j ≡ Some x → x < n
  low_at n [] all j x found = cc
  low_at n (y ∷ xs) all zero x found = (let same : y ≡ x = cc in subst (λ z. z < n) same (all 0 0 (omega arith)))
  low_at n (y ∷ xs) all (suc j) x found = low_at n xs (λ k e h. all (suc k) e (omega (arith, h))) j x found

  pub instr_kept : (p : Point) (i : Instr) → instr_at c p ≡ i → IsHere c p i → All Kept (rules_of c p.fun i)
  instr_kept p (Instr.Addr to place) at h =
      one (Rule.Has (row_number c (in_temp p.fun to)) (place_node c p.fun place))
      (tell c (in_temp p.fun to) (h.temps 0 0 (omega arith)) (place_node c p.fun place) (addr p to place at))
  instr_kept p (Instr.Field to x sh k) at h = by (has_node c sh)
    where
      by : (b : Bool) → All Kept (list_of (elim b as (λ z. Option Rule) [
        | true ↦ Some (Rule.Shift (row_number c (in_temp p.fun x)) sh (part_node c sh k) (row_number c (in_temp p.fun to)))
        | false ↦ None
      ]))
      by false = All-nil Kept
      by true =
          one (Rule.Shift (row_number c (in_temp p.fun x)) sh (part_node c sh k) (row_number c (in_temp p.fun to)))
          (λ n within had passes.
          tell c (in_temp p.fun to) (h.temps 0 0 (omega arith)) (n + part_node c sh k)
          (field p to x sh k n at (had (in_temp p.fun x) (h.temps 1 0 (omega arith)) refl) ((is.masks.shapes sh n (field_shape c good sh k h.names)).0 passes)))
  instr_kept p (Instr.Decay to x sh) at h =
      one (Rule.Shift (row_number c (in_temp p.fun x)) sh 1 (row_number c (in_temp p.fun to)))
      (λ n within had passes.
      tell c (in_temp p.fun to) (h.temps 0 0 (omega arith)) (n + 1)
      (subst (PointsTo c (Key.Temp p.fun to)) (omega arith)
      (decay p to x sh n at (had (in_temp p.fun x) (h.temps 1 0 (omega arith)) refl) ((is.masks.shapes sh n (array_shape c sh h.names)).0 passes))))
  instr_kept p (Instr.Index to x y words) at h =
      one (flows c (in_temp p.fun x) (in_temp p.fun to))
      (λ k had passes. tell c (in_temp p.fun to) (h.temps 0 0 (omega arith)) k (index p to x y words k at (had (in_temp p.fun x) (h.temps 1 0 (omega arith)) refl)))
  instr_kept p (Instr.New to x site) at h =
      one (Rule.Has (row_number c (in_temp p.fun to)) (site_node c site))
      (tell c (in_temp p.fun to) (h.temps 0 0 (omega arith)) (site_node c site) (new p to x site at))
  instr_kept p (Instr.Call to g d args) at h =
      let good_call : IsGoodCall c g args = h.names in
      let few : length args ≤ temps_of c g = (let below = params_below c g in omega (arith, below, good_call.count)) in
      let low : All (λ x. x < temps_of c p.fun) args = λ k e within. h.temps (suc k) e (omega (arith, within)) in
      All-cons Kept (flows c (returned g) (in_temp p.fun to)) (arg_rules c p.fun g 0 args)
      (λ k had passes.
      let from = had (returned g) good_call.exists refl in
      tell c (in_temp p.fun to) (h.temps 0 0 (omega arith)) k
      (ret from.point p from.from to d k from.read args from.is (subst (λ z. instr_at c p ≡ Instr.Call to z d args) (sym from.fun) at) from.points))
      (arg_kept p to g d args at few low 0 args (λ j x found.
      (let index : j ≡ 0 + j = omega arith in (subst (λ n. slice_get args n ≡ Some x) index found, low_at (temps_of c p.fun) args low j x found))))
  instr_kept p (Instr.Ret x r) at h =
      one (flows c (in_temp p.fun x) (returned p.fun))
      (λ k had passes. tell c (returned p.fun) h.fun k (record {
        point = p;
        from = x;
        read = r;
        fun = refl;
        is = at;
        points = had (in_temp p.fun x) (h.temps 0 0 (omega arith)) refl;
      }))
  instr_kept p (Instr.Get to place r) at h =
      one (flows c (in_node (place_node c p.fun place)) (in_temp p.fun to))
      (λ k had passes.
      tell c (in_temp p.fun to) (h.temps 0 0 (omega arith)) k
      (get p to r k place at (had (in_node (place_node c p.fun place)) (place_low c good p.fun place (h.names.0, h.names.1)) refl)))
  instr_kept p (Instr.Load to x r) at h =
      two (leaf_rule c p.fun x) (Rule.Load (row_number c (leaves_in p.fun x)) (row_number c (in_temp p.fun to))) (leaf_kept p.fun x (h.temps 1 0 (omega arith)))
      (λ a k pointer had.
      let leaf = pointer (leaves_in p.fun x) (h.temps 1 0 (omega arith)) refl in
      tell c (in_temp p.fun to) (h.temps 0 0 (omega arith)) k (load p to x r a k at leaf.0 leaf.1 (had (in_node a) (leaf_low c a leaf.1) refl)))
  instr_kept p (Instr.Set place x d) at h =
      one (flows c (in_temp p.fun x) (in_node (place_node c p.fun place)))
      (λ k had passes.
      tell c (in_node (place_node c p.fun place)) (place_low c good p.fun place (h.names.0, h.names.1)) k
      (set p x d k place at (had (in_temp p.fun x) (h.temps 0 0 (omega arith)) refl)))
  instr_kept p (Instr.Store x y d) at h =
      two (leaf_rule c p.fun x) (Rule.Store (row_number c (leaves_in p.fun x)) (row_number c (in_temp p.fun y))) (leaf_kept p.fun x (h.temps 0 0 (omega arith)))
      (λ a k within pointer had.
      let leaf = pointer (leaves_in p.fun x) (h.temps 0 0 (omega arith)) refl in
      tell c (in_node a) (leaf_low c a leaf.1) k (store p x y d a k at leaf.0 leaf.1 (had (in_temp p.fun y) (h.temps 1 0 (omega arith)) refl)))
  instr_kept p i at h = All-nil Kept
