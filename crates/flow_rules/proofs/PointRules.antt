-- The rules of points in parts are those of each instruction.
use Rattle.std.proofs.Common.{◌≡◌, ℕ, zero, suc, ◌+◌, ◌<◌, ◌≤◌, Bool, true, false, List, [], ◌∷◌, ◌++◌, length, get_or, take, map, sum, refl, sym, ap, ◌∙◌, subst, arith, Option, Some, None}
use Rattle.std.specs.Option.{option_eq}
use Rattle.std.specs.Prelude.{nat_eq, nat_lt, ◌&&◌, ◌||◌, not, slice_get, All}
use Rattle.std.proofs.lemmas.Bool.{eqb-true, eq-eqb, ltb-true, ltb-false}
use Rattle.std.proofs.lemmas.List.{take_more, take_all}
use Rattle.std.proofs.lemmas.Option.{slice_get_within, slice_get-get_or}
use Rattle.dfi_base.specs.declared.numbers.Point.{Point}
use Rattle.tac_ir.specs.declared.code.Code.{Code}
use Rattle.tac_ir.specs.declared.code.Instr.{Instr}
use Rattle.tac_ir.specs.declared.module.Key.{Key}
use Rattle.tac_ir.specs.declared.module.PointsRow.{PointsRow}
use Rattle.tac_ir.specs.Accesses.{is_same_key, nodes_for, leaves_for}
use Rattle.tac_ir.specs.Answers.{has}
use Rattle.tac_ir.specs.Counts.{shape_nodes}
use Rattle.tac_ir.specs.GoodForm.{GoodForm}
use Rattle.tac_ir.specs.GoodModule.{IsGoodPointsRow, IsNode}
use Rattle.tac_ir.specs.Layout.{instr_at, parts_of}
use Rattle.tac_ir.specs.Nodes.{is_leaf_node, place_node}
use Rattle.tac_ir.proofs.Numbering.{has_line}
use Rattle.flow_rules.specs.PointNumber.{point_at}
use Rattle.flow_rules.specs.PointsClosed.{IsWithin, ValueRule, AccessRule, PointsClosedAt}
use Rattle.flow_rules.specs.Tables.{PointsTable, points_by}
use Rattle.flow_rules.specs.Touches.{leaves_touched, touches}
use Rattle.flow_rules.specs.tools.PointRules.{ArgsHold, ReturnHolds, CallsHold, ReturnsHold, Direct, pointer_of, ThroughAll}
use Rattle.tac_ir.proofs.ShapeWords.{parts_of-struct}
use Rattle.flow_rules.proofs.Members.{has_append, has_filter}
use Rattle.flow_rules.proofs.ShapeNodes.{part_of}

-- Loops.

pub had_last : (xs : List ℕ) (i n : ℕ) → i < length xs → has (take (i + 1) xs) n ≡ (has (take i xs) n || nat_eq (get_or xs i 0) n)
had_last xs i n low = ap (λ l. has l n) (take_more xs i 0 low) ∙ has_append (take i xs) (get_or xs i 0 ∷ []) n ∙ ap (λ b. has (take i xs) n || b) (plain (nat_eq (get_or xs i 0) n))
  where
    plain : (b : Bool) → (b || false) ≡ b
    plain true = refl
    plain false = refl

-- an item that is listed is had
pub has_item : (xs : List ℕ) (i : ℕ) → i < length xs → has xs (get_or xs i 0) ≡ true
has_item [] i low = absurd (omega (arith, low))
has_item (x ∷ xs) zero low = ap (λ b. b || has xs x) (eq-eqb x x refl)
has_item (x ∷ xs) (suc i) low = by (nat_eq x (get_or xs i 0)) (has_item xs i (omega (arith, low)))
  where
    by : (b : Bool) → has xs (get_or xs i 0) ≡ true → (b || has xs (get_or xs i 0)) ≡ true
    by true h = refl
    by false h = h

either : (a b : Bool) → (a || b) ≡ true → (a ≡ false → b ≡ true)
either true b h none = cc
either false b h none = h

module _ (Q : ℕ → Type 0) where
  pub each_next : (xs : List ℕ) (i : ℕ) → i < length xs → ((n : ℕ) → has (take i xs) n ≡ true → Q n) → Q (get_or xs i 0) → (n : ℕ) → has (take (i + 1) xs) n ≡ true → Q n
  each_next xs i low before here n h = by (has (take i xs) n) refl (sym (had_last xs i n low) ∙ h)
    where
      by : (b : Bool) → has (take i xs) n ≡ b → (b || nat_eq (get_or xs i 0) n) ≡ true → Q n
      by true is h = before n is
      by false is h = subst Q (eqb-true (get_or xs i 0) n h) here

  pub each_all : (xs : List ℕ) (i : ℕ) → length xs ≤ i → ((n : ℕ) → has (take i xs) n ≡ true → Q n) → (n : ℕ) → has xs n ≡ true → Q n
  each_all xs i high before n h = before n (ap (λ l. has l n) (take_all i xs high) ∙ h)

-- Arguments and returns.

pub arg_next : (t : PointsTable) (f g : ℕ) (args : List ℕ) (n : ℕ) → n < length args → ArgsHold t f g args n → IsWithin t (Key.Temp f (get_or args n 0)) (Key.Temp g n) → ArgsHold t f g args (n + 1)
arg_next t f g args n low before here = record { each = λ i x under found. by i x under found (nat_eq i n) refl }
  where
    by : (i x : ℕ) → i < n + 1 → slice_get args i ≡ Some x → (b : Bool) → nat_eq i n ≡ b → IsWithin t (Key.Temp f x) (Key.Temp g i)
    by i x under found true is =
        let same = eqb-true i n is in
        let one : Some (get_or args n 0) ≡ Some x = sym (slice_get-get_or args n 0 low) ∙ ap (slice_get args) (sym same) ∙ found in
        let arg : get_or args n 0 ≡ x = cc in
        subst (λ k. IsWithin t (Key.Temp f x) (Key.Temp g k)) (sym same) (subst (λ k. IsWithin t (Key.Temp f k) (Key.Temp g n)) arg here)
    by i x under found false is = before.each i x (let other : i ≡ n → ⊥ = λ e. (let clash = sym is ∙ eq-eqb i n e in cc) in omega (arith, under, other)) found

pub return_next : (c : Code) (t : PointsTable) (g : ℕ) (from : Key) (n m : ℕ) → ReturnsHold c t g from n → CallsHold c t n g from m → ((at : ℕ) → m ≤ at → instr_at c (point_at n at) ≡ Instr.End) → ReturnsHold c t g from (n + 1)
return_next c t g from n m before here past = record { each = λ p low. by p low (nat_eq p.fun n) refl }
  where
    past_end : (p : Point) → p.fun ≡ n → m ≤ p.at → ReturnHolds t p.fun g from (instr_at c p)
    past_end p same high to d args is = (let clash = sym (past p.at high) ∙ ap (λ f. instr_at c (point_at f p.at)) (sym same) ∙ is in cc)

    within : (p : Point) → p.fun ≡ n → p.at < m → ReturnHolds t p.fun g from (instr_at c p)
    within p same low = subst (λ f. ReturnHolds t f g from (instr_at c (point_at f p.at))) (sym same) (here.each p.at low)

    by : (p : Point) → p.fun < n + 1 → (b : Bool) → nat_eq p.fun n ≡ b → ReturnHolds t p.fun g from (instr_at c p)
    by p low true is = at_end (nat_lt p.at m) refl
      where
        at_end : (b : Bool) → nat_lt p.at m ≡ b → ReturnHolds t p.fun g from (instr_at c p)
        at_end true less = within p (eqb-true p.fun n is) (ltb-true p.at m less)
        at_end false more = past_end p (eqb-true p.fun n is) (ltb-false p.at m more)
    by p low false is = before.each p (let other : p.fun ≡ n → ⊥ = λ e. (let clash = sym is ∙ eq-eqb p.fun n e in cc) in omega (arith, low, other))

-- Rows of points name nodes that exist.

pub nodes_exist : (c : Code) (rows : List PointsRow) → All (IsGoodPointsRow c) rows → (key : Key) → All (IsNode c) (nodes_for rows key)
nodes_exist c [] good key = λ k d low. absurd (omega (arith, low))
nodes_exist c (r ∷ rows) good key = by (is_same_key r.key key) (nodes_exist c rows (λ k d low. good (suc k) d (omega (arith, low))) key)
  where
    by : (b : Bool) → All (IsNode c) (nodes_for rows key) → All (IsNode c) (elim b as (λ z. List ℕ) [ true ↦ r.nodes | false ↦ nodes_for rows key ])
    by true rest = (good 0 r (omega arith)).nodes
    by false rest = rest

-- An instruction's rules.

has_one : (n : ℕ) → has (n ∷ []) n ≡ true
has_one n = ap (λ b. b || false) (eq-eqb n n refl)

one_had : (a n : ℕ) → has (a ∷ []) n ≡ true → a ≡ n
one_had a n h = by (nat_eq a n) refl h
  where
    by : (b : Bool) → nat_eq a n ≡ b → (b || false) ≡ true → a ≡ n
    by true is h = eqb-true a n is
    by false is h = cc

and_both : (a b : Bool) → a ≡ true → b ≡ true → (a && b) ≡ true
and_both a b h g = cc

both_of : (a b : Bool) → (a && b) ≡ true → (a ≡ true) × (b ≡ true)
both_of true b h = (refl, h)
both_of false b h = cc

has_plain : (xs : List ℕ) (n : ℕ) → has (xs ++ []) n ≡ has xs n
has_plain xs n = has_append xs [] n ∙ plain (has xs n)
  where
    plain : (b : Bool) → (b || false) ≡ b
    plain true = refl
    plain false = refl

-- a node that a pointer has and that is a leaf may be touched through it, and no other
leaf_for : (c : Code) (rows : List PointsRow) (f x n : ℕ) → has (nodes_for rows (Key.Temp f x)) n ≡ true → is_leaf_node c n ≡ true → has (leaves_for c rows f x) n ≡ true
leaf_for c rows f x n h leaf = has_filter (is_leaf_node c) (nodes_for rows (Key.Temp f x)) n ∙ and_both (has (nodes_for rows (Key.Temp f x)) n) (is_leaf_node c n) h leaf

for_leaf : (c : Code) (rows : List PointsRow) (f x n : ℕ) → has (leaves_for c rows f x) n ≡ true → (has (nodes_for rows (Key.Temp f x)) n ≡ true) × (is_leaf_node c n ≡ true)
for_leaf c rows f x n h = both_of (has (nodes_for rows (Key.Temp f x)) n) (is_leaf_node c n) (sym (has_filter (is_leaf_node c) (nodes_for rows (Key.Temp f x)) n) ∙ h)

record IsClosedBy (c : Code) (rows : List PointsRow) (f : ℕ) (i : Instr) : Type 0 where
  values : ValueRule c (points_by rows) f i
  accesses : AccessRule (λ a. has (leaves_touched c rows f i) a) (points_by rows) f i

no_through : (c : Code) (rows : List PointsRow) (f : ℕ) (i : Instr) → pointer_of i ≡ None → ThroughAll c rows f i
no_through c rows f i none = record { each = λ x n is h. cc }

in_parts : (c : Code) (rows : List PointsRow) (f : ℕ) → f < length c.funs → (i : Instr) → IsClosedBy c rows f i → Direct c (points_by rows) f i × ThroughAll c rows f i
in_parts c rows f exists (Instr.Addr to place) h = (h.values, no_through c rows f (Instr.Addr to place) refl)
in_parts c rows f exists (Instr.Index to x y words) h = (h.values, no_through c rows f (Instr.Index to x y words) refl)
in_parts c rows f exists (Instr.New to x site) h = (h.values, no_through c rows f (Instr.New to x site) refl)
in_parts c rows f exists (Instr.Call to g d args) h = (record { each = λ i x low found. h.values i x found }, no_through c rows f (Instr.Call to g d args) refl)
in_parts c rows f exists (Instr.Ret x r) h = (record { each = λ p low to d args is. h.values p to d args is }, no_through c rows f (Instr.Ret x r) refl)
in_parts c rows f exists (Instr.Get to place r) h = (h.accesses (place_node c f place) (has_one (place_node c f place)), no_through c rows f (Instr.Get to place r) refl)
in_parts c rows f exists (Instr.Set place x d) h = (h.accesses (place_node c f place) (has_one (place_node c f place)), no_through c rows f (Instr.Set place x d) refl)
in_parts c rows f exists (Instr.Field to x s k) h = (tt, record { each = λ y n is had. (let same : x ≡ y = cc in λ shape. h.values n (ap (λ z. points_by rows (Key.Temp f z) n) same ∙ had) shape) })
in_parts c rows f exists (Instr.Decay to x s) h = (tt, record { each = λ y n is had. (let same : x ≡ y = cc in λ shape. h.values n (ap (λ z. points_by rows (Key.Temp f z) n) same ∙ had) shape) })
in_parts c rows f exists (Instr.Load to x r) h = (tt, record { each = λ y n is had. (let same : x ≡ y = cc in λ leaf. h.accesses n (leaf_for c rows f x n (ap (λ z. points_by rows (Key.Temp f z) n) same ∙ had) leaf)) })
in_parts c rows f exists (Instr.Store x y d) h = (tt, record { each = λ z n is had. (let same : x ≡ z = cc in λ leaf. h.accesses n (has_plain (leaves_for c rows f x) n ∙ leaf_for c rows f x n (ap (λ w. points_by rows (Key.Temp f w) n) same ∙ had) leaf)) })
in_parts c rows f exists (Instr.Const to k) h = (tt, no_through c rows f (Instr.Const to k) refl)
in_parts c rows f exists (Instr.Null to) h = (tt, no_through c rows f (Instr.Null to) refl)
in_parts c rows f exists (Instr.Un to op x) h = (tt, no_through c rows f (Instr.Un to op x) refl)
in_parts c rows f exists (Instr.Bin to op x y) h = (tt, no_through c rows f (Instr.Bin to op x y) refl)
in_parts c rows f exists (Instr.Same to ne x y) h = (tt, no_through c rows f (Instr.Same to ne x y) refl)
in_parts c rows f exists (Instr.Free x) h = (tt, no_through c rows f (Instr.Free x) refl)
in_parts c rows f exists (Instr.In to) h = (tt, no_through c rows f (Instr.In to) refl)
in_parts c rows f exists (Instr.Left to) h = (tt, no_through c rows f (Instr.Left to) refl)
in_parts c rows f exists (Instr.Out x) h = (tt, no_through c rows f (Instr.Out x) refl)
in_parts c rows f exists (Instr.Jump t) h = (tt, no_through c rows f (Instr.Jump t) refl)
in_parts c rows f exists (Instr.Test x y z) h = (tt, no_through c rows f (Instr.Test x y z) refl)
in_parts c rows f exists Instr.Turn h = (tt, no_through c rows f Instr.Turn refl)
in_parts c rows f exists (Instr.Fork join entries) h = (tt, no_through c rows f (Instr.Fork join entries) refl)
in_parts c rows f exists Instr.End h = (tt, no_through c rows f Instr.End refl)

-- a call of a function stands in a function
call_stands : (c : Code) (p : Point) (to g d : ℕ) (args : List ℕ) → instr_at c p ≡ Instr.Call to g d args → p.fun < length c.funs
call_stands c p to g d args is = (let h = has_line calls c p 0 refl (ap calls is) in slice_get_within c.funs p.fun h.fun h.function)
  where
    calls : Instr → Option ℕ
    calls (Instr.Call to g d args) = Some 0
    calls i = None

of_parts : (c : Code) (rows : List PointsRow) (f : ℕ) (i : Instr) → Direct c (points_by rows) f i → ThroughAll c rows f i → IsClosedBy c rows f i
of_parts c rows f (Instr.Addr to place) h t = record { values = h; accesses = tt }
of_parts c rows f (Instr.Index to x y words) h t = record { values = h; accesses = tt }
of_parts c rows f (Instr.New to x site) h t = record { values = h; accesses = tt }
of_parts c rows f (Instr.Call to g d args) h t = record { values = λ i x found. h.each i x (slice_get_within args i x found) found; accesses = tt }
of_parts c rows f (Instr.Ret x r) h t = record { values = λ p to d args is. h.each p (call_stands c p to f d args is) to d args is; accesses = tt }
of_parts c rows f (Instr.Get to place r) h t = record { values = tt; accesses = λ a touched. subst (λ n. IsWithin (points_by rows) (Key.Node n) (Key.Temp f to)) (one_had (place_node c f place) a touched) h }
of_parts c rows f (Instr.Set place x d) h t = record { values = tt; accesses = λ a touched. subst (λ n. IsWithin (points_by rows) (Key.Temp f x) (Key.Node n)) (one_had (place_node c f place) a touched) h }
of_parts c rows f (Instr.Field to x s k) h t = record { values = λ n had shape. t.each x n refl had shape; accesses = tt }
of_parts c rows f (Instr.Decay to x s) h t = record { values = λ n had shape. t.each x n refl had shape; accesses = tt }
of_parts c rows f (Instr.Load to x r) h t = record { values = tt; accesses = λ a touched. (let parts = for_leaf c rows f x a touched in t.each x a refl parts.0 parts.1) }
of_parts c rows f (Instr.Store x y d) h t = record { values = tt; accesses = λ a touched. (let parts = for_leaf c rows f x a (sym (has_plain (leaves_for c rows f x) a) ∙ touched) in t.each x a refl parts.0 parts.1) }
of_parts c rows f (Instr.Const to k) h t = record { values = tt; accesses = tt }
of_parts c rows f (Instr.Null to) h t = record { values = tt; accesses = tt }
of_parts c rows f (Instr.Un to op x) h t = record { values = tt; accesses = tt }
of_parts c rows f (Instr.Bin to op x y) h t = record { values = tt; accesses = tt }
of_parts c rows f (Instr.Same to ne x y) h t = record { values = tt; accesses = tt }
of_parts c rows f (Instr.Free x) h t = record { values = tt; accesses = tt }
of_parts c rows f (Instr.In to) h t = record { values = tt; accesses = tt }
of_parts c rows f (Instr.Left to) h t = record { values = tt; accesses = tt }
of_parts c rows f (Instr.Out x) h t = record { values = tt; accesses = tt }
of_parts c rows f (Instr.Jump l) h t = record { values = tt; accesses = tt }
of_parts c rows f (Instr.Test x y z) h t = record { values = tt; accesses = tt }
of_parts c rows f Instr.Turn h t = record { values = tt; accesses = tt }
of_parts c rows f (Instr.Fork join entries) h t = record { values = tt; accesses = tt }
of_parts c rows f Instr.End h t = record { values = tt; accesses = tt }

pub parts_hold : (c : Code) (rows : List PointsRow) (p : Point) → p.fun < length c.funs → PointsClosedAt c (touches c rows) (points_by rows) p → Direct c (points_by rows) p.fun (instr_at c p) × ThroughAll c rows p.fun (instr_at c p)
parts_hold c rows p exists h = in_parts c rows p.fun exists (instr_at c p) (record { values = h.values; accesses = h.accesses })

pub all_hold : (c : Code) (rows : List PointsRow) (p : Point) → Direct c (points_by rows) p.fun (instr_at c p) → ThroughAll c rows p.fun (instr_at c p) → PointsClosedAt c (touches c rows) (points_by rows) p
all_hold c rows p direct through = (let h = of_parts c rows p.fun (instr_at c p) direct through in record { values = h.values; accesses = h.accesses })

-- Parts of structs.

pub part_fits : (c : Code) → GoodForm c → (s k : ℕ) → k < length (parts_of c s) → 1 + sum (map (shape_nodes c) (take k (parts_of c s))) ≤ shape_nodes c s
part_fits c good s k low =
    let found = parts_of-struct c s k (get_or (parts_of c s) k 0) (slice_get-get_or (parts_of c s) k 0 low) in
    let fits = (part_of c good s (parts_of c s) k found low).fits in
    omega (arith, fits)

-- The shape that was looked for.
pub same_shape : (o : Option ℕ) (s : ℕ) → false ≡ not (option_eq nat_eq o (Some s)) → o ≡ Some s
same_shape None s h = cc
same_shape (Some x) s h = by (nat_eq x s) refl h
  where
    by : (b : Bool) → nat_eq x s ≡ b → false ≡ not b → Some x ≡ Some s
    by true is h = ap Some (eqb-true x s is)
    by false is h = cc
