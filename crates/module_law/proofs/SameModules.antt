-- Modules that are built of one code are one.
use Rattle.std.proofs.Common.{◌≡◌, ℕ, zero, suc, ◌<◌, ◌≤◌, ◌⊎◌, inl, inr, Bool, true, false, not, ◌||◌, nat_lt, List, [], ◌∷◌, length, Some, None, refl, sym, ap, ◌∙◌, subst, arith}
use Rattle.std.specs.Prelude.{All, slice_get}
use Rattle.std.specs.List.{list_all}
use Rattle.std.proofs.lemmas.Bool.{ne_eqb}
use Rattle.dfi_base.specs.declared.numbers.Point.{Point}
use Rattle.tac_ir.specs.declared.code.Code.{Code}
use Rattle.tac_ir.specs.declared.module.Fact.{Fact}
use Rattle.tac_ir.specs.declared.module.Key.{Key}
use Rattle.tac_ir.specs.declared.module.PointsRow.{PointsRow}
use Rattle.tac_ir.specs.declared.module.ReachRow.{ReachRow}
use Rattle.tac_ir.specs.Accesses.{facts_of, is_same_key, nodes_for}
use Rattle.tac_ir.specs.Answers.{class_of, has, is_checked}
use Rattle.tac_ir.specs.GoodModule.{IsGoodReachRow, fact_count}
use Rattle.tac_ir.specs.Module.{Module, is_chain, is_row, key_before, point_before}
use Rattle.tac_ir.specs.Numbers.{defs_in_code, reads_made}
use Rattle.flow_rules.specs.ClassOf.{ClassOf}
use Rattle.flow_rules.specs.InSet.{InSet}
use Rattle.flow_rules.specs.IsBuilt.{IsBuilt}
use Rattle.flow_rules.specs.PointsTo.{PointsTo}
use Rattle.flow_rules.specs.Reaches.{Reaches}
use Rattle.flow_rules.specs.Removed.{Removed}
use Rattle.flow_rules.specs.Tables.{facts_at, has_fact, is_point, points_by, reach_by, reach_in}
use Rattle.flow_rules.specs.Touches.{touches}
use Rattle.module_law.specs.Laws.{PointsAreOne}
use Rattle.module_law.proofs.Ascending.{both, never, not_both, same_lists}
use Rattle.module_law.proofs.CodeFacts.{code_facts}
use Rattle.module_law.proofs.DistinctFacts.{Distinct, fact_numbers}
use Rattle.module_law.proofs.MarkedModules.{from_marked, marked, to_marked}
use Rattle.module_law.proofs.OneClass.{one_class}
use Rattle.module_law.proofs.OrderedRows.{find, same_rows}
use Rattle.module_law.proofs.Orders.{key_after, key_itself, keys_apart, keys_total, point_after, point_itself, points_apart, points_total, same_key, same_point}

pub same_truth : (a b : Bool) → (a ≡ true → b ≡ true) → (b ≡ true → a ≡ true) → a ≡ b
same_truth true b to from = sym (to refl)
same_truth false b to from = sym (never b (λ h. not_both (from h)))

-- Rows of points.

whole_points : (r s : PointsRow) → r.key ≡ s.key → r.nodes ≡ s.nodes → r ≡ s
whole_points r s k n = λ i. record { key = k i; nodes = n i }

abbrev nodes_in : List PointsRow → Key → List ℕ
nodes_in = find (λ (r : PointsRow). r.key) (λ (r : PointsRow). r.nodes) whole_points key_before is_same_key same_key key_itself key_after keys_apart keys_total

nodes_found : (rows : List PointsRow) (key : Key) → nodes_in rows key ≡ nodes_for rows key
nodes_found [] key = refl
nodes_found (r ∷ rows) key = ap (λ xs. elim (is_same_key r.key key) as (λ z. List ℕ) [ true ↦ r.nodes | false ↦ xs ]) (nodes_found rows key)

pub points_one : PointsAreOne
points_one xs ys one two alike =
    same_rows (λ (r : PointsRow). r.key) (λ (r : PointsRow). r.nodes) whole_points key_before is_same_key same_key key_itself key_after keys_apart keys_total xs ys
    (record { members = one.members; order = one.order }) (record { members = two.members; order = two.order })
    (λ k n. ap (λ zs. has zs n) (nodes_found xs k) ∙ alike k n ∙ sym (ap (λ zs. has zs n) (nodes_found ys k)))

-- Rows of reach.

whole_reach : (r s : ReachRow) → r.point ≡ s.point → r.facts ≡ s.facts → r ≡ s
whole_reach r s p f = λ i. record { point = p i; facts = f i }

abbrev facts_in : List ReachRow → Point → List ℕ
facts_in = find (λ (r : ReachRow). r.point) (λ (r : ReachRow). r.facts) whole_reach point_before is_point same_point point_itself point_after points_apart points_total

facts_found : (rows : List ReachRow) (p : Point) → facts_in rows p ≡ facts_at rows p
facts_found [] p = refl
facts_found (r ∷ rows) p = ap (λ xs. elim (is_point r.point p) as (λ z. List ℕ) [ true ↦ r.facts | false ↦ xs ]) (facts_found rows p)

reach_one : (xs ys : List ReachRow) → list_all (λ r. is_row r.facts) xs ≡ true → is_chain (λ a b. point_before a.point b.point) xs ≡ true
    → list_all (λ r. is_row r.facts) ys ≡ true → is_chain (λ a b. point_before a.point b.point) ys ≡ true → ((p : Point) (i : ℕ) → has (facts_at xs p) i ≡ has (facts_at ys p) i) → xs ≡ ys
reach_one xs ys members order others rows alike =
    same_rows (λ (r : ReachRow). r.point) (λ (r : ReachRow). r.facts) whole_reach point_before is_point same_point point_itself point_after points_apart points_total xs ys
    (record { members = members; order = order }) (record { members = others; order = rows })
    (λ p i. ap (λ zs. has zs i) (facts_found xs p) ∙ alike p i ∙ sym (ap (λ zs. has zs i) (facts_found ys p)))

-- a fact that reaches a point exists
all_below : (n : ℕ) (xs : List ℕ) → All (λ x. x < n) xs → (i : ℕ) → n ≤ i → has xs i ≡ false
all_below n [] all i high = refl
all_below n (x ∷ xs) all i high =
    let low : x < n = all 0 x (omega arith) in
    ap (λ b. b || has xs i) (ne_eqb x i (λ e. omega (arith, low, high, e))) ∙ all_below n xs (λ k d less. all (suc k) d (omega (arith, less))) i high

facts_exist : (m : Module) (rows : List ReachRow) → All (IsGoodReachRow m) rows → (p : Point) (i : ℕ) → fact_count m ≤ i → has (facts_at rows p) i ≡ false
facts_exist m [] all p i high = refl
facts_exist m (r ∷ rows) all p i high = by (is_point r.point p) (all_below (fact_count m) r.facts (all 0 r (omega arith)).facts i high) (facts_exist m rows (λ k d less. all (suc k) d (omega (arith, less))) p i high) where
  by : (b : Bool) → has r.facts i ≡ false → has (facts_at rows p) i ≡ false → has (elim b as (λ z. List ℕ) [ true ↦ r.facts | false ↦ facts_at rows p ]) i ≡ false
  by true own rest = own
  by false own rest = rest

fact_at : (facts : List Fact) (i : ℕ) → ((f : Fact) × (slice_get facts i ≡ Some f)) ⊎ (length facts ≤ i)
fact_at [] i = inr (omega arith)
fact_at (f ∷ facts) zero = inl (f, refl)
fact_at (f ∷ facts) (suc i) = elim (fact_at facts i) [ inl at ↦ inl at | inr past ↦ inr (omega (arith, past)) ]

-- Lists of sets, of classes and of marks.

abbrev nth : List (List ℕ) → ℕ → List ℕ
nth sets i = elim (slice_get sets i) [ None ↦ [] | Some set ↦ set ]

same_sets : (xs ys : List (List ℕ)) → length xs ≡ length ys → list_all (is_chain nat_lt) xs ≡ true → list_all (is_chain nat_lt) ys ≡ true → ((i d : ℕ) → has (nth xs i) d ≡ has (nth ys i) d) → xs ≡ ys
same_sets [] [] count one two alike = refl
same_sets [] (y ∷ ys) count one two alike = absurd (omega (arith, count))
same_sets (x ∷ xs) [] count one two alike = absurd (omega (arith, count))
same_sets (x ∷ xs) (y ∷ ys) count one two alike =
    let a = both (is_chain nat_lt x) (list_all (is_chain nat_lt) xs) one in
    let b = both (is_chain nat_lt y) (list_all (is_chain nat_lt) ys) two in
    let first = same_lists x y a.0 b.0 (alike 0) in
    let rest = same_sets xs ys (omega (arith, count)) a.1 b.1 (λ i d. alike (suc i) d) in
    λ i. first i ∷ rest i

abbrev class_at : List ℕ → ℕ → ℕ
class_at classes i = elim (slice_get classes i) [ None ↦ 0 | Some class ↦ class ]

same_classes : (xs ys : List ℕ) → length xs ≡ length ys → ((i : ℕ) → i < length xs → class_at xs i ≡ class_at ys i) → xs ≡ ys
same_classes [] [] count alike = refl
same_classes [] (y ∷ ys) count alike = absurd (omega (arith, count))
same_classes (x ∷ xs) [] count alike = absurd (omega (arith, count))
same_classes (x ∷ xs) (y ∷ ys) count alike =
    let first : x ≡ y = alike 0 (omega arith) in
    let rest = same_classes xs ys (omega (arith, count)) (λ i less. alike (suc i) (omega (arith, less))) in
    λ i. first i ∷ rest i

abbrev mark_at : List Bool → ℕ → Bool
mark_at marks i = elim (slice_get marks i) [ None ↦ true | Some removed ↦ not removed ]

not_same : (x y : Bool) → not x ≡ not y → x ≡ y
not_same true true e = refl
not_same false false e = refl
not_same true false e = absurd (not_both e)
not_same false true e = absurd (not_both (sym e))

same_marks : (xs ys : List Bool) → length xs ≡ length ys → ((i : ℕ) → mark_at xs i ≡ mark_at ys i) → xs ≡ ys
same_marks [] [] count alike = refl
same_marks [] (y ∷ ys) count alike = absurd (omega (arith, count))
same_marks (x ∷ xs) [] count alike = absurd (omega (arith, count))
same_marks (x ∷ xs) (y ∷ ys) count alike =
    let first = not_same x y (alike 0) in
    let rest = same_marks xs ys (omega (arith, count)) (λ i. alike (suc i)) in
    λ i. first i ∷ rest i

-- Modules.

same_mark : (a b : Bool) → (a ≡ false → b ≡ false) → (b ≡ false → a ≡ false) → a ≡ b
same_mark true true to from = refl
same_mark false false to from = refl
same_mark true false to from = absurd (not_both (sym (from refl)))
same_mark false true to from = absurd (not_both (sym (to refl)))

module _ (c : Code) (m n : Module) (a : IsBuilt c m) (b : IsBuilt c n) where
  code : m.code ≡ n.code
  code = a.code ∙ sym b.code

  size : m.size ≡ n.size
  size = a.size ∙ sym b.size

  points : m.points ≡ n.points
  points = points_one m.points n.points
      (record { members = a.form.ordered.points_rows; order = a.form.ordered.points_order }) (record { members = b.form.ordered.points_rows; order = b.form.ordered.points_order })
      (λ k i. same_truth (points_by m.points k i) (points_by n.points k i)
      (λ h. (b.points k i).1 (subst (λ c. PointsTo c k i) code ((a.points k i).0 h)))
      (λ h. (a.points k i).1 (subst (λ c. PointsTo c k i) (sym code) ((b.points k i).0 h))))

  abbrev Coded : Type 0
  Coded = Code × List PointsRow

  coded : ◌≡◌ {A = Coded} (m.code, m.points) (n.code, n.points)
  coded = λ i. (code i, points i)

  same_table : (p : Point) (d x : ℕ) → reach_in m p d x ≡ reach_in n p d x
  same_table p d x = same_truth (reach_in m p d x) (reach_in n p d x)
      (λ h. (b.reach p d x).1 (subst (λ (z : Coded). Reaches z.0 (touches z.0 z.1) x p d) coded ((a.reach p d x).0 h)))
      (λ h. (a.reach p d x).1 (subst (λ (z : Coded). Reaches z.0 (touches z.0 z.1) x p d) (sym coded) ((b.reach p d x).0 h)))

  same_facts : facts_of m.code m.points ≡ facts_of n.code n.points
  same_facts = ap (λ (z : Coded). facts_of z.0 z.1) coded

  distinct : Distinct (facts_of m.code m.points)
  distinct = code_facts m.code m.points a.form.ordered.points_rows a.form.form

  same_numbers : (p : Point) (i : ℕ) → has (facts_at m.reach p) i ≡ has (facts_at n.reach p) i
  same_numbers p i = elim (fact_at (facts_of m.code m.points) i) [
    | inl (f, is) ↦
        (sym (fact_numbers (facts_of m.code m.points) distinct (facts_at m.reach p) i f is) ∙ same_table p f.def f.leaf
        ∙ ap (λ facts. has_fact facts (facts_at n.reach p) f.def f.leaf) (sym same_facts) ∙ fact_numbers (facts_of m.code m.points) distinct (facts_at n.reach p) i f is)
    | inr past ↦ (facts_exist m m.reach a.form.reach p i past ∙ sym (facts_exist n n.reach b.form.reach p i (omega (arith, past, ap length same_facts))))
  ]

  reach : m.reach ≡ n.reach
  reach = reach_one m.reach n.reach a.form.ordered.reach_rows a.form.ordered.reach_order b.form.ordered.reach_rows b.form.ordered.reach_order same_numbers

  abbrev Tabled : Type 0
  Tabled = Code × List PointsRow × List ReachRow

  tabled : ◌≡◌ {A = Tabled} (m.code, m.points, m.reach) (n.code, n.points, n.reach)
  tabled = λ i. (code i, points i, reach i)

  sets : m.sets ≡ n.sets
  sets = same_sets m.sets n.sets (a.form.sets ∙ ap (λ c. length (reads_made c)) code ∙ sym b.form.sets) a.form.ordered.members b.form.ordered.members
      (λ i d. same_truth (has (nth m.sets i) d) (has (nth n.sets i) d)
      (λ h. (b.sets.each (suc i) d).1 (subst (λ (z : Tabled). InSet z.0 (touches z.0 z.1) (reach_by (facts_of z.0 z.1) z.2) (suc i) d) tabled ((a.sets.each (suc i) d).0 h)))
      (λ h. (a.sets.each (suc i) d).1 (subst (λ (z : Tabled). InSet z.0 (touches z.0 z.1) (reach_by (facts_of z.0 z.1) z.2) (suc i) d) (sym tabled) ((b.sets.each (suc i) d).0 h))))

  classes : m.classes ≡ n.classes
  classes =
      let count = a.classes.count ∙ ap defs_in_code code ∙ sym b.classes.count in
      same_classes m.classes n.classes count (λ i less. one_class m.sets (suc i) (class_of m (suc i)) (class_of n (suc i))
      (a.classes.each (suc i) (omega arith, (let is = a.classes.count in omega (arith, less, is))))
      (subst (λ sets. ClassOf sets (suc i) (class_of n (suc i))) (sym sets) (b.classes.each (suc i) (omega arith, (let is = b.classes.count in omega (arith, less, count, is))))))

  rest : m ≡ marked n m.removed
  rest = λ i. record { size = size i; code = code i; classes = classes i; sets = sets i; removed = m.removed; points = points i; reach = reach i }

  marks : m.removed ≡ n.removed
  marks = same_marks m.removed n.removed (a.form.marks ∙ ap (λ c. length (reads_made c)) code ∙ sym b.form.marks) (λ i. same_mark (is_checked m (suc i)) (is_checked n (suc i))
      (λ h. (b.removed (suc i)).1 (from_marked n m.removed (suc i) (subst (λ z. Removed z (suc i)) rest ((a.removed (suc i)).0 h))))
      (λ h. (a.removed (suc i)).1 (subst (λ z. Removed z (suc i)) (sym rest) (to_marked n m.removed (suc i) ((b.removed (suc i)).0 h)))))

  pub built_one : m ≡ n
  built_one = rest ∙ ap (marked n) marks
