-- The module that tables make.
use Rattle.std.proofs.Common.{◌≡◌, ℕ, zero, suc, ◌-◌, ◌<◌, ◌≤◌, inl, inr, List, [], ◌∷◌, length, Some, None, refl, sym, ap, ◌∙◌, subst, arith}
use Rattle.std.specs.Prelude.{slice_get, slice_index_or}
use Rattle.dfi_base.specs.declared.numbers.Point.{Point}
use Rattle.tac_ir.specs.declared.code.Code.{Code}
use Rattle.tac_ir.specs.declared.module.PointsRow.{PointsRow}
use Rattle.tac_ir.specs.Answers.{class_of, has, set_of}
use Rattle.tac_ir.specs.Module.{Module}
use Rattle.tac_ir.specs.Numbers.{defs_in_code, reads_made}
use Rattle.flow_rules.specs.ClassOf.{ClassOf}
use Rattle.flow_rules.specs.InSet.{InSet}
use Rattle.flow_rules.specs.PointsTo.{PointsTo}
use Rattle.flow_rules.specs.Reaches.{Reaches}
use Rattle.flow_rules.specs.ReachRows.{reach_rows}
use Rattle.flow_rules.specs.Tables.{AccessTable, ReachTable, points_by, reach_in}
use Rattle.flow_rules.specs.Touches.{touches}
use Rattle.def_classes.specs.AreSets.{set_in}
use Rattle.build_law.specs.Laws.{BuiltOfTables}

-- sets by tables of reach that agree
same_set : (c : Code) (acc : AccessTable) (one other : ReachTable) (x d : ℕ) → ((p : Point) (d a : ℕ) → one p d a ≡ other p d a) → InSet c acc one x d → InSet c acc other x d
same_set c acc one other x d same in_set = record {
  at = in_set.at;
  read = in_set.read;
  leaf = in_set.leaf;
  reads = in_set.reads;
  writes = in_set.writes;
  comes = elim in_set.comes [ inl h ↦ inl (sym (same in_set.at d in_set.leaf) ∙ h) | inr beside ↦ inr beside ];
}

set_is : (m : Module) (x : ℕ) → set_of m x ≡ set_in m.sets x
set_is m zero = refl
set_is m (suc x) = refl

class_is : (classes : List ℕ) (i : ℕ) → i < length classes → elim (slice_get classes i) [ None ↦ 0 | Some class ↦ class ] ≡ slice_index_or classes i 0
class_is [] i low = absurd (omega (arith, low))
class_is (x ∷ classes) zero low = refl
class_is (x ∷ classes) (suc i) low = class_is classes i (omega (arith, low))

pub built : BuiltOfTables
built c points r sets classes k m tables is table elides = record {
  code = code;
  form = elides.form;
  size = ap (λ (z : Module). z.size) elides.rest ∙ is.size;
  points = λ key n. let t = tables.points_least key n in
      ((λ h. subst (λ z. PointsTo z key n) (sym code) (t.0 (ap (λ ps. points_by ps key n) (sym rows) ∙ h))), λ h. ap (λ ps. points_by ps key n) rows ∙ t.1 (subst (λ z. PointsTo z key n) code h));
  reach = λ p d a. let t = tables.reach_least p d a in
      ((λ h. subst (λ (z : Code × List PointsRow). Reaches z.0 (touches z.0 z.1) a p d) (sym coded) (t.0 (sym (same p d a) ∙ h))), λ h. same p d a ∙ t.1 (subst (λ (z : Code × List PointsRow). Reaches z.0 (touches z.0 z.1) a p d) coded h));
  sets = record {
    count = ap length all_sets ∙ tables.sets_all.count ∙ ap (λ z. length (reads_made z)) (sym code);
    each = λ x d. let t = tables.sets_all.each x d in
        let one : has (set_of m x) d ≡ has (set_in sets x) d = ap (λ xs. has xs d) (set_is m x) ∙ ap (λ ys. has (set_in ys x) d) all_sets in (
          (λ h. subst (λ (z : Code × List PointsRow). InSet z.0 (touches z.0 z.1) (reach_in m) x d) (sym coded) (same_set c (touches c points) (reach_rows c r) (reach_in m) x d (λ p d a. sym (same p d a)) (t.0 (sym one ∙ h)))),
          λ h. one ∙ t.1 (same_set c (touches c points) (reach_in m) (reach_rows c r) x d same (subst (λ (z : Code × List PointsRow). InSet z.0 (touches z.0 z.1) (reach_in m) x d) coded h)),
        );
  };
  classes = record { count = count; each = λ d number. class_each d number.0 number.1 };
  removed = elides.marks;
}
  where
    code : m.code ≡ c
    code = ap (λ (z : Module). z.code) elides.rest ∙ is.code

    rows : m.points ≡ points
    rows = ap (λ (z : Module). z.points) elides.rest ∙ is.points_kept

    all_sets : m.sets ≡ sets
    all_sets = ap (λ (z : Module). z.sets) elides.rest ∙ is.sets_kept

    all_classes : m.classes ≡ classes
    all_classes = ap (λ (z : Module). z.classes) elides.rest ∙ is.classes_kept

    count : length m.classes ≡ defs_in_code m.code
    count = ap length all_classes ∙ tables.count ∙ ap defs_in_code (sym code)

    coded : ◌≡◌ {A = Code × List PointsRow} (m.code, m.points) (c, points)
    coded = λ i. (code i, rows i)

    same : (p : Point) (d a : ℕ) → reach_in m p d a ≡ reach_rows c r p d a
    same p d a = ap (λ (z : Module). reach_in z p d a) elides.rest ∙ table p d a

    class_each : (d : ℕ) → 1 ≤ d → d ≤ defs_in_code m.code → ClassOf m.sets d (class_of m d)
    class_each zero low high = absurd (omega (arith, low))
    class_each (suc i) low high =
        let few : i < length m.classes = omega (arith, high, count) in
        let own = tables.classes_all (suc i) (omega arith) (omega (arith, few, ap length all_classes)) in
        let value : slice_index_or classes (suc i - 1) 0 ≡ class_of m (suc i) = ap (λ n. slice_index_or classes n 0) (omega arith) ∙ ap (λ xs. slice_index_or xs i 0) (sym all_classes) ∙ sym (class_is m.classes i few) in
        subst (λ xs. ClassOf xs (suc i) (class_of m (suc i))) (sym all_sets) (subst (ClassOf sets (suc i)) value own)
