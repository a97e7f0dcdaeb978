-- A test of modules: where it passes, the form of the module is good. (No clause names it.)
use Rattle.std.proofs.Common.{◌≡◌, ℕ, ◌<◌, Bool, true, List, length}
use Rattle.std.specs.Prelude.{nat_lt, nat_le, nat_eq, ◌&&◌, All}
use Rattle.std.specs.List.{list_all}
use Rattle.tac_ir.specs.declared.code.Code.{Code}
use Rattle.tac_ir.specs.declared.module.Key.{Key}
use Rattle.tac_ir.specs.declared.module.PointsRow.{PointsRow}
use Rattle.tac_ir.specs.declared.module.ReachRow.{ReachRow}
use Rattle.tac_ir.specs.Module.{Module, is_chain, key_before, point_before, is_row, IsOrdered}
use Rattle.tac_ir.specs.Layout.{lines_of}
use Rattle.tac_ir.specs.Numbers.{defs_in_code, reads_made}
use Rattle.tac_ir.specs.Counts.{temps_of, nodes_in_code}
use Rattle.tac_ir.specs.Tables.{IsNumberOf, HasGoodTables}
use Rattle.tac_ir.specs.GoodModule.{IsKey, IsGoodPointsRow, fact_count, IsGoodReachRow, GoodModule}
use Rattle.tac_ir.proofs.FormTest.{left_of, right_of, lt-is, le-is, eq-is, all_is, form_test, form_good}

abbrev are_below : ℕ → List ℕ → Bool
are_below n xs = list_all (λ x. nat_lt x n) xs

below : (n : ℕ) (xs : List ℕ) → are_below n xs ≡ true → All (λ x. x < n) xs
below n xs h = all_is (λ x. x < n) (λ x. nat_lt x n) (λ x. lt-is x n) xs h

abbrev number_test : Module → ℕ → Bool
number_test m n = nat_le 1 n && nat_le n (defs_in_code m.code)

number-is : (m : Module) (n : ℕ) → number_test m n ≡ true → IsNumberOf m n
number-is m n h = (le-is 1 n (left_of _ _ h), le-is n (defs_in_code m.code) (right_of _ _ h))

abbrev tables_test : Module → Bool
tables_test m = nat_eq (length m.classes) (defs_in_code m.code) && (list_all (number_test m) m.classes && list_all (list_all (number_test m)) m.sets)

pub tables-good : (m : Module) → tables_test m ≡ true → HasGoodTables m
tables-good m h =
    let rest = right_of _ _ h in
    record {
      count = eq-is (length m.classes) (defs_in_code m.code) (left_of _ _ h);
      classes = all_is (IsNumberOf m) (number_test m) (number-is m) m.classes (left_of _ _ rest);
      sets = all_is (All (IsNumberOf m)) (list_all (number_test m)) (λ set. all_is (IsNumberOf m) (number_test m) (number-is m) set) m.sets (right_of _ _ rest);
    }

abbrev ordered_test : Module → Bool
ordered_test m = nat_eq (length m.removed) (length m.sets) && (list_all (is_chain nat_lt) m.sets
    && ((list_all (λ r. is_row r.nodes) m.points && is_chain (λ a b. key_before a.key b.key) m.points)
    && (list_all (λ r. is_row r.facts) m.reach && is_chain (λ a b. point_before a.point b.point) m.reach)))

ordered : (m : Module) → ordered_test m ≡ true → IsOrdered m.sets m.removed m.points m.reach
ordered m h =
    let a = right_of _ _ h in
    let b = right_of _ _ a in
    let points = left_of _ _ b in
    let reach = right_of _ _ b in
    record {
      marks = eq-is (length m.removed) (length m.sets) (left_of _ _ h);
      members = left_of _ _ a;
      points_rows = left_of _ _ points;
      points_order = right_of _ _ points;
      reach_rows = left_of _ _ reach;
      reach_order = right_of _ _ reach;
    }

abbrev key_test : Code → Key → Bool
key_test c (Key.Temp f t) = nat_lt t (temps_of c f)
key_test c (Key.Node n) = nat_lt n (nodes_in_code c)

key-is : (c : Code) (key : Key) → key_test c key ≡ true → IsKey c key
key-is c (Key.Temp f t) h = lt-is t (temps_of c f) h
key-is c (Key.Node n) h = lt-is n (nodes_in_code c) h

abbrev points_test : Code → PointsRow → Bool
points_test c row = key_test c row.key && are_below (nodes_in_code c) row.nodes

points-good : (c : Code) (row : PointsRow) → points_test c row ≡ true → IsGoodPointsRow c row
points-good c row h = record { key = key-is c row.key (left_of _ _ h); nodes = below (nodes_in_code c) row.nodes (right_of _ _ h) }

abbrev reach_test : Module → ReachRow → Bool
reach_test m row = nat_lt row.point.at (length (lines_of m.code row.point.fun)) && are_below (fact_count m) row.facts

reach-good : (m : Module) (row : ReachRow) → reach_test m row ≡ true → IsGoodReachRow m row
reach-good m row h = record {
  point = lt-is row.point.at (length (lines_of m.code row.point.fun)) (left_of _ _ h);
  facts = below (fact_count m) row.facts (right_of _ _ h);
}

abbrev counts_test : Module → Bool
counts_test m = nat_eq (length m.sets) (length (reads_made m.code)) && (nat_eq (length m.removed) (length (reads_made m.code)) && nat_le (fact_count m) 32768)

abbrev pub module_test : Module → Bool
module_test m = form_test m.code && (tables_test m && (counts_test m && (ordered_test m && (list_all (points_test m.code) m.points && list_all (reach_test m) m.reach))))

pub module_good : (m : Module) → module_test m ≡ true → GoodModule m
module_good m h =
    let a = right_of _ _ h in
    let b = right_of _ _ a in
    let counts = left_of _ _ b in
    let more = right_of _ _ counts in
    let d = right_of _ _ b in
    let rows = right_of _ _ d in
    record {
      form = form_good m.code (left_of _ _ h);
      tables = tables-good m (left_of _ _ a);
      sets = eq-is (length m.sets) (length (reads_made m.code)) (left_of _ _ counts);
      marks = eq-is (length m.removed) (length (reads_made m.code)) (left_of _ _ more);
      ordered = ordered m (left_of _ _ d);
      points = all_is (IsGoodPointsRow m.code) (points_test m.code) (points-good m.code) m.points (left_of _ _ rows);
      facts = le-is (fact_count m) 32768 (right_of _ _ more);
      reach = all_is (IsGoodReachRow m) (reach_test m) (reach-good m) m.reach (right_of _ _ rows);
    }
