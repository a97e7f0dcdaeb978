-- The rows of a module as rows of bits.
use Rattle.std.proofs.Common.{◌≡◌, ℕ, zero, suc, ◌+◌, ◌<◌, ◌≤◌, Bool, true, false, List, [], ◌∷◌, ◌++◌, length, get_or, set, take, map, sum, refl, sym, ap, ◌∙◌, subst, arith, Some}
use Rattle.std.specs.Prelude.{nat_eq, nat_lt, ◌&&◌, ◌||◌, slice_index_or, All, Contains}
use Rattle.std.proofs.lemmas.Bool.{eqb-true, eq-eqb, ltb-true, lt-ltb, ltb-false}
use Rattle.std.proofs.lemmas.List.{length-set, length_push, take_more, take-take, take_all, get_or_append_left, get_or_push}
use Rattle.std.proofs.lemmas.Option.{slice_get-get_or}
use Rattle.dfi_base.specs.declared.numbers.Point.{Point}
use Rattle.dfi_base.specs.Bits as bits
use Rattle.dfi_base.specs.Bits.{members}
use Rattle.dfi_base.proofs.RowLaws.{has_member, member_has, has_put_same, has_put_other}
use Rattle.tac_ir.specs.declared.code.Code.{Code}
use Rattle.tac_ir.specs.declared.code.Fun.{Fun}
use Rattle.tac_ir.specs.declared.module.Fact.{Fact}
use Rattle.tac_ir.specs.declared.module.Reach.{Reach}
use Rattle.tac_ir.specs.declared.module.ReachRow.{ReachRow}
use Rattle.tac_ir.specs.Module.{Module}
use Rattle.tac_ir.specs.Accesses.{facts_of}
use Rattle.tac_ir.specs.Answers.{has}
use Rattle.tac_ir.specs.Counts.{points_in_code}
use Rattle.tac_ir.specs.GoodModule.{GoodModule, IsGoodReachRow, IsPoint, fact_count}
use Rattle.tac_ir.specs.Layout.{lines_of}
use Rattle.flow_rules.specs.PointNumber.{point_at, point_number}
use Rattle.flow_rules.specs.ReachRows.{IsReachOf, exists, row_of, reach_rows}
use Rattle.flow_rules.specs.Tables.{is_point, facts_at, has_fact, reach_in}
use Rattle.flow_rules.specs.tools.RowsBefore.{IsRowWith, AreRowsBefore}
use Rattle.flow_rules.proofs.Members.{has_append}
use Rattle.flow_rules.proofs.ShapeNodes.{nodes_more, nodes_le}
use Rattle.flow_rules.proofs.PointNumbers.{size, fun_of, number_below}
use Rattle.flow_rules.proofs.Parallels.{lines_are, point_of_number, row_is}
use Rattle.flow_rules.proofs.Coming.{fact_listed, listed_fact}

-- One number is that of one point.

sum_le : (funs : List Fun) (m n : ℕ) → m ≤ n → sum (map size (take m funs)) ≤ sum (map size (take n funs))
sum_le funs m n low = omega (arith, nodes_le size (take n funs) m, ap (λ fs. sum (map size fs)) (take-take m n funs low))

past_fun : (c : Code) (p q : Point) → IsPoint c p → p.fun < q.fun → point_number c p < point_number c q
past_fun c p q point low =
    let f = fun_of c p point in
    let at = f.1.low in
    let item : get_or c.funs p.fun f.0 ≡ f.0 = (let same : Some (get_or c.funs p.fun f.0) ≡ Some f.0 = sym (slice_get-get_or c.funs p.fun f.0 f.1.exists) ∙ f.1.found in cc) in
    omega (arith, at, nodes_more size c.funs p.fun f.0 f.1.exists, ap size item, sum_le c.funs (p.fun + 1) q.fun (omega (arith, low)))

pub number_one : (c : Code) (p q : Point) → IsPoint c p → IsPoint c q → point_number c p ≡ point_number c q → p ≡ q
number_one c p q here there same = by (nat_lt p.fun q.fun) refl (nat_lt q.fun p.fun) refl
  where
    by : (a : Bool) → nat_lt p.fun q.fun ≡ a → (b : Bool) → nat_lt q.fun p.fun ≡ b → p ≡ q
    by true is b other = absurd (let less = past_fun c p q here (ltb-true p.fun q.fun is) in omega (arith, less, same))
    by false is true other = absurd (let less = past_fun c q p there (ltb-true q.fun p.fun other) in omega (arith, less, same))
    by false is false other =
        let fun : p.fun ≡ q.fun = omega (arith, ltb-false p.fun q.fun is, ltb-false q.fun p.fun other) in
        let at : p.at ≡ q.at = omega (arith, same, ap (λ f. sum (map size (take f c.funs))) fun) in
        ap (λ f. point_at f p.at) fun ∙ ap (point_at q.fun) at

-- A row of bits.

has_last : (xs : List ℕ) (x k : ℕ) → has (xs ++ x ∷ []) k ≡ (has xs k || nat_eq x k)
has_last xs x k = has_append xs (x ∷ []) k ∙ ap (λ b. has xs k || b) (plain (nat_eq x k))
  where
    plain : (b : Bool) → (b || false) ≡ b
    plain true = refl
    plain false = refl

pub row_next : (len : ℕ) (xs : List ℕ) (i : ℕ) (row : List Bool) → i < length xs → get_or xs i 0 < len → IsRowWith len (take i xs) row → IsRowWith len (take (i + 1) xs) (set row (get_or xs i 0) true)
row_next len xs i row low bound before = record { long = length-set row x true ∙ before.long; same = λ k. by k (nat_eq x k) refl }
  where
    x : ℕ
    x = get_or xs i 0

    more : (k : ℕ) → has (take (i + 1) xs) k ≡ (has (take i xs) k || nat_eq x k)
    more k = ap (λ l. has l k) (take_more xs i 0 low) ∙ has_last (take i xs) x k

    or_true : (b : Bool) → (b || true) ≡ true
    or_true true = refl
    or_true false = refl

    or_false : (b : Bool) → (b || false) ≡ b
    or_false true = refl
    or_false false = refl

    by : (k : ℕ) (b : Bool) → nat_eq x k ≡ b → bits.has (set row x true) k ≡ has (take (i + 1) xs) k
    by k true is =
        let one = eqb-true x k is in
        ap (bits.has (set row x true)) (sym one) ∙ has_put_same row x true (omega (arith, bound, before.long)) ∙ sym (more k ∙ ap (λ b. has (take i xs) k || b) is ∙ or_true (has (take i xs) k))
    by k false is =
        let other : k ≡ x → ⊥ = λ e. (let clash = sym is ∙ eq-eqb x k (sym e) in cc) in
        has_put_other row x k true other ∙ before.same k ∙ sym (more k ∙ ap (λ b. has (take i xs) k || b) is ∙ or_false (has (take i xs) k))

-- Rows of a module name facts that exist, at points that exist.

pub facts_within : (m : Module) (rows : List ReachRow) → All (IsGoodReachRow m) rows → (p : Point) → All (λ k. k < fact_count m) (facts_at rows p)
facts_within m [] good p = λ k d low. absurd (omega (arith, low))
facts_within m (r ∷ rows) good p = by (is_point r.point p) (facts_within m rows (λ k d low. good (suc k) d (omega (arith, low))) p)
  where
    by : (b : Bool) → All (λ k. k < fact_count m) (facts_at rows p) → All (λ k. k < fact_count m) (elim b as (λ z. List ℕ) [ true ↦ r.facts | false ↦ facts_at rows p ])
    by true rest = (good 0 r (omega arith)).facts
    by false rest = rest

no_facts : (m : Module) (rows : List ReachRow) → All (IsGoodReachRow m) rows → (p : Point) → exists m.code p ≡ false → facts_at rows p ≡ []
no_facts m [] good p none = refl
no_facts m (r ∷ rows) good p none = by (is_point r.point p) refl (no_facts m rows (λ k d low. good (suc k) d (omega (arith, low))) p none)
  where
    both : (a b : Bool) → (a && b) ≡ true → (a ≡ true) × (b ≡ true)
    both true b h = (refl, h)
    both false b h = cc

    by : (b : Bool) → is_point r.point p ≡ b → facts_at rows p ≡ [] → elim b as (λ z. List ℕ) [ true ↦ r.facts | false ↦ facts_at rows p ] ≡ []
    by true is rest =
        let parts = both (nat_eq r.point.fun p.fun) (nat_eq r.point.at p.at) is in
        let same : r.point ≡ p = ap (λ f. point_at f r.point.at) (eqb-true r.point.fun p.fun parts.0) ∙ ap (point_at p.fun) (eqb-true r.point.at p.at parts.1) in
        let real = (good 0 r (omega arith)).point in
        let clash = sym none ∙ subst (λ q. exists m.code q ≡ true) same (lt-ltb r.point.at (length (lines_of m.code r.point.fun)) real) in
        cc
    by false is rest = rest

-- Rows for the first points.

pub none_before : (m : Module) → AreRowsBefore m (point_at 0 0) []
none_before m = record { count = refl; each = λ q point low. absurd (omega (arith, low)) }

pub rows_next : (m : Module) (p : Point) (rows : List (List Bool)) (row : List Bool) → IsPoint m.code p → AreRowsBefore m p rows → IsRowWith (fact_count m) (facts_at m.reach p) row
    → AreRowsBefore m (point_at p.fun (p.at + 1)) (rows ++ row ∷ [])
rows_next m p rows row point before here = record { count = omega (arith, length_push rows row, before.count); each = λ q real low. by q real low (nat_lt (point_number m.code q) (point_number m.code p)) refl }
  where
    by : (q : Point) → IsPoint m.code q → point_number m.code q < point_number m.code (point_at p.fun (p.at + 1)) → (b : Bool) → nat_lt (point_number m.code q) (point_number m.code p) ≡ b
        → IsRowWith (fact_count m) (facts_at m.reach q) (slice_index_or (rows ++ row ∷ []) (point_number m.code q) [])
    by q real low true is =
        let less = ltb-true (point_number m.code q) (point_number m.code p) is in
        subst (IsRowWith (fact_count m) (facts_at m.reach q)) (sym (get_or_append_left rows (row ∷ []) [] (point_number m.code q) (omega (arith, less, before.count)))) (before.each q real less)
    by q real low false is =
        let number : point_number m.code q ≡ point_number m.code p = omega (arith, low, ltb-false (point_number m.code q) (point_number m.code p) is) in
        let same = number_one m.code q p real point number in
        subst (λ z. IsRowWith (fact_count m) (facts_at m.reach q) z) (sym (ap (λ n. slice_index_or (rows ++ row ∷ []) n []) number ∙ get_or_push rows row [] (point_number m.code p) before.count))
        (subst (λ z. IsRowWith (fact_count m) (facts_at m.reach z) row) (sym same) here)

pub fun_end : (m : Module) (f n : ℕ) (rows : List (List Bool)) → f < length m.code.funs → n ≡ length (lines_of m.code f) → AreRowsBefore m (point_at f n) rows → AreRowsBefore m (point_at (f + 1) 0) rows
fun_end m f n rows low end before =
    let fun = get_or m.code.funs f nothing in
    let lines = ap length (lines_are m.code f fun (slice_get-get_or m.code.funs f nothing low)) in
    let same : point_number m.code (point_at f n) ≡ point_number m.code (point_at (f + 1) 0) = omega (arith, end, lines, nodes_more size m.code.funs f nothing low) in
    record { count = before.count ∙ same; each = λ q real less. before.each q real (omega (arith, less, same)) }
  where
    nothing : Fun
    nothing = record { params = 0; vars = []; code = []; line = 0 }

-- The table of all rows.

has_contains : (xs : List ℕ) (k : ℕ) → has xs k ≡ true → Contains xs k
has_contains [] k h = cc
has_contains (x ∷ xs) k h = by (nat_eq x k) refl h (has_contains xs k)
  where
    by : (b : Bool) → nat_eq x k ≡ b → (b || has xs k) ≡ true → (has xs k ≡ true → Contains xs k) → Contains (x ∷ xs) k
    by true is h rest = (0, omega arith, eqb-true x k is)
    by false is h rest = (let r = rest h in let low = r.1 in (suc r.0, omega (arith, low), r.2))

contains_has : (xs : List ℕ) (k : ℕ) → Contains xs k → has xs k ≡ true
contains_has xs k h = go xs h.0 h.1 h.2
  where
    or_right : (a b : Bool) → b ≡ true → (a || b) ≡ true
    or_right true b h = refl
    or_right false b h = h

    go : (xs : List ℕ) (i : ℕ) → i < length xs → get_or xs i k ≡ k → has xs k ≡ true
    go [] i low is = absurd (omega (arith, low))
    go (x ∷ xs) zero low is = ap (λ b. b || has xs k) (eq-eqb x k is)
    go (x ∷ xs) (suc i) low is = or_right (nat_eq x k) (has xs k) (go xs i (omega (arith, low)) is)

same_truth : (a b : Bool) → (a ≡ true → b ≡ true) → (b ≡ true → a ≡ true) → a ≡ b
same_truth true b forth back = sym (forth refl)
same_truth false true forth back = back refl
same_truth false false forth back = refl

same_facts : (facts : List Fact) (places : List ℕ) (row : List Bool) → ((k : ℕ) → bits.has row k ≡ has places k) → (d a : ℕ) → has_fact facts (members row) d a ≡ has_fact facts places d a
same_facts facts places row same d a = same_truth (has_fact facts (members row) d a) (has_fact facts places d a) forth back
  where
    forth : has_fact facts (members row) d a ≡ true → has_fact facts places d a ≡ true
    forth h =
        let r = fact_listed facts (members row) d a h in
        listed_fact facts places d a r.0 (has_contains places r.0 (sym (same r.0) ∙ member_has row r.0 r.1)) r.2

    back : has_fact facts places d a ≡ true → has_fact facts (members row) d a ≡ true
    back h =
        let r = fact_listed facts places d a h in
        listed_fact facts (members row) d a r.0 (has_member row r.0 (same r.0 ∙ contains_has places r.0 r.1)) r.2

module _ (m : Module) (good : GoodModule m) (r : Reach) (facts : r.facts.pairs ≡ facts_of m.code m.points) (rows : AreRowsBefore m (point_at (length m.code.funs) 0) r.rows) where
  all_points : point_number m.code (point_at (length m.code.funs) 0) ≡ points_in_code m.code
  all_points = (let all = ap (λ fs. sum (map size fs)) (take_all (length m.code.funs) m.code.funs (omega arith)) in omega (arith, all))

  pub is_reach : IsReachOf m.code m.points r
  is_reach = record { facts = facts; count = rows.count ∙ all_points; width = λ k d low. wide k d low }
    where
      wide : (k : ℕ) (d : List Bool) → k < length r.rows → length (slice_index_or r.rows k d) ≡ length r.facts.pairs
      wide k d low =
          let p = point_of_number m.code k (omega (arith, low, rows.count, all_points)) in
          let row = rows.each p.0 p.1 (omega (arith, p.2, low, rows.count)) in
          ap length (row_is r.rows k d low ∙ ap (λ n. slice_index_or r.rows n []) (sym p.2)) ∙ row.long ∙ ap length (sym facts)

  pub is_table : (p : Point) (d a : ℕ) → reach_rows m.code r p d a ≡ reach_in m p d a
  is_table p d a = by (exists m.code p) refl
    where
      by : (b : Bool) → exists m.code p ≡ b → (b && has_fact r.facts.pairs (members (row_of m.code r p)) d a) ≡ reach_in m p d a
      by true real =
          let point = ltb-true p.at (length (lines_of m.code p.fun)) real in
          let below = number_below m.code p point in
          same_facts r.facts.pairs (facts_at m.reach p) (row_of m.code r p) (rows.each p point (omega (arith, below, all_points))).same d a ∙ ap (λ fs. has_fact fs (facts_at m.reach p) d a) facts
      by false real = sym (ap (λ ns. has_fact (facts_of m.code m.points) ns d a) (no_facts m m.reach good.reach p real))
