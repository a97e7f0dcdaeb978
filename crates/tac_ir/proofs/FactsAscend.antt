-- Facts stand in the order of definitions, and then of leaves.
use Rattle.std.proofs.Common.{◌≡◌, ℕ, zero, suc, ◌+◌, ◌<◌, ◌≤◌, cond, Bool, true, false, List, [], ◌∷◌, ◌++◌, length, map, refl, sym, ap, subst, arith, Option, Some, None}
use Rattle.std.specs.Prelude.{nat_eq, nat_lt, nat_le, ◌&&◌, filter, slice_index, if◌then◌else◌}
use Rattle.std.specs.List.{flat_map, list_all, range_with_len}
use Rattle.std.proofs.lemmas.Bool.{ltb-true, lt-ltb, le-leb, leb-true, eq-eqb}
use Rattle.tac_ir.specs.declared.code.Code.{Code}
use Rattle.tac_ir.specs.declared.code.Fun.{Fun}
use Rattle.tac_ir.specs.declared.code.Instr.{Instr}
use Rattle.tac_ir.specs.declared.code.Lined.{Lined}
use Rattle.tac_ir.specs.declared.module.Fact.{Fact}
use Rattle.tac_ir.specs.declared.module.Key.{Key}
use Rattle.tac_ir.specs.declared.module.PointsRow.{PointsRow}
use Rattle.tac_ir.specs.Module.{is_chain, pair_before, has_members, is_row}
use Rattle.tac_ir.specs.Layout.{shapes_of_globals}
use Rattle.tac_ir.specs.Counts.{shape_nodes}
use Rattle.tac_ir.specs.Numbers.{new_def, numbers_in, numbers_in_funs, IsCount}
use Rattle.tac_ir.specs.Nodes.{is_leaf_node, global_node, leaves_of_global}
use Rattle.tac_ir.specs.Accesses.{is_same_key, nodes_for, leaves_defined, Access, accesses_in, accesses_in_funs, facts_by}
use Rattle.tac_ir.specs.AccessLaws.{fact_before, FactsAscend}
use Rattle.tac_ir.proofs.Numbering.{first_is, in_parts}

both : (a b : Bool) → a ≡ true → b ≡ true → (a && b) ≡ true
both true b p q = q
both false b p q = cc

left_of : (a b : Bool) → (a && b) ≡ true → a ≡ true
left_of true b h = refl
left_of false b h = h

right_of : (a b : Bool) → (a && b) ≡ true → b ≡ true
right_of true b h = h
right_of false b h = cc

-- Ascending lists.

abbrev are_above : ℕ → List ℕ → Bool
are_above n xs = list_all (λ x. nat_lt n x) xs

above_more : (n m : ℕ) (xs : List ℕ) → n < m → are_above m xs ≡ true → are_above n xs ≡ true
above_more n m [] less all = refl
above_more n m (x ∷ xs) less all =
    let here = ltb-true m x (left_of _ _ all) in
    both _ _ (lt-ltb n x (omega (arith, less, here))) (above_more n m xs less (right_of _ _ all))

rest_ascends : (x : ℕ) (xs : List ℕ) → is_chain nat_lt (x ∷ xs) ≡ true → is_chain nat_lt xs ≡ true
rest_ascends x [] chain = refl
rest_ascends x (y ∷ xs) chain = right_of _ _ chain

rest_above : (x : ℕ) (xs : List ℕ) → is_chain nat_lt (x ∷ xs) ≡ true → are_above x xs ≡ true
rest_above x [] chain = refl
rest_above x (y ∷ xs) chain =
    let here = left_of _ _ chain in
    both _ _ here (above_more x y xs (ltb-true x y here) (rest_above y xs (right_of _ _ chain)))

ascends_from : (x : ℕ) (xs : List ℕ) → are_above x xs ≡ true → is_chain nat_lt xs ≡ true → is_chain nat_lt (x ∷ xs) ≡ true
ascends_from x [] all chain = refl
ascends_from x (y ∷ xs) all chain = both _ _ (left_of _ _ all) chain

above_filter : (test : ℕ → Bool) (n : ℕ) (xs : List ℕ) → are_above n xs ≡ true → are_above n (filter test xs) ≡ true
above_filter test n [] all = refl
above_filter test n (x ∷ xs) all = by (test x) (above_filter test n xs (right_of _ _ all))
  where
    by : (b : Bool) → are_above n (filter test xs) ≡ true → are_above n (cond b (x ∷ filter test xs) (filter test xs)) ≡ true
    by true rest = both _ _ (left_of _ _ all) rest
    by false rest = rest

filter_ascends : (test : ℕ → Bool) (xs : List ℕ) → is_chain nat_lt xs ≡ true → is_chain nat_lt (filter test xs) ≡ true
filter_ascends test [] chain = refl
filter_ascends test (x ∷ xs) chain = by (test x) (filter_ascends test xs (rest_ascends x xs chain))
  where
    by : (b : Bool) → is_chain nat_lt (filter test xs) ≡ true → is_chain nat_lt (cond b (x ∷ filter test xs) (filter test xs)) ≡ true
    by true rest = ascends_from x (filter test xs) (above_filter test x xs (rest_above x xs chain)) rest
    by false rest = rest

range_above : (n first count : ℕ) → n < first → are_above n (range_with_len first count) ≡ true
range_above n first zero less = refl
range_above n first (suc count) less = both _ _ (lt-ltb n first less) (range_above n (first + 1) count (omega (arith, less)))

range_ascends : (first count : ℕ) → is_chain nat_lt (range_with_len first count) ≡ true
range_ascends first zero = refl
range_ascends first (suc count) = ascends_from first (range_with_len (first + 1) count) (range_above first (first + 1) count (omega arith)) (range_ascends (first + 1) count)

-- The leaves of a definition.

row_ascends : (row : List ℕ) → is_row row ≡ true → is_chain nat_lt row ≡ true
row_ascends row h = right_of (has_members row) (is_chain nat_lt row) h

nodes_ascend : (points : List PointsRow) (key : Key) → list_all (λ r. is_row r.nodes) points ≡ true → is_chain nat_lt (nodes_for points key) ≡ true
nodes_ascend [] key rows = refl
nodes_ascend (r ∷ points) key rows = by (is_same_key r.key key) (nodes_ascend points key (right_of _ _ rows))
  where
    by : (b : Bool) → is_chain nat_lt (nodes_for points key) ≡ true → is_chain nat_lt (elim b as (λ z. List ℕ) [ true ↦ r.nodes | false ↦ nodes_for points key ]) ≡ true
    by true rest = row_ascends r.nodes (left_of _ _ rows)
    by false rest = rest

leaves_ascend : (c : Code) (points : List PointsRow) (f : ℕ) (i : Instr) → list_all (λ r. is_row r.nodes) points ≡ true → is_chain nat_lt (leaves_defined c points f i) ≡ true
leaves_ascend c points f (Instr.Set place a d) rows = refl
leaves_ascend c points f (Instr.Store a b d) rows = filter_ascends (is_leaf_node c) (nodes_for points (Key.Temp f a)) (nodes_ascend points (Key.Temp f a) rows)
leaves_ascend c points f (Instr.Call to g d args) rows = refl
leaves_ascend c points f i rows = refl

-- Facts.

-- in order, and all of definitions from this one on
record AscendFrom (first : ℕ) (facts : List Fact) : Type 0 where
  chain : is_chain fact_before facts ≡ true
  low : list_all (λ (fact : Fact). nat_le first fact.def) facts ≡ true

lower : (first later : ℕ) (facts : List Fact) → first ≤ later → list_all (λ (fact : Fact). nat_le later fact.def) facts ≡ true → list_all (λ (fact : Fact). nat_le first fact.def) facts ≡ true
lower first later [] le all = refl
lower first later (x ∷ facts) le all =
    let here = leb-true later x.def (left_of _ _ all) in
    both _ _ (le-leb first x.def (omega (arith, le, here))) (lower first later facts le (right_of _ _ all))

earlier_first : (d a e b : ℕ) → d < e → pair_before d a e b ≡ true
earlier_first d a e b less = ap (λ (t : Bool). if t then true else (nat_eq d e && nat_lt a b)) (lt-ltb d e less)

same_first : (d a b : ℕ) → nat_lt a b ≡ true → pair_before d a d b ≡ true
same_first d a b less = by (nat_lt d d)
  where
    by : (t : Bool) → (if t then true else (nat_eq d d && nat_lt a b)) ≡ true
    by true = refl
    by false = both _ _ (eq-eqb d d refl) less

-- the facts of one definition, in front of those of later ones
facts_more : (d : ℕ) (leaves : List ℕ) (rest : List Fact) → is_chain nat_lt leaves ≡ true → AscendFrom (suc d) rest → AscendFrom d (facts_by (record { number = d; leaves = leaves }) ++ rest)
facts_more d [] rest chain later = record { chain = later.chain; low = lower d (suc d) rest (omega arith) later.low }
facts_more d (x ∷ []) rest chain later = record { chain = front rest later; low = both _ _ (le-leb d d (omega arith)) (lower d (suc d) rest (omega arith) later.low) }
  where
    front : (rest : List Fact) → AscendFrom (suc d) rest → is_chain fact_before (record { def = d; leaf = x } ∷ rest) ≡ true
    front [] later = refl
    front (y ∷ rest) later = (let above = leb-true (suc d) y.def (left_of _ _ later.low) in both _ _ (earlier_first d x y.def y.leaf (omega (arith, above))) later.chain)
facts_more d (x ∷ y ∷ leaves) rest chain later =
    let more = facts_more d (y ∷ leaves) rest (right_of _ _ chain) later in
    record { chain = both _ _ (same_first d x y (left_of _ _ chain)) more.chain; low = both _ _ (le-leb d d (omega arith)) more.low }

abbrev all_facts : List Access → List Fact
all_facts accesses = flat_map facts_by accesses

module _ (leaves : ℕ → Instr → List ℕ) (ascend : (f : ℕ) (i : Instr) → is_chain nat_lt (leaves f i) ≡ true) where
  abbrev lines_by : ℕ → Lined → List Lined → Option ℕ → List Access
  lines_by f x code o = elim o [ Some n ↦ record { number = n; leaves = leaves f x.instr } ∷ accesses_in new_def leaves f code | None ↦ accesses_in new_def leaves f code ]

  abbrev numbers_by : List Lined → Option ℕ → List ℕ
  numbers_by code o = elim o [ Some n ↦ n ∷ numbers_in new_def code | None ↦ numbers_in new_def code ]

  of_lines : (f first : ℕ) (code : List Lined) (rest : List Access) → IsCount first (numbers_in new_def code) → AscendFrom (first + length (numbers_in new_def code)) (all_facts rest)
      → AscendFrom first (all_facts (accesses_in new_def leaves f code ++ rest))
  of_lines f first [] rest count later = (let same : first + 0 ≡ first = omega arith in subst (λ n. AscendFrom n (all_facts rest)) same later)
  of_lines f first (x ∷ code) rest count later = by (new_def x.instr) count later (λ k. of_lines f k code rest)
    where
      by : (o : Option ℕ) → IsCount first (numbers_by code o) → AscendFrom (first + length (numbers_by code o)) (all_facts rest)
          → ((k : ℕ) → IsCount k (numbers_in new_def code) → AscendFrom (k + length (numbers_in new_def code)) (all_facts rest) → AscendFrom k (all_facts (accesses_in new_def leaves f code ++ rest)))
          → AscendFrom first (all_facts (lines_by f x code o ++ rest))
      by None count later go = go first count later
      by (Some n) count later go =
          let one = first_is first n (numbers_in new_def code) count in
          let move : first + suc (length (numbers_in new_def code)) ≡ first + 1 + length (numbers_in new_def code) = omega arith in
          let tail = go (first + 1) one.1 (subst (λ k. AscendFrom k (all_facts rest)) move later) in
          let up : first + 1 ≡ suc first = omega arith in
          subst (λ k. AscendFrom first (facts_by (record { number = k; leaves = leaves f x.instr }) ++ all_facts (accesses_in new_def leaves f code ++ rest))) (sym one.0)
          (facts_more first (leaves f x.instr) (all_facts (accesses_in new_def leaves f code ++ rest)) (ascend f x.instr)
          (subst (λ k. AscendFrom k (all_facts (accesses_in new_def leaves f code ++ rest))) up tail))

  of_funs : (f first : ℕ) (funs : List Fun) → IsCount first (numbers_in_funs new_def funs) → AscendFrom first (all_facts (accesses_in_funs new_def leaves f funs))
  of_funs f first [] count = record { chain = refl; low = refl }
  of_funs f first (x ∷ funs) count =
      let parts = in_parts first (numbers_in new_def x.code) (numbers_in_funs new_def funs) count in
      of_lines f first x.code (accesses_in_funs new_def leaves (suc f) funs) parts.0 (of_funs (suc f) (first + length (numbers_in new_def x.code)) funs parts.1)

leaves_of_global_ascend : (c : Code) (v : ℕ) → is_chain nat_lt (leaves_of_global c v) ≡ true
leaves_of_global_ascend c v =
    let first = global_node c v in
    let count = shape_nodes c (slice_index (shapes_of_globals c) v) in
    filter_ascends (is_leaf_node c) (range_with_len first count) (range_ascends first count)

abbrev start_of : Code → ℕ → Access
start_of c v = record { number = suc v; leaves = leaves_of_global c v }

of_starts : (c : Code) (first n : ℕ) (rest : List Access) → ((v : ℕ) → is_chain nat_lt (leaves_of_global c v) ≡ true) → AscendFrom (suc (first + n)) (all_facts rest)
    → AscendFrom (suc first) (all_facts (map (start_of c) (range_with_len first n) ++ rest))
of_starts c first zero rest ascend later = (let same : suc (first + 0) ≡ suc first = omega arith in subst (λ k. AscendFrom k (all_facts rest)) same later)
of_starts c first (suc n) rest ascend later =
    let move : suc (first + suc n) ≡ suc (first + 1 + n) = omega arith in
    let tail = of_starts c (first + 1) n rest ascend (subst (λ k. AscendFrom k (all_facts rest)) move later) in
    let up : suc (first + 1) ≡ suc (suc first) = omega arith in
    facts_more (suc first) (leaves_of_global c first) (all_facts (map (start_of c) (range_with_len (first + 1) n) ++ rest)) (ascend first)
    (subst (λ k. AscendFrom k (all_facts (map (start_of c) (range_with_len (first + 1) n) ++ rest))) up tail)

pub facts_ascend : FactsAscend
facts_ascend c good points rows =
    let made = of_funs (leaves_defined c points) (λ f i. leaves_ascend c points f i rows) 0 (length c.globals + 1) c.funs good.numbers.defs in
    let up : length c.globals + 1 ≡ suc (0 + length c.globals) = omega arith in
    (of_starts c 0 (length c.globals) (accesses_in_funs new_def (leaves_defined c points) 0 c.funs)
    (λ v. leaves_of_global_ascend c v)
    (subst (λ k. AscendFrom k (all_facts (accesses_in_funs new_def (leaves_defined c points) 0 c.funs))) up made)).chain
