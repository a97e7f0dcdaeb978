-- What rows that are made of rows of bits say of each point, and their order.
use Rattle.std.proofs.Common.{◌≡◌, ℕ, zero, suc, ◌+◌, ◌<◌, ◌≤◌, inl, inr, Bool, true, false, ◌&&◌, nat_eq, nat_lt, List, [], ◌∷◌, ◌++◌, length, map, sum, take, drop, refl, sym, ap, ◌∙◌, subst, arith, append_assoc, Option, Some, None}
use Rattle.std.specs.Prelude.{All, slice_get, slice_index_or}
use Rattle.std.specs.List.{AllByRecursion, list_all}
use Rattle.std.proofs.lemmas.List.Elements.{All-from_recursion, recursion_from_All}
use Rattle.std.proofs.lemmas.Bool.{eqb-true, lt-ltb, ne_eqb}
use Rattle.dfi_base.specs.declared.numbers.Point.{Point}
use Rattle.dfi_base.specs.Bits.{members, members_from}
use Rattle.tac_ir.specs.declared.code.Code.{Code}
use Rattle.tac_ir.specs.declared.code.Fun.{Fun}
use Rattle.tac_ir.specs.declared.code.Lined.{Lined}
use Rattle.tac_ir.specs.declared.module.Reach.{Reach}
use Rattle.tac_ir.specs.declared.module.ReachRow.{ReachRow}
use Rattle.tac_ir.specs.Counts.{points_in_code}
use Rattle.tac_ir.specs.GoodModule.{IsPoint}
use Rattle.tac_ir.specs.Layout.{lines_of}
use Rattle.tac_ir.specs.Module.{is_chain, is_row, point_before}
use Rattle.flow_rules.specs.PointNumber.{point_at}
use Rattle.flow_rules.specs.ReachRows.{row_of}
use Rattle.flow_rules.specs.Tables.{facts_at, is_point}
use Rattle.module_law.proofs.Ascending.{both, never}
use Rattle.module_law.proofs.Orders.{before_is, point_itself}
use Rattle.instrument.specs.Instruments.{IsRowOf}
use Rattle.instrument.specs.tools.MadeRows.{row_if, rows_from, rows_of}
use Rattle.instrument.proofs.MakingRows.{dropped, dropped_length, size, size_first}

-- Members of a row ascend.

members_below : (x at : ℕ) (row : List Bool) → x < at → is_chain nat_lt (x ∷ members_from at row) ≡ true
members_below x at [] low = refl
members_below x at (true ∷ row) low = ap (λ b. b && is_chain nat_lt (at ∷ members_from (suc at) row)) (lt-ltb x at low) ∙ members_below at (suc at) row (omega arith)
members_below x at (false ∷ row) low = members_below x (suc at) row (omega (arith, low))

pub members_chain : (at : ℕ) (row : List Bool) → is_chain nat_lt (members_from at row) ≡ true
members_chain at [] = refl
members_chain at (true ∷ row) = members_below at (suc at) row (omega arith)
members_chain at (false ∷ row) = members_chain (suc at) row

-- Rows without a point.

abbrev pub Avoids : Point → List ReachRow → Type 0
Avoids p [] = Unit {0}
Avoids p (r ∷ rows) = (is_point r.point p ≡ false) × Avoids p rows

avoids_append : (p : Point) (xs ys : List ReachRow) → Avoids p xs → Avoids p ys → Avoids p (xs ++ ys)
avoids_append p [] ys one two = two
avoids_append p (x ∷ xs) ys one two = (one.0, avoids_append p xs ys one.1 two)

none_found : (p : Point) (xs : List ReachRow) → Avoids p xs → facts_at xs p ≡ []
none_found p [] none = refl
none_found p (x ∷ xs) none = ap (λ b. elim b as (λ z. List ℕ) [ true ↦ x.facts | false ↦ facts_at xs p ]) none.0 ∙ none_found p xs none.1

found_behind : (p : Point) (xs ys : List ReachRow) → Avoids p xs → facts_at (xs ++ ys) p ≡ facts_at ys p
found_behind p [] ys none = refl
found_behind p (x ∷ xs) ys none = ap (λ b. elim b as (λ z. List ℕ) [ true ↦ x.facts | false ↦ facts_at (xs ++ ys) p ]) none.0 ∙ found_behind p xs ys none.1

found_before : (p : Point) (xs ys : List ReachRow) → Avoids p ys → facts_at (xs ++ ys) p ≡ facts_at xs p
found_before p [] ys none = none_found p ys none
found_before p (x ∷ xs) ys none = by (is_point x.point p) (found_before p xs ys none) where
  by : (b : Bool) → facts_at (xs ++ ys) p ≡ facts_at xs p → elim b as (λ z. List ℕ) [ true ↦ x.facts | false ↦ facts_at (xs ++ ys) p ] ≡ elim b as (λ z. List ℕ) [ true ↦ x.facts | false ↦ facts_at xs p ]
  by true rest = refl
  by false rest = rest

other_fun : (f i g j : ℕ) → (f ≡ g → ⊥) → is_point (point_at f i) (point_at g j) ≡ false
other_fun f i g j differ = ap (λ b. b && nat_eq i j) (ne_eqb f g differ)

other_at : (f i g j : ℕ) → (i ≡ j → ⊥) → is_point (point_at f i) (point_at g j) ≡ false
other_at f i g j differ = never (is_point (point_at f i) (point_at g j)) (λ h. differ (eqb-true i j (both (nat_eq f g) (nat_eq i j) h).1))

avoids_if : (p q : Point) (xs : List ℕ) → is_point q p ≡ false → Avoids p (row_if q xs)
avoids_if p q [] differ = tt
avoids_if p q (x ∷ xs) differ = (differ, tt)

-- those of another function, or of later points
fun_avoids : (f i g j : ℕ) (rows : List (List Bool)) → (f ≡ g → ⊥) → Avoids (point_at g j) (rows_of f i rows)
fun_avoids f i g j [] differ = tt
fun_avoids f i g j (row ∷ rows) differ = avoids_append (point_at g j) (row_if (point_at f i) (members row)) (rows_of f (i + 1) rows) (avoids_if (point_at g j) (point_at f i) (members row) (other_fun f i g j differ)) (fun_avoids f (i + 1) g j rows differ)

later_avoid : (f i j : ℕ) (rows : List (List Bool)) → j < i → Avoids (point_at f j) (rows_of f i rows)
later_avoid f i j [] low = tt
later_avoid f i j (row ∷ rows) low = avoids_append (point_at f j) (row_if (point_at f i) (members row)) (rows_of f (i + 1) rows) (avoids_if (point_at f j) (point_at f i) (members row) (other_at f i f j (λ e. omega (arith, low, e)))) (later_avoid f (i + 1) j rows (omega (arith, low)))

funs_avoid : (f g j : ℕ) (funs : List Fun) (rows : List (List Bool)) → g < f → Avoids (point_at g j) (rows_from f funs rows)
funs_avoid f g j [] rows low = tt
funs_avoid f g j (x ∷ funs) rows low = avoids_append (point_at g j) (rows_of f 0 (take (size x) rows)) (rows_from (f + 1) funs (drop (size x) rows)) (fun_avoids f 0 g j (take (size x) rows) (λ e. omega (arith, low, e))) (funs_avoid (f + 1) g j funs (drop (size x) rows) (omega (arith, low)))

-- What is found.

found_if : (q : Point) (xs : List ℕ) (rest : List ReachRow) → Avoids q rest → facts_at (row_if q xs ++ rest) q ≡ xs
found_if q [] rest none = none_found q rest none
found_if q (x ∷ xs) rest none = ap (λ b. elim b as (λ z. List ℕ) [ true ↦ x ∷ xs | false ↦ facts_at rest q ]) (point_itself q)

found_at : (f i k : ℕ) (rows : List (List Bool)) → k < length rows → facts_at (rows_of f i rows) (point_at f (i + k)) ≡ members (slice_index_or rows k [])
found_at f i k [] low = absurd (omega (arith, low))
found_at f i zero (row ∷ rows) low =
    subst (λ n. facts_at (rows_of f i (row ∷ rows)) (point_at f n) ≡ members row) (omega arith) (found_if (point_at f i) (members row) (rows_of f (i + 1) rows) (later_avoid f (i + 1) i rows (omega arith)))
found_at f i (suc k) (row ∷ rows) low =
    found_behind (point_at f (i + suc k)) (row_if (point_at f i) (members row)) (rows_of f (i + 1) rows) (avoids_if (point_at f (i + suc k)) (point_at f i) (members row) (other_at f i f (i + suc k) (λ e. omega (arith, e))))
    ∙ subst (λ n. facts_at (rows_of f (i + 1) rows) (point_at f n) ≡ members (slice_index_or rows k [])) (omega arith) (found_at f (i + 1) k rows (omega (arith, low)))

taken : (n i : ℕ) (rows : List (List Bool)) → i < n → slice_index_or (take n rows) i [] ≡ slice_index_or rows i []
taken zero i rows low = absurd (omega (arith, low))
taken (suc n) i [] low = refl
taken (suc n) zero (row ∷ rows) low = refl
taken (suc n) (suc i) (row ∷ rows) low = taken n i rows (omega (arith, low))

taken_length : (n : ℕ) (rows : List (List Bool)) → n ≤ length rows → length (take n rows) ≡ n
taken_length zero rows low = refl
taken_length (suc n) [] low = absurd (omega (arith, low))
taken_length (suc n) (row ∷ rows) low = ap suc (taken_length n rows (omega (arith, low)))

abbrev code_at : List Fun → ℕ → ℕ
code_at [] k = 0
code_at (x ∷ funs) zero = size x
code_at (x ∷ funs) (suc k) = code_at funs k

pub found_from : (g k i : ℕ) (funs : List Fun) (rows : List (List Bool)) → sum (map size funs) ≤ length rows → i < code_at funs k
    → facts_at (rows_from g funs rows) (point_at (g + k) i) ≡ members (slice_index_or rows (sum (map size (take k funs)) + i) [])
found_from g k i [] rows long low = absurd (omega (arith, low))
found_from g zero i (x ∷ funs) rows long low =
    let all = size_first x funs in
    let room : size x ≤ length rows = omega (arith, long, all) in
    ap (λ n. facts_at (rows_from g (x ∷ funs) rows) (point_at n i)) (omega arith)
    ∙ found_before (point_at g i) (rows_of g 0 (take (size x) rows)) (rows_from (g + 1) funs (drop (size x) rows)) (funs_avoid (g + 1) g i funs (drop (size x) rows) (omega arith))
    ∙ ap (λ n. facts_at (rows_of g 0 (take (size x) rows)) (point_at g n)) (omega arith)
    ∙ found_at g 0 i (take (size x) rows) (omega (arith, low, taken_length (size x) rows room))
    ∙ ap members (taken (size x) i rows low ∙ ap (λ n. slice_index_or rows n []) (omega arith))
found_from g (suc k) i (x ∷ funs) rows long low =
    let all = size_first x funs in
    let room : size x ≤ length rows = omega (arith, long, all) in
    found_behind (point_at (g + suc k) i) (rows_of g 0 (take (size x) rows)) (rows_from (g + 1) funs (drop (size x) rows)) (fun_avoids g 0 (g + suc k) i (take (size x) rows) (λ e. omega (arith, e)))
    ∙ ap (λ n. facts_at (rows_from (g + 1) funs (drop (size x) rows)) (point_at n i)) (omega arith)
    ∙ found_from (g + 1) k i funs (drop (size x) rows) (omega (arith, long, all, dropped_length (size x) rows room)) low
    ∙ ap members (dropped (size x) (sum (map size (take k funs)) + i) rows [] ∙ ap (λ n. slice_index_or rows n []) (omega (arith, size_first x (take k funs))))

-- Order.

abbrev pub AllBehind : Point → List ReachRow → Type 0
AllBehind p [] = Unit {0}
AllBehind p (r ∷ rows) = (point_before p r.point ≡ true) × AllBehind p rows

behind_append : (p : Point) (xs ys : List ReachRow) → AllBehind p xs → AllBehind p ys → AllBehind p (xs ++ ys)
behind_append p [] ys one two = two
behind_append p (x ∷ xs) ys one two = (one.0, behind_append p xs ys one.1 two)

abbrev ordered : List ReachRow → Bool
ordered = is_chain (λ a b. point_before a.point b.point)

chain_first : (r : ReachRow) (rows : List ReachRow) → AllBehind r.point rows → ordered rows ≡ true → ordered (r ∷ rows) ≡ true
chain_first r [] behind chain = refl
chain_first r (s ∷ rows) behind chain = ap (λ b. b && ordered (s ∷ rows)) behind.0 ∙ chain

behind_if : (p q : Point) (xs : List ℕ) → point_before p q ≡ true → AllBehind p (row_if q xs)
behind_if p q [] low = tt
behind_if p q (x ∷ xs) low = (low, tt)

same_fun : (f i j : ℕ) → i < j → point_before (point_at f i) (point_at f j) ≡ true
same_fun f i j low = before_is f i f j (inr (refl, low))

next_fun : (f g i j : ℕ) → f < g → point_before (point_at f i) (point_at g j) ≡ true
next_fun f g i j low = before_is f i g j (inl low)

rows_behind : (f i j : ℕ) (rows : List (List Bool)) → i < j → AllBehind (point_at f i) (rows_of f j rows)
rows_behind f i j [] low = tt
rows_behind f i j (row ∷ rows) low = behind_append (point_at f i) (row_if (point_at f j) (members row)) (rows_of f (j + 1) rows) (behind_if (point_at f i) (point_at f j) (members row) (same_fun f i j low)) (rows_behind f i (j + 1) rows (omega (arith, low)))

fun_behind : (f i g j : ℕ) (rows : List (List Bool)) → f < g → AllBehind (point_at f i) (rows_of g j rows)
fun_behind f i g j [] low = tt
fun_behind f i g j (row ∷ rows) low = behind_append (point_at f i) (row_if (point_at g j) (members row)) (rows_of g (j + 1) rows) (behind_if (point_at f i) (point_at g j) (members row) (next_fun f g i j low)) (fun_behind f i g (j + 1) rows low)

funs_behind : (f i g : ℕ) (funs : List Fun) (rows : List (List Bool)) → f < g → AllBehind (point_at f i) (rows_from g funs rows)
funs_behind f i g [] rows low = tt
funs_behind f i g (x ∷ funs) rows low = behind_append (point_at f i) (rows_of g 0 (take (size x) rows)) (rows_from (g + 1) funs (drop (size x) rows)) (fun_behind f i g 0 (take (size x) rows) low) (funs_behind f i (g + 1) funs (drop (size x) rows) (omega (arith, low)))

chain_with : (f i : ℕ) (rows : List (List Bool)) (ys : List ReachRow) → ((j : ℕ) → AllBehind (point_at f j) ys) → ordered ys ≡ true → ordered (rows_of f i rows ++ ys) ≡ true
chain_with f i [] ys behind chain = chain
chain_with f i (row ∷ rows) ys behind chain = by (members row) (chain_with f (i + 1) rows ys behind chain) where
  by : (xs : List ℕ) → ordered (rows_of f (i + 1) rows ++ ys) ≡ true → ordered ((row_if (point_at f i) xs ++ rows_of f (i + 1) rows) ++ ys) ≡ true
  by [] rest = rest
  by (x ∷ xs) rest = chain_first (record { point = point_at f i; facts = x ∷ xs }) (rows_of f (i + 1) rows ++ ys) (behind_append (point_at f i) (rows_of f (i + 1) rows) ys (rows_behind f i (i + 1) rows (omega arith)) (behind i)) rest

pub rows_ordered : (g : ℕ) (funs : List Fun) (rows : List (List Bool)) → ordered (rows_from g funs rows) ≡ true
rows_ordered g [] rows = refl
rows_ordered g (x ∷ funs) rows = chain_with g 0 (take (size x) rows) (rows_from (g + 1) funs (drop (size x) rows)) (λ j. funs_behind g j (g + 1) funs (drop (size x) rows) (omega arith)) (rows_ordered (g + 1) funs (drop (size x) rows))

-- no row is empty, and facts ascend
full_if : (q : Point) (xs : List ℕ) (rest : List ReachRow) → is_chain nat_lt xs ≡ true → list_all (λ r. is_row r.facts) rest ≡ true → list_all (λ r. is_row r.facts) (row_if q xs ++ rest) ≡ true
full_if q [] rest chain all = all
full_if q (x ∷ xs) rest chain all = ap (λ b. b && list_all (λ r. is_row r.facts) rest) chain ∙ all

full_of : (f i : ℕ) (rows : List (List Bool)) (rest : List ReachRow) → list_all (λ r. is_row r.facts) rest ≡ true → list_all (λ r. is_row r.facts) (rows_of f i rows ++ rest) ≡ true
full_of f i [] rest all = all
full_of f i (row ∷ rows) rest all =
    subst (λ zs. list_all (λ r. is_row r.facts) zs ≡ true) (sym (append_assoc (row_if (point_at f i) (members row)) (rows_of f (i + 1) rows) rest))
    (full_if (point_at f i) (members row) (rows_of f (i + 1) rows ++ rest) (members_chain 0 row) (full_of f (i + 1) rows rest all))

pub rows_full : (g : ℕ) (funs : List Fun) (rows : List (List Bool)) → list_all (λ r. is_row r.facts) (rows_from g funs rows) ≡ true
rows_full g [] rows = refl
rows_full g (x ∷ funs) rows = full_of g 0 (take (size x) rows) (rows_from (g + 1) funs (drop (size x) rows)) (rows_full (g + 1) funs (drop (size x) rows))

-- Their points exist.

lines_at : Option Fun → List Lined
lines_at o = elim o [ None ↦ [] | Some fun ↦ fun.code ]

-- the members of a row are below its length
members_within : (at n : ℕ) (row : List Bool) → at + length row ≤ n → AllByRecursion (λ x. x < n) (members_from at row)
members_within at n [] room = tt
members_within at n (true ∷ row) room = (omega (arith, room), members_within (suc at) n row (omega (arith, room)))
members_within at n (false ∷ row) room = members_within (suc at) n row (omega (arith, room))

module _ (c : Code) (r : Reach) where
  exist_if : (q : Point) (xs : List ℕ) (rest : List ReachRow) → IsPoint c q → AllByRecursion (λ x. x < length r.facts.pairs) xs → AllByRecursion (IsRowOf c r) rest → AllByRecursion (IsRowOf c r) (row_if q xs ++ rest)
  exist_if q [] rest is few all = all
  exist_if q (x ∷ xs) rest is few all = (record { point = is; facts = All-from_recursion (λ fact. fact < length r.facts.pairs) (x ∷ xs) few }, all)

  exist_of : (f i : ℕ) (rows : List (List Bool)) (rest : List ReachRow) → i + length rows ≤ length (lines_of c f) → AllByRecursion (λ row. length row ≡ length r.facts.pairs) rows
      → AllByRecursion (IsRowOf c r) rest → AllByRecursion (IsRowOf c r) (rows_of f i rows ++ rest)
  exist_of f i [] rest room wide all = all
  exist_of f i (row ∷ rows) rest room wide all =
      let own = wide.0 in
      subst (AllByRecursion (IsRowOf c r)) (sym (append_assoc (row_if (point_at f i) (members row)) (rows_of f (i + 1) rows) rest))
      (exist_if (point_at f i) (members row) (rows_of f (i + 1) rows ++ rest) (omega (arith, room)) (members_within 0 (length r.facts.pairs) row (omega (arith, own)))
      (exist_of f (i + 1) rows rest (omega (arith, room)) wide.1 all))

  taken_most : (n : ℕ) (rows : List (List Bool)) → length (take n rows) ≤ n
  taken_most zero rows = omega arith
  taken_most (suc n) [] = omega arith
  taken_most (suc n) (row ∷ rows) = (let rest = taken_most n rows in omega (arith, rest))

  wide_taken : (n : ℕ) (rows : List (List Bool)) → AllByRecursion (λ row. length row ≡ length r.facts.pairs) rows → AllByRecursion (λ row. length row ≡ length r.facts.pairs) (take n rows)
  wide_taken zero rows wide = tt
  wide_taken (suc n) [] wide = tt
  wide_taken (suc n) (row ∷ rows) wide = (wide.0, wide_taken n rows wide.1)

  wide_dropped : (n : ℕ) (rows : List (List Bool)) → AllByRecursion (λ row. length row ≡ length r.facts.pairs) rows → AllByRecursion (λ row. length row ≡ length r.facts.pairs) (drop n rows)
  wide_dropped zero rows wide = wide
  wide_dropped (suc n) [] wide = tt
  wide_dropped (suc n) (row ∷ rows) wide = wide_dropped n rows wide.1

  exist_from : (g : ℕ) (funs : List Fun) (rows : List (List Bool)) → ((k : ℕ) → k < length funs → length (lines_of c (g + k)) ≡ code_at funs k) → AllByRecursion (λ row. length row ≡ length r.facts.pairs) rows
      → AllByRecursion (IsRowOf c r) (rows_from g funs rows)
  exist_from g [] rows lines wide = tt
  exist_from g (x ∷ funs) rows lines wide =
      let own : length (lines_of c g) ≡ size x = ap (λ n. length (lines_of c n)) (omega arith) ∙ lines 0 (omega arith) in
      exist_of g 0 (take (size x) rows) (rows_from (g + 1) funs (drop (size x) rows)) (omega (arith, taken_most (size x) rows, own)) (wide_taken (size x) rows wide)
      (exist_from (g + 1) funs (drop (size x) rows) (λ k low. ap (λ n. length (lines_of c n)) (omega arith) ∙ lines (suc k) (omega (arith, low))) (wide_dropped (size x) rows wide))

code_is : (funs : List Fun) (k : ℕ) → length (lines_at (slice_get funs k)) ≡ code_at funs k
unfolding lines_at
code_is [] k = refl
code_is (x ∷ funs) zero = refl
code_is (x ∷ funs) (suc k) = code_is funs k

lines_length : (c : Code) (k : ℕ) → length (lines_of c k) ≡ code_at c.funs k
unfolding lines_at
lines_length c k = code_is c.funs k

pub points_exist : (c : Code) (r : Reach) → All (λ row. length row ≡ length r.facts.pairs) r.rows → All (IsRowOf c r) (rows_from 0 c.funs r.rows)
points_exist c r wide = All-from_recursion (IsRowOf c r) (rows_from 0 c.funs r.rows)
    (exist_from c r 0 c.funs r.rows (λ k low. ap (λ n. length (lines_of c n)) (omega arith) ∙ lines_length c k) (recursion_from_All (λ row. length row ≡ length r.facts.pairs) r.rows wide))

pub rows_found : (c : Code) (r : Reach) → length r.rows ≡ points_in_code c → (p : Point) → IsPoint c p → facts_at (rows_from 0 c.funs r.rows) p ≡ members (row_of c r p)
unfolding lines_at
rows_found c r count p is =
    ap (λ n. facts_at (rows_from 0 c.funs r.rows) (point_at n p.at)) (omega arith)
    ∙ found_from 0 p.fun p.at c.funs r.rows (omega (arith, count)) (subst (λ n. p.at < n) (code_is c.funs p.fun) is)
