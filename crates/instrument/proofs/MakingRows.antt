-- Rows are made point by point, function by function.
use Rattle.std.proofs.Common.{◌≡◌, ℕ, zero, suc, ◌+◌, ◌<◌, ◌≤◌, Bool, List, [], ◌∷◌, ◌++◌, length, map, sum, take, drop, get_or, refl, sym, ap, ◌∙◌, arith, append_assoc, append-nil}
use Rattle.std.proofs.lemmas.List.{length-take-le}
use Rattle.std.proofs.Math.Seq.{take-suc}
use Rattle.std.proofs.lemmas.List.Sums.{sum-map, sum_by-cons}
use Rattle.dfi_base.specs.Bits.{members}
use Rattle.tac_ir.specs.declared.code.Fun.{Fun}
use Rattle.flow_rules.specs.PointNumber.{point_at}
use Rattle.instrument.specs.tools.MadeRows.{row_if, rows_from, rows_of}

abbrev pub size : Fun → ℕ
size fun = length fun.code

-- one row more
pub row_more : (f i : ℕ) (xs : List (List Bool)) (row : List Bool) → rows_of f i (xs ++ row ∷ []) ≡ rows_of f i xs ++ row_if (point_at f (i + length xs)) (members row)
row_more f i [] row = append-nil (row_if (point_at f i) (members row)) ∙ ap (λ n. row_if (point_at f n) (members row)) (omega arith)
row_more f i (x ∷ xs) row =
    ap (λ ys. row_if (point_at f i) (members x) ++ ys) (row_more f (i + 1) xs row ∙ ap (λ n. rows_of f (i + 1) xs ++ row_if (point_at f n) (members row)) (omega arith))
    ∙ sym (append_assoc (row_if (point_at f i) (members x)) (rows_of f (i + 1) xs) (row_if (point_at f (i + length (x ∷ xs))) (members row)))

pub next : (a b : ℕ) → suc (a + b) ≡ suc a + b
next a b = omega arith

-- the points of the first function, and of the others
pub size_first : (x : Fun) (funs : List Fun) → sum (map size (x ∷ funs)) ≡ size x + sum (map size funs)
size_first x funs = omega (arith, sum-map size (x ∷ funs), sum-map size funs, sum_by-cons size x funs)

drop_drop : (a b : ℕ) (xs : List (List Bool)) → drop b (drop a xs) ≡ drop (a + b) xs
drop_drop zero b xs = ap (λ n. drop n xs) (omega arith)
drop_drop (suc a) b [] = drop_none b ∙ sym (drop_none (suc a + b))
  where
    drop_none : (n : ℕ) → drop {A = List Bool} n [] ≡ []
    drop_none zero = refl
    drop_none (suc n) = refl
drop_drop (suc a) b (x ∷ xs) = drop_drop a b xs ∙ ap (λ n. drop n (x ∷ xs)) (next a b)

pub dropped : (n i : ℕ) (rows : List (List Bool)) (d : List Bool) → get_or (drop n rows) i d ≡ get_or rows (n + i) d
dropped zero i rows d = ap (λ k. get_or rows k d) (omega arith)
dropped (suc n) i [] d = refl
dropped (suc n) i (row ∷ rows) d = dropped n i rows d ∙ ap (λ k. get_or (row ∷ rows) k d) (next n i)

pub dropped_length : (n : ℕ) (rows : List (List Bool)) → n ≤ length rows → n + length (drop n rows) ≡ length rows
dropped_length zero rows low = omega arith
dropped_length (suc n) [] low = absurd (omega (arith, low))
dropped_length (suc n) (row ∷ rows) low = (let rest = dropped_length n rows (omega (arith, low)) in omega (arith, rest))

-- one function more
pub fun_more : (f : ℕ) (funs : List Fun) (fun : Fun) (rows : List (List Bool)) → rows_from f (funs ++ fun ∷ []) rows ≡ rows_from f funs rows ++ rows_of (f + length funs) 0 (take (size fun) (drop (sum (map size funs)) rows))
fun_more f [] fun rows = append-nil (rows_of f 0 (take (size fun) rows)) ∙ ap (λ n. rows_of n 0 (take (size fun) rows)) (omega arith)
fun_more f (x ∷ funs) fun rows =
    ap (λ ys. rows_of f 0 (take (size x) rows) ++ ys) (fun_more (f + 1) funs fun (drop (size x) rows)
    ∙ ap (λ n. rows_from (f + 1) funs (drop (size x) rows) ++ rows_of n 0 (take (size fun) (drop (sum (map size funs)) (drop (size x) rows)))) (omega arith)
    ∙ ap (λ ys. rows_from (f + 1) funs (drop (size x) rows) ++ rows_of (f + length (x ∷ funs)) 0 (take (size fun) ys)) (drop_drop (size x) (sum (map size funs)) rows ∙ ap (λ n. drop n rows) (sym (size_first x funs))))
    ∙ sym (append_assoc (rows_of f 0 (take (size x) rows)) (rows_from (f + 1) funs (drop (size x) rows)) (rows_of (f + length (x ∷ funs)) 0 (take (size fun) (drop (sum (map size (x ∷ funs))) rows))))

length_is : (at : ℕ) (rest : List (List Bool)) → at ≤ length rest → 0 + length (take at rest) ≡ at
length_is at rest low = omega (arith, length-take-le at rest low)

after : (n : ℕ) → n + 1 ≡ suc n
after n = omega arith

-- one row more of those from a place on
pub row_at : (f first at : ℕ) (rows : List (List Bool)) (row : List Bool) → first + at < length rows → row ≡ get_or rows (first + at) row
    → rows_of f 0 (take (at + 1) (drop first rows)) ≡ rows_of f 0 (take at (drop first rows)) ++ row_if (point_at f at) (members row)
row_at f first at rows row low is =
    let rest = drop first rows in
    let long : at < length rest = omega (arith, low, dropped_length first rows (omega (arith, low))) in
    let one : take (at + 1) rest ≡ take at rest ++ row ∷ [] = ap (λ n. take n rest) (after at) ∙ take-suc rest at row long ∙ ap (λ x. take at rest ++ x ∷ []) (dropped first at rows row ∙ sym is) in
    ap (rows_of f 0) one ∙ row_more f 0 (take at rest) row ∙ ap (λ n. rows_of f 0 (take at rest) ++ row_if (point_at f n) (members row)) (length_is at rest (omega (arith, long)))

-- and one function more
pub fun_at : (funs : List Fun) (k : ℕ) (x : Fun) (rows : List (List Bool)) (first count : ℕ) → k < length funs → x ≡ get_or funs k x → first ≡ sum (map size (take k funs)) → count ≡ size x
    → rows_from 0 (take (k + 1) funs) rows ≡ rows_from 0 (take k funs) rows ++ rows_of k 0 (take count (drop first rows))
fun_at funs k x rows first count low is before own =
    let one : take (k + 1) funs ≡ take k funs ++ x ∷ [] = ap (λ n. take n funs) (after k) ∙ take-suc funs k x low ∙ ap (λ y. take k funs ++ y ∷ []) (sym is) in
    let place : 0 + length (take k funs) ≡ k = omega (arith, length-take-le k funs (omega (arith, low))) in
    ap (λ fs. rows_from 0 fs rows) one ∙ fun_more 0 (take k funs) x rows
    ∙ ap (λ n. rows_from 0 (take k funs) rows ++ rows_of n 0 (take (size x) (drop (sum (map size (take k funs))) rows))) place
    ∙ ap (λ n. rows_from 0 (take k funs) rows ++ rows_of k 0 (take (size x) (drop n rows))) (sym before)
    ∙ ap (λ n. rows_from 0 (take k funs) rows ++ rows_of k 0 (take n (drop first rows))) (sym own)

-- the points of the functions before it, and of it
pub record IsFunStep (funs : List Fun) (k : ℕ) (x : Fun) : Type 0 where
  pub fits : sum (map size (take k funs)) + size x ≤ sum (map size funs)
  pub next : sum (map size (take (k + 1) funs)) ≡ sum (map size (take k funs)) + size x

pub fun_step : (funs : List Fun) (k : ℕ) (x : Fun) → k < length funs → x ≡ get_or funs k x → IsFunStep funs k x
fun_step [] k x low is = absurd (omega (arith, low))
fun_step (y ∷ funs) zero x low is = record {
  fits = omega (arith, size_first y funs, ap size is);
  next = size_first y [] ∙ turned (size y) (size x) (ap size is);
} where
  turned : (a b : ℕ) → b ≡ a → a + 0 ≡ 0 + b
  turned a b e = omega (arith, e)
fun_step (y ∷ funs) (suc k) x low is =
    let rest = fun_step funs k x (omega (arith, low)) is in
    let fits = rest.fits in
    let next = rest.next in
    record {
      fits = omega (arith, fits, size_first y funs, size_first y (take k funs));
      next = ap (λ n. sum (map size (take n (y ∷ funs)))) (shift k) ∙ omega (arith, next, size_first y (take (k + 1) funs), size_first y (take k funs));
    }
  where
    shift : (k : ℕ) → suc k + 1 ≡ suc (k + 1)
    shift k = omega arith
