-- No two things have one row.
use Rattle.std.proofs.Common.{◌≡◌, ℕ, zero, suc, ◌+◌, ◌<◌, ◌≤◌, List, [], ◌∷◌, ◌++◌, length, map, sum, take, refl, sym, ap, ap₂, ◌∙◌, arith, Some, None, inl, inr, ◌⊎◌}
use Rattle.std.specs.Prelude.{slice_get, slice_index}
use Rattle.std.proofs.lemmas.List.Sums.{sum-map, sum_by-cons}
use Rattle.tac_ir.specs.declared.code.Code.{Code}
use Rattle.tac_ir.specs.declared.code.Fun.{Fun}
use Rattle.tac_ir.specs.Counts.{temps_of, temps_of_fun, temps_in_code, nodes_in_code}
use Rattle.tac_ir.specs.GoodForm.{GoodForm}
use Rattle.std.proofs.lemmas.List.{length-append, take_all, get_or_append_left, get_or-append-add}
use Rattle.flow_rules.proofs.ShapeNodes.{nodes_le}
use Rattle.points_to.specs.tools.RowMaps.{AreStarts}
use Rattle.points_to.specs.Rows.{Row, temps_before, row_number, row_count, IsRow}
use Rattle.points_to.specs.Rows.Row.{in_node, in_temp, leaves_in, returned}

pub lt_or : (a b : ℕ) → (a < b) ⊎ (b ≤ a)
lt_or a zero = inr (omega arith)
lt_or zero (suc b) = inl (omega arith)
lt_or (suc a) (suc b) = elim (lt_or a b) [ inl less ↦ inl (omega (arith, less)) | inr more ↦ inr (omega (arith, more)) ]

sum_step : (x : Fun) (xs : List Fun) → sum (map temps_of_fun (x ∷ xs)) ≡ temps_of_fun x + sum (map temps_of_fun xs)
sum_step x xs = sum-map temps_of_fun (x ∷ xs) ∙ sum_by-cons temps_of_fun x xs ∙ ap (λ n. temps_of_fun x + n) (sym (sum-map temps_of_fun xs))

abbrev temps_at : List Fun → ℕ → ℕ
temps_at funs f = elim (slice_get funs f) [ None ↦ 0 | Some fun ↦ temps_of_fun fun ]

abbrev before : List Fun → ℕ → ℕ
before funs f = sum (map temps_of_fun (take f funs))

within_all : (funs : List Fun) (f t : ℕ) → t < temps_at funs f → before funs f + t < sum (map temps_of_fun funs)
within_all [] f t low = absurd (omega (arith, low))
within_all (x ∷ funs) zero t low = (let all = sum_step x funs in let none : before (x ∷ funs) 0 ≡ 0 = refl in omega (arith, low, all, none))
within_all (x ∷ funs) (suc f) t low =
    let all = sum_step x funs in
    let front = sum_step x (take f funs) in
    let rest = within_all funs f t low in
    let here : before (x ∷ funs) (suc f) ≡ temps_of_fun x + before funs f = front in
    omega (arith, all, here, rest)

in_order : (funs : List Fun) (f g t : ℕ) → f < g → t < temps_at funs f → before funs f + t < before funs g
in_order [] f g t less low = absurd (omega (arith, low))
in_order (x ∷ funs) f zero t less low = absurd (omega (arith, less))
in_order (x ∷ funs) zero (suc g) t less low =
    let none : before (x ∷ funs) 0 ≡ 0 = refl in
    let front : before (x ∷ funs) (suc g) ≡ temps_of_fun x + before funs g = sum_step x (take g funs) in
    omega (arith, low, none, front)
in_order (x ∷ funs) (suc f) (suc g) t less low =
    let one : before (x ∷ funs) (suc f) ≡ temps_of_fun x + before funs f = sum_step x (take f funs) in
    let two : before (x ∷ funs) (suc g) ≡ temps_of_fun x + before funs g = sum_step x (take g funs) in
    let rest = in_order funs f g t (omega (arith, less)) low in
    omega (arith, one, two, rest)

pub temp_within : (c : Code) (f t : ℕ) → t < temps_of c f → temps_before c f + t < temps_in_code c
temp_within c f t low = within_all c.funs f t low

same_fun : (c : Code) (f t g u : ℕ) → t < temps_of c f → u < temps_of c g → temps_before c f + t ≡ temps_before c g + u → f ≡ g
same_fun c f t g u low low' same = elim (lt_or f g) [
  | inl less ↦ absurd (let order = in_order c.funs f g t less low in omega (arith, order, same))
  | inr more ↦ elim (lt_or g f) [
    | inl less ↦ absurd (let order = in_order c.funs g f u less low' in omega (arith, order, same))
    | inr less ↦ omega (arith, more, less)
  ]
]

same_temp : (c : Code) (f t g u : ℕ) → t < temps_of c f → u < temps_of c g → temps_before c f + t ≡ temps_before c g + u → (f ≡ g) × (t ≡ u)
same_temp c f t g u low low' same =
    let one = same_fun c f t g u low low' same in
    let at : temps_before c f ≡ temps_before c g = ap (temps_before c) one in
    (one, omega (arith, same, at))

pub one_row : (c : Code) (a b : Row) → IsRow c a → IsRow c b → row_number c a ≡ row_number c b → a ≡ b
one_row c (in_node n) (in_node m) low low' same = ap in_node same
one_row c (in_node n) (in_temp g u) low low' same = absurd (omega (arith, low, same))
one_row c (in_node n) (leaves_in g u) low low' same = absurd (omega (arith, low, same))
one_row c (in_node n) (returned g) low low' same = absurd (omega (arith, low, same))
one_row c (in_temp f t) (in_node m) low low' same = absurd (omega (arith, low', same))
one_row c (in_temp f t) (in_temp g u) low low' same = (let one = same_temp c f t g u low low' (omega (arith, same)) in ap₂ in_temp one.0 one.1)
one_row c (in_temp f t) (leaves_in g u) low low' same = absurd (let w = temp_within c f t low in omega (arith, w, same))
one_row c (in_temp f t) (returned g) low low' same = absurd (let w = temp_within c f t low in omega (arith, w, same))
one_row c (leaves_in f t) (in_node m) low low' same = absurd (omega (arith, low', same))
one_row c (leaves_in f t) (in_temp g u) low low' same = absurd (let w = temp_within c g u low' in omega (arith, w, same))
one_row c (leaves_in f t) (leaves_in g u) low low' same = (let one = same_temp c f t g u low low' (omega (arith, same)) in ap₂ leaves_in one.0 one.1)
one_row c (leaves_in f t) (returned g) low low' same = absurd (let w = temp_within c f t low in omega (arith, w, same))
one_row c (returned f) (in_node m) low low' same = absurd (omega (arith, low', same))
one_row c (returned f) (in_temp g u) low low' same = absurd (let w = temp_within c g u low' in omega (arith, w, same))
one_row c (returned f) (leaves_in g u) low low' same = absurd (let w = temp_within c g u low' in omega (arith, w, same))
one_row c (returned f) (returned g) low low' same = ap returned (omega (arith, same))

-- Tables of the temporaries before functions.

pub last_start : (c : Code) → temps_before c (length c.funs) ≡ temps_in_code c
last_start c = ap (λ l. sum (map temps_of_fun l)) (take_all (length c.funs) c.funs (omega arith))

pub next_start : (c : Code) (f : ℕ) → f < length c.funs → temps_before c (f + 1) ≡ temps_before c f + temps_of c f
next_start c f low = go c.funs f low
  where
    go : (funs : List Fun) (f : ℕ) → f < length funs → before funs (f + 1) ≡ before funs f + temps_at funs f
    go [] f low = absurd (omega (arith, low))
    go (x ∷ funs) zero low = (let one : before (x ∷ funs) 1 ≡ temps_of_fun x + before funs 0 = sum_step x (take 0 funs) in
        let none : before funs 0 ≡ 0 = refl in let none' : before (x ∷ funs) 0 ≡ 0 = refl in omega (arith, one, none, none'))
    go (x ∷ funs) (suc f) low =
        let next : suc f + 1 ≡ suc (f + 1) = omega arith in
        let one : before (x ∷ funs) (suc f + 1) ≡ temps_of_fun x + before funs (f + 1) = ap (before (x ∷ funs)) next ∙ sum_step x (take (f + 1) funs) in
        let two : before (x ∷ funs) (suc f) ≡ temps_of_fun x + before funs f = sum_step x (take f funs) in
        let rest = go funs f (omega (arith, low)) in
        omega (arith, one, two, rest)

pub start_within : (c : Code) (f : ℕ) → temps_before c f ≤ temps_in_code c
start_within c f = nodes_le temps_of_fun c.funs f

pub starts_more : (c : Code) (f next : ℕ) (starts : List ℕ) → AreStarts c f starts → next ≡ temps_before c f → AreStarts c (f + 1) (starts ++ next ∷ [])
starts_more c f next starts are is = record {
  long = omega (arith, length-append starts (next ∷ []), are.long);
  each = λ g low. elim (lt_or g f) [
    | inl early ↦ get_or_append_left starts (next ∷ []) 0 g (omega (arith, early, are.long)) ∙ are.each g early
    | inr late ↦
        let here : g ≡ length starts + 0 = omega (arith, late, low, are.long) in
        let same : g ≡ f = omega (arith, late, low) in
        ap (slice_index (starts ++ next ∷ [])) here ∙ get_or-append-add starts (next ∷ []) 0 0 ∙ is ∙ ap (temps_before c) (sym same)
  ];
}

pub no_starts : (c : Code) → AreStarts c 0 []
no_starts c = record { long = refl; each = λ f low. absurd (omega (arith, low)) }

-- Limits.

pub temp_fits : (c : Code) → GoodForm c → (f t : ℕ) → t < temps_of c f → temps_before c f + t < 32768
temp_fits c good f t low = (let within = temp_within c f t low in let few = good.limits.temps in omega (arith, within, few))

pub few_nodes : (c : Code) → GoodForm c → nodes_in_code c ≤ 16384
few_nodes c good = good.limits.nodes

pub few_temps : (c : Code) → GoodForm c → temps_in_code c ≤ 32768
few_temps c good = good.limits.temps

pub temps_low : (c : Code) → GoodForm c → (f : ℕ) → f < length c.funs → temps_of c f ≤ 32768
temps_low c good f low = (let next = next_start c f low in let within = start_within c (f + 1) in let few = few_temps c good in omega (arith, next, within, few))

pub row_low : (c : Code) (row : Row) → IsRow c row → row_number c row < row_count c
row_low c (in_node n) low = omega (arith, low)
row_low c (in_temp f t) low = (let within = temp_within c f t low in omega (arith, within))
row_low c (leaves_in f t) low = (let within = temp_within c f t low in omega (arith, within))
row_low c (returned f) low = omega (arith, low)
