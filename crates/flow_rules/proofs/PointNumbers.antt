-- The numbers of points.
use Rattle.std.proofs.Common.{◌≡◌, ℕ, ◌+◌, ◌<◌, ◌≤◌, List, [], length, get_or, take, map, sum, refl, sym, ap, ◌∙◌, arith, Option, Some, None}
use Rattle.std.specs.Prelude.{slice_get}
use Rattle.std.proofs.lemmas.List.{length-take-le, get_or-take}
use Rattle.std.proofs.lemmas.Option.{slice_get_within, slice_get-get_or}
use Rattle.dfi_base.specs.declared.numbers.Point.{Point}
use Rattle.tac_ir.specs.declared.code.Code.{Code}
use Rattle.tac_ir.specs.declared.code.Fun.{Fun}
use Rattle.tac_ir.specs.declared.code.Lined.{Lined}
use Rattle.tac_ir.specs.Counts.{points_in_code}
use Rattle.tac_ir.specs.GoodModule.{IsPoint}
use Rattle.flow_rules.specs.PointNumber.{point_number}
use Rattle.flow_rules.proofs.ShapeNodes.{nodes_more, nodes_with}

abbrev pub size : Fun → ℕ
size fun = length fun.code

-- the function of a point
pub record IsInFun (c : Code) (p : Point) (fun : Fun) : Type 0 where
  pub found : slice_get c.funs p.fun ≡ Some fun
  pub exists : p.fun < length c.funs
  pub low : p.at < length fun.code

pub fun_of : (c : Code) (p : Point) → IsPoint c p → (fun : Fun) × IsInFun c p fun
fun_of c p h = by (slice_get c.funs p.fun) refl h
  where
    by : (o : Option Fun) → slice_get c.funs p.fun ≡ o → p.at < length (elim o as (λ z. List Lined) [ None ↦ [] | Some fun ↦ fun.code ]) → (fun : Fun) × IsInFun c p fun
    by None is h = absurd (omega (arith, h))
    by (Some fun) is h = (fun, record { found = is; exists = slice_get_within c.funs p.fun fun is; low = h })

pub number_below : (c : Code) (p : Point) → IsPoint c p → point_number c p < points_in_code c
number_below c p h =
    let f = fun_of c p h in
    let fun = f.0 in
    let low = f.1.low in
    let item : get_or c.funs p.fun fun ≡ fun = (let here : Some (get_or c.funs p.fun fun) ≡ Some fun = sym (slice_get-get_or c.funs p.fun fun f.1.exists) ∙ f.1.found in cc) in
    omega (arith, nodes_with size c.funs p.fun fun f.1.exists, ap size item, low)

-- a step of a loop over the functions before one
pub record IsCountStep (c : Code) (i n : ℕ) : Type 0 where
  pub fits : sum (map size (take i c.funs)) + n ≤ points_in_code c
  pub next : sum (map size (take (i + 1) c.funs)) ≡ sum (map size (take i c.funs)) + n

pub count_step : (c : Code) (fs : List Fun) → fs ≡ c.funs → (n i : ℕ) (x : Fun) → n ≤ length c.funs → i < length (take n fs) → x ≡ get_or (take n fs) i x → IsCountStep c i (length x.code)
count_step c fs same n i x low here is = record { fits = omega (arith, nodes_with size c.funs i x below, ap size item); next = omega (arith, nodes_more size c.funs i x below, ap size item) }
  where
    count : length (take n fs) ≡ n
    count = length-take-le n fs (omega (arith, low, ap length same))

    below : i < length c.funs
    below = omega (arith, here, count, low)

    item : x ≡ get_or c.funs i x
    item = is ∙ get_or-take n fs i x (omega (arith, here, count)) ∙ ap (λ xs. get_or xs i x) same
