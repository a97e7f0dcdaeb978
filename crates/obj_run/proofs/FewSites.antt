-- Code of a good form has few variables: each has a node.
use Rattle.std.proofs.Common.{◌≡◌, ℕ, zero, suc, ◌+◌, ◌<◌, ◌≤◌, Bool, true, false, List, [], ◌∷◌, ◌++◌, length, take, map, sum, reverse, refl, sym, ap, ◌∙◌, arith, Option, Some, None}
use Rattle.std.specs.Prelude.{nat_eq, slice_get, All}
use Rattle.std.proofs.lemmas.Bool.{eq-eqb}
use Rattle.std.proofs.lemmas.List.{length-append, length-reverse, length-map}
use Rattle.std.proofs.lemmas.List.Sums.{sum-map, sum_by-cons}
use Rattle.std.proofs.lemmas.Option.{slice_get_within}
use Rattle.tac_ir.specs.declared.code.Code.{Code}
use Rattle.tac_ir.specs.declared.code.Shape.{Shape}
use Rattle.tac_ir.specs.declared.code.Global.{Global}
use Rattle.tac_ir.specs.declared.code.Site.{Site}
use Rattle.tac_ir.specs.declared.code.Fun.{Fun}
use Rattle.tac_ir.specs.Layout.{shapes_of_globals, vars_of}
use Rattle.tac_ir.specs.Counts.{nodes_by, nodes_in, shape_nodes, vars_in_funs}
use Rattle.tac_ir.specs.GoodForm.{GoodForm}
use Rattle.obj_run.specs.Objects.{first_variable}

sum_step : (g : ℕ → ℕ) (x : ℕ) (xs : List ℕ) → sum (map g (x ∷ xs)) ≡ g x + sum (map g xs)
sum_step g x xs = sum-map g (x ∷ xs) ∙ sum_by-cons g x xs ∙ ap (λ n. g x + n) (sym (sum-map g xs))

module _ (g : ℕ → ℕ) where
  sum_append : (xs ys : List ℕ) → sum (map g (xs ++ ys)) ≡ sum (map g xs) + sum (map g ys)
  sum_append [] ys = omega arith
  sum_append (x ∷ xs) ys = omega (arith, sum_step g x (xs ++ ys), sum_append xs ys, sum_step g x xs)

  counted : (n : ℕ) → ((s : ℕ) → s < n → 1 ≤ g s) → (xs : List ℕ) → All (λ s. s < n) xs → length xs ≤ sum (map g xs)
  counted n some [] all = omega arith
  counted n some (x ∷ xs) all = omega (arith, some x (all 0 x (omega arith)), counted n some xs (λ i d within. all (suc i) d (omega (arith, within))), sum_step g x xs)

  counted_vars : (n : ℕ) → ((s : ℕ) → s < n → 1 ≤ g s) → (funs : List Fun) → ((f : ℕ) (fun : Fun) → slice_get funs f ≡ Some fun → All (λ s. s < n) fun.vars)
      → length (vars_in_funs funs) ≤ sum (map g (vars_in_funs funs))
  counted_vars n some [] all = omega arith
  counted_vars n some (fun ∷ funs) all =
      omega (arith, counted n some fun.vars (all 0 fun refl), counted_vars n some funs (λ f x found. all (suc f) x found), sum_append fun.vars (vars_in_funs funs), length-append fun.vars (vars_in_funs funs))

-- a shape that exists has a node
some_node : (shapes : List Shape) (s : ℕ) → s < length shapes → 1 ≤ nodes_in shapes s
unfolding nodes_in
some_node [] s within = absurd (omega (arith, within))
some_node (shape ∷ earlier) s within = by (nat_eq s (length earlier)) refl shape (some_node earlier s)
  where
    one : (nodes : ℕ → ℕ) (shape : Shape) → 1 ≤ nodes_by nodes shape
    one nodes Shape.Int = omega arith
    one nodes Shape.Ptr = omega arith
    one nodes (Shape.Array len item) = omega arith
    one nodes (Shape.Struct parts) = omega arith

    different : nat_eq s (length earlier) ≡ false → s ≡ length earlier → ⊥
    different not e = (let both : true ≡ false = sym (eq-eqb s (length earlier) e) ∙ not in cc)

    other : nat_eq s (length earlier) ≡ false → s < length earlier
    other not = grind (arith, within, different not)

    by : (b : Bool) → nat_eq s (length earlier) ≡ b → (shape : Shape) → (s < length earlier → 1 ≤ nodes_in earlier s) → 1 ≤ elim b as (λ z. ℕ) [ true ↦ nodes_by (nodes_in earlier) shape | false ↦ nodes_in earlier s ]
    by true is shape rest = one (nodes_in earlier) shape
    by false is shape rest = rest (other is)

pub few_sites : (c : Code) → GoodForm c → length c.globals + length (vars_in_funs c.funs) ≤ 16384
few_sites c good =
    let g = shape_nodes c in
    let n = length c.shapes in
    let some : (s : ℕ) → s < n → 1 ≤ g s = λ s within. some_node (reverse c.shapes) s (omega (arith, within, length-reverse c.shapes)) in
    let sites = map (λ (x : Site). x.shape) c.sites in
    omega (
      arith,
      counted g n some (shapes_of_globals c) globals,
      counted_vars g n some c.funs (λ f fun found. (good.funs.frames f fun found).vars),
      sum_append g (shapes_of_globals c) (vars_in_funs c.funs ++ sites),
      sum_append g (vars_in_funs c.funs) sites,
      good.limits.nodes,
      length-map c.globals (λ (x : Global). x.shape),
    )
  where
    globals : All (λ s. s < length c.shapes) (shapes_of_globals c)
    globals = all_mapped c.globals good.globals.each
      where
        all_mapped : (xs : List Global) → All (λ (x : Global). Rattle.tac_ir.specs.GoodForm.IsGoodGlobal c x) xs → All (λ s. s < length c.shapes) (map (λ (x : Global). x.shape) xs)
        all_mapped [] all i d within = absurd (omega (arith, within))
        all_mapped (x ∷ xs) all zero d within = (all 0 x (omega arith)).shape
        all_mapped (x ∷ xs) all (suc i) d within = all_mapped xs (λ j e less. all (suc j) e (omega (arith, less))) i d (omega (arith, within))

-- the variables of the first functions

pub vars_more : (funs : List Fun) (f : ℕ) (fun : Fun) → slice_get funs f ≡ Some fun → length (vars_in_funs (take (suc f) funs)) ≡ length (vars_in_funs (take f funs)) + length fun.vars
vars_more [] f fun found = cc
vars_more (x ∷ funs) zero fun found = (let same : x ≡ fun = cc in omega (arith, length-append x.vars [], ap (λ (y : Fun). length y.vars) same))
vars_more (x ∷ funs) (suc f) fun found =
    omega (arith, vars_more funs f fun found, length-append x.vars (vars_in_funs (take (suc f) funs)), length-append x.vars (vars_in_funs (take f funs)))

pub vars_most : (funs : List Fun) (f : ℕ) → length (vars_in_funs (take f funs)) ≤ length (vars_in_funs funs)
vars_most [] zero = omega arith
vars_most [] (suc f) = omega arith
vars_most (x ∷ funs) zero = omega arith
vars_most (x ∷ funs) (suc f) = omega (arith, vars_most funs f, length-append x.vars (vars_in_funs (take f funs)), length-append x.vars (vars_in_funs funs))

-- A place's variable has a site.

fun_exists : (c : Code) (f v : ℕ) → v < length (vars_of c f) → (fun : Fun) × (slice_get c.funs f ≡ Some fun) × (length (vars_of c f) ≡ length fun.vars)
fun_exists c f v within = by (slice_get c.funs f) refl within
  where
    by : (o : Option Fun) → slice_get c.funs f ≡ o → v < length (elim o as (λ z. List ℕ) [ None ↦ [] | Some fun ↦ fun.vars ])
        → (fun : Fun) × (slice_get c.funs f ≡ Some fun) × (length (vars_of c f) ≡ length fun.vars)
    by None found less = absurd (omega (arith, less))
    by (Some fun) found less = (fun, found, ap (λ o. length (elim o as (λ z. List ℕ) [ None ↦ [] | Some g ↦ g.vars ])) found)

pub site_exists : (c : Code) → GoodForm c → (f v : ℕ) → v < length (vars_of c f) → (f < length c.funs) × (first_variable c f + v < 16384)
site_exists c good f v within =
    let fun = fun_exists c f v within in
    (slice_get_within c.funs f fun.0 fun.1, omega (arith, within, fun.2, vars_more c.funs f fun.0 fun.1, vars_most c.funs (suc f), few_sites c good))
