-- Where the nodes of variables begin, one variable behind the other.
use Rattle.std.proofs.Common.{◌≡◌, ℕ, zero, suc, ◌+◌, ◌<◌, ◌≤◌, List, [], ◌∷◌, ◌++◌, length, get_or, take, drop, map, sum, refl, sym, ap, ◌∙◌, subst, arith, Option, Some, None}
use Rattle.std.specs.Prelude.{slice_get}
use Rattle.std.proofs.lemmas.List.{length-append, length-map, length-take-le, get_or-take, take_all}
use Rattle.std.proofs.lemmas.Option.{slice_get-get_or}
use Rattle.std.proofs.lemmas.List.Sums.{sum-map, sum_by-cons}
use Rattle.tac_ir.specs.declared.code.Code.{Code}
use Rattle.tac_ir.specs.declared.code.Fun.{Fun}
use Rattle.tac_ir.specs.declared.code.Global.{Global}
use Rattle.tac_ir.specs.declared.code.Site.{Site}
use Rattle.tac_ir.specs.Layout.{vars_of, shapes_of_globals}
use Rattle.tac_ir.specs.Counts.{shape_nodes, vars_in_funs, shapes_used}
use Rattle.tac_ir.specs.GoodForm.{GoodForm}
use Rattle.tac_ir.specs.Nodes.{nodes_before, global_node, var_node}
use Rattle.flow_rules.proofs.ShapeNodes.{nodes_le}

-- Sums over the front of two lists.

abbrev total : (ℕ → ℕ) → List ℕ → ℕ
total f xs = sum (map f xs)

total_cons : (f : ℕ → ℕ) (x : ℕ) (xs : List ℕ) → total f (x ∷ xs) ≡ f x + total f xs
total_cons f x xs = sum-map f (x ∷ xs) ∙ sum_by-cons f x xs ∙ ap (λ n. f x + n) (sym (sum-map f xs))

-- the first of both that reach n elements into the second
behind : (f : ℕ → ℕ) (xs ys : List ℕ) (n : ℕ) → total f (take (length xs + n) (xs ++ ys)) ≡ total f xs + total f (take n ys)
behind f [] ys n = (let same : zero + n ≡ n = omega arith in let sum : total f (take n ys) ≡ total f [] + total f (take n ys) = omega arith in ap (λ k. total f (take k ys)) same ∙ sum)
behind f (x ∷ xs) ys n =
    let step : suc (length xs) + n ≡ suc (length xs + n) = omega arith in
    let here = ap (λ k. total f (take k (x ∷ (xs ++ ys)))) step ∙ total_cons f x (take (length xs + n) (xs ++ ys)) in
    omega (arith, here, behind f xs ys n, total_cons f x xs)

front : (n : ℕ) (xs ys : List ℕ) → n ≤ length xs → take n (xs ++ ys) ≡ take n xs
front zero xs ys h = refl
front (suc n) [] ys h = absurd (omega (arith, h))
front (suc n) (x ∷ xs) ys h = ap (λ l. x ∷ l) (front n xs ys (omega (arith, h)))

-- The variables of a function among those of all.

split_at : (funs : List Fun) (f : ℕ) (fun : Fun) → slice_get funs f ≡ Some fun → vars_in_funs funs ≡ vars_in_funs (take f funs) ++ (fun.vars ++ vars_in_funs (drop (suc f) funs))
split_at [] f fun found = cc
split_at (x ∷ funs) zero fun found = (let same : x ≡ fun = cc in ap (λ (z : Fun). z.vars ++ vars_in_funs funs) same)
split_at (x ∷ funs) (suc f) fun found = ap (λ l. x.vars ++ l) (split_at funs f fun found) ∙ assoc x.vars (vars_in_funs (take f funs)) (fun.vars ++ vars_in_funs (drop (suc f) funs))
  where
    assoc : (xs ys zs : List ℕ) → xs ++ (ys ++ zs) ≡ (xs ++ ys) ++ zs
    assoc [] ys zs = refl
    assoc (x ∷ xs) ys zs = ap (λ l. x ∷ l) (assoc xs ys zs)

vars_taken : (funs : List Fun) (f : ℕ) (fun : Fun) → slice_get funs f ≡ Some fun → length (vars_in_funs (take (f + 1) funs)) ≡ length (vars_in_funs (take f funs)) + length fun.vars
vars_taken [] f fun found = cc
vars_taken (x ∷ funs) zero fun found =
    let same : x ≡ fun = cc in
    omega (arith, length-append x.vars [], ap (λ (z : Fun). length z.vars) same)
vars_taken (x ∷ funs) (suc f) fun found =
    let more : suc f + 1 ≡ suc (f + 1) = omega arith in
    ap (λ k. length (vars_in_funs (take k (x ∷ funs)))) more
    ∙ (let here = length-append x.vars (vars_in_funs (take (f + 1) funs)) in let there = length-append x.vars (vars_in_funs (take f funs)) in omega (arith, here, there, vars_taken funs f fun found))

-- Globals.

abbrev pub sites_of : Code → List ℕ
sites_of c = map (λ (s : Site). s.shape) c.sites

pub global_more : (c : Code) (v : ℕ) (d : Global) → v < length c.globals → global_node c (v + 1) ≡ global_node c v + shape_nodes c (get_or c.globals v d).shape
global_more c v d low = go c.globals v low
  where
    go : (gs : List Global) (v : ℕ) → v < length gs
        → total (shape_nodes c) (take (v + 1) (map (λ (g : Global). g.shape) gs ++ (vars_in_funs c.funs ++ sites_of c)))
        ≡ total (shape_nodes c) (take v (map (λ (g : Global). g.shape) gs ++ (vars_in_funs c.funs ++ sites_of c))) + shape_nodes c (get_or gs v d).shape
    go [] v low = absurd (omega (arith, low))
    go (g ∷ gs) zero low = (let one = total_cons (shape_nodes c) g.shape [] in omega (arith, one))
    go (g ∷ gs) (suc v) low =
        let rest = map (λ (g : Global). g.shape) gs ++ (vars_in_funs c.funs ++ sites_of c) in
        let step : suc v + 1 ≡ suc (v + 1) = omega arith in
        let here = ap (λ k. total (shape_nodes c) (take k (g.shape ∷ rest))) step ∙ total_cons (shape_nodes c) g.shape (take (v + 1) rest) in
        omega (arith, here, total_cons (shape_nodes c) g.shape (take v rest), go gs v (omega (arith, low)))

-- no sum of nodes passes the limit
pub nodes_below : (c : Code) → GoodForm c → (n : ℕ) → nodes_before c (shapes_used c) n ≤ 16384
nodes_below c good n = omega (arith, nodes_le (shape_nodes c) (shapes_used c) n, good.limits.nodes)

-- Variables.

pub var_more : (c : Code) (f v : ℕ) (fun : Fun) → slice_get c.funs f ≡ Some fun → v ≤ length fun.vars → var_node c f v ≡ var_node c f 0 + total (shape_nodes c) (take v fun.vars)
var_more c f v fun found low =
    let count = length-map c.globals (λ (g : Global). g.shape) in
    let before = vars_in_funs (take f c.funs) in
    let after = fun.vars ++ vars_in_funs (drop (suc f) c.funs) in
    let split : shapes_used c ≡ shapes_of_globals c ++ ((before ++ after) ++ sites_of c) = ap (λ l. shapes_of_globals c ++ (l ++ sites_of c)) (split_at c.funs f fun found) in
    let at : (n : ℕ) → n ≤ length fun.vars → var_node c f n ≡ total (shape_nodes c) (shapes_of_globals c) + (total (shape_nodes c) before + total (shape_nodes c) (take n fun.vars)) = λ n h.
    let index : length c.globals + (length before + n) ≡ length (shapes_of_globals c) + (length before + n) = omega (arith, count) in
    let all = length-append before after in
    let some = length-append fun.vars (vars_in_funs (drop (suc f) c.funs)) in
    ap (λ k. nodes_before c (shapes_used c) k) index ∙ ap (λ l. total (shape_nodes c) (take (length (shapes_of_globals c) + (length before + n)) l)) split
    ∙ behind (shape_nodes c) (shapes_of_globals c) ((before ++ after) ++ sites_of c) (length before + n)
    ∙ ap (λ l. total (shape_nodes c) (shapes_of_globals c) + total (shape_nodes c) l) (front (length before + n) (before ++ after) (sites_of c) (omega (arith, all, some, h)))
    ∙ ap (λ k. total (shape_nodes c) (shapes_of_globals c) + k)
    (behind (shape_nodes c) before after n ∙ ap (λ l. total (shape_nodes c) before + total (shape_nodes c) l) (front n fun.vars (vars_in_funs (drop (suc f) c.funs)) h)) in
    omega (arith, at v low, at 0 (omega arith))

pub fun_more : (c : Code) (f : ℕ) (fun : Fun) → slice_get c.funs f ≡ Some fun → var_node c (f + 1) 0 ≡ var_node c f 0 + total (shape_nodes c) fun.vars
fun_more c f fun found =
    let index : length c.globals + (length (vars_in_funs (take (f + 1) c.funs)) + 0) ≡ length c.globals + (length (vars_in_funs (take f c.funs)) + length fun.vars) = omega (arith, vars_taken c.funs f fun found) in
    ap (nodes_before c (shapes_used c)) index ∙ var_more c f (length fun.vars) fun found (omega arith)
    ∙ ap (λ l. var_node c f 0 + total (shape_nodes c) l) (take_all (length fun.vars) fun.vars (omega arith))

pub first_var : (c : Code) → var_node c 0 0 ≡ global_node c (length c.globals)
first_var c = (let index : length c.globals + (length (vars_in_funs (take 0 c.funs)) + 0) ≡ length c.globals = omega arith in ap (nodes_before c (shapes_used c)) index)

-- A step of a loop over the first of them.

pub record IsGlobalStep (c : Code) (v s : ℕ) : Type 0 where
  pub fits : global_node c v + shape_nodes c s ≤ 16384
  pub next : global_node c (v + 1) ≡ global_node c v + shape_nodes c s

pub global_step : (c : Code) → GoodForm c → (gs : List Global) → gs ≡ c.globals → (n v : ℕ) (d : Global) → n ≤ length c.globals → v < length (take n gs) → IsGlobalStep c v (get_or (take n gs) v d).shape
global_step c good gs same n v d low here = record { fits = omega (arith, next, nodes_below c good (v + 1)); next = next }
  where
    count : length (take n gs) ≡ n
    count = length-take-le n gs (omega (arith, low, ap length same))

    item : get_or (take n gs) v d ≡ get_or c.globals v d
    item = get_or-take n gs v d (omega (arith, here, count)) ∙ ap (λ xs. get_or xs v d) same

    next : global_node c (v + 1) ≡ global_node c v + shape_nodes c (get_or (take n gs) v d).shape
    next = omega (arith, global_more c v d (omega (arith, here, count, low)), ap (λ (g : Global). shape_nodes c g.shape) item)

pub record IsFunStep (c : Code) (f : ℕ) (vars : List ℕ) : Type 0 where
  pub fits : var_node c f 0 + total (shape_nodes c) vars ≤ 16384
  pub next : var_node c (f + 1) 0 ≡ var_node c f 0 + total (shape_nodes c) vars

pub fun_step : (c : Code) → GoodForm c → (fs : List Fun) → fs ≡ c.funs → (n f : ℕ) (x : Fun) → n ≤ length c.funs → f < length (take n fs) → x ≡ get_or (take n fs) f x → IsFunStep c f x.vars
fun_step c good fs same n f x low here is = record { fits = omega (arith, next, nodes_below c good (length c.globals + (length (vars_in_funs (take (f + 1) c.funs)) + 0))); next = next }
  where
    count : length (take n fs) ≡ n
    count = length-take-le n fs (omega (arith, low, ap length same))

    item : x ≡ get_or c.funs f x
    item = is ∙ get_or-take n fs f x (omega (arith, here, count)) ∙ ap (λ xs. get_or xs f x) same

    next : var_node c (f + 1) 0 ≡ var_node c f 0 + total (shape_nodes c) x.vars
    next = fun_more c f x (slice_get-get_or c.funs f x (omega (arith, here, count, low)) ∙ ap Some (sym item))

pub record IsVarStep (c : Code) (f v : ℕ) (vars : List ℕ) : Type 0 where
  pub low : v ≤ length vars
  pub fits : var_node c f 0 + total (shape_nodes c) (take v vars) ≤ 16384
  pub node : var_node c f v ≡ var_node c f 0 + total (shape_nodes c) (take v vars)

pub var_step : (c : Code) → GoodForm c → (fs : List Fun) → fs ≡ c.funs → (f v : ℕ) (fun : Fun) → f < length c.funs → fun ≡ get_or fs f fun → v < length (vars_of c f) → IsVarStep c f v fun.vars
var_step c good fs same f v fun exists is low = record { low = omega (arith, here); fits = omega (arith, node, nodes_below c good (length c.globals + (length (vars_in_funs (take f c.funs)) + v))); node = node }
  where
    found : slice_get c.funs f ≡ Some fun
    found = slice_get-get_or c.funs f fun exists ∙ ap Some (sym (is ∙ ap (λ xs. get_or xs f fun) same))

    here : v < length fun.vars
    here = subst (λ (o : Option Fun). v < length (elim o as (λ z. List ℕ) [ None ↦ [] | Some x ↦ x.vars ])) found low

    node : var_node c f v ≡ var_node c f 0 + total (shape_nodes c) (take v fun.vars)
    node = var_more c f v fun found (omega (arith, here))
