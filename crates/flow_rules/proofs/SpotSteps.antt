-- The shapes that code uses, in the loops over globals, functions and sites.
use Rattle.std.proofs.Common.{◌≡◌, ℕ, zero, suc, ◌+◌, ◌<◌, ◌≤◌, List, [], ◌∷◌, ◌++◌, length, get_or, take, map, sum, refl, sym, ap, ◌∙◌, arith, Bool, true, false, Some, None}
use Rattle.std.specs.Prelude.{nat_lt, slice_get, All}
use Rattle.std.proofs.lemmas.Bool.{ltb-true, ltb-false}
use Rattle.std.proofs.lemmas.List.{append-nil, length-append, length-map, length-take-le, get_or-append-add, get_or-map, get_or-take, take_all}
use Rattle.std.proofs.lemmas.Option.{slice_get_within, slice_get-get_or}
use Rattle.tac_ir.specs.declared.code.Code.{Code}
use Rattle.tac_ir.specs.declared.code.Fun.{Fun}
use Rattle.tac_ir.specs.declared.code.Global.{Global}
use Rattle.tac_ir.specs.declared.code.Site.{Site}
use Rattle.tac_ir.specs.Counts.{shape_nodes, shapes_used, vars_in_funs, nodes_in_code}
use Rattle.tac_ir.specs.GoodForm.{GoodForm}
use Rattle.tac_ir.specs.Layout.{shapes_of_globals}
use Rattle.tac_ir.specs.Nodes.{site_node, var_node, nodes_before, node_shapes}
use Rattle.tac_ir.proofs.ShapeWords.{all_below}
use Rattle.tac_ir.proofs.FormNumbers.{site_below}
use Rattle.flow_rules.specs.declared.leaves.Spot.{Spot}
use Rattle.flow_rules.specs.tools.Spots.{nodes_of, nodes_of_all, IsWithinSome, IsBehindAll, IsSpotAmong}
use Rattle.flow_rules.proofs.ShapeNodes.{nodes_more, nodes_with}
use Rattle.flow_rules.proofs.VarNodes.{global_more, nodes_below, sites_of}
use Rattle.flow_rules.proofs.Spots.{with_more, found_spot, found_fun_spot}

-- Sites.

pub site_more : (c : Code) (v : ℕ) (d : Site) → v < length c.sites → site_node c (v + 1) ≡ site_node c v + shape_nodes c (get_or c.sites v d).shape
site_more c v d low =
    let g = length-map c.globals (λ (x : Global). x.shape) in
    let s = length-map c.sites (λ (x : Site). x.shape) in
    let vars = vars_in_funs c.funs in
    let n = length c.globals + (length vars + v) in
    let long = length-append (shapes_of_globals c) (vars ++ sites_of c) in
    let rest = length-append vars (sites_of c) in
    let index : n ≡ length (shapes_of_globals c) + (length vars + v) = omega (arith, g) in
    let next : length c.globals + (length vars + (v + 1)) ≡ n + 1 = omega arith in
    let item : get_or (shapes_used c) n 0 ≡ (get_or c.sites v d).shape =
    ap (λ k. get_or (shapes_used c) k 0) index ∙ get_or-append-add (shapes_of_globals c) (vars ++ sites_of c) (length vars + v) 0
    ∙ get_or-append-add vars (sites_of c) v 0 ∙ get_or-map (λ (x : Site). x.shape) c.sites v d 0 low in
    ap (nodes_before c (shapes_used c)) next ∙ nodes_more (shape_nodes c) (shapes_used c) n 0 (omega (arith, g, s, long, rest, low))
    ∙ ap (λ k. site_node c v + shape_nodes c k) item

pub first_site : (c : Code) → site_node c 0 ≡ var_node c (length c.funs) 0
first_site c = ap (λ (fs : List Fun). nodes_before c (shapes_used c) (length c.globals + (length (vars_in_funs fs) + 0))) (sym (take_all (length c.funs) c.funs (omega arith)))

pub all_sites : (c : Code) → site_node c (length c.sites) ≡ nodes_in_code c
all_sites c =
    let g = length-map c.globals (λ (x : Global). x.shape) in
    let s = length-map c.sites (λ (x : Site). x.shape) in
    let vars = vars_in_funs c.funs in
    let long = length-append (shapes_of_globals c) (vars ++ sites_of c) in
    let rest = length-append vars (sites_of c) in
    ap (λ xs. sum (map (shape_nodes c) xs)) (take_all (length c.globals + (length vars + length c.sites)) (shapes_used c) (omega (arith, g, s, long, rest)))

-- An item of a list of shapes, which has no more nodes than there may be.

pub record IsItemOf (c : Code) (xs : List ℕ) (i s : ℕ) : Type 0 where
  pub low : i < length xs
  pub item : get_or xs i 0 ≡ s
  pub fits : shape_nodes c s ≤ 16384

pub global_item : (c : Code) → GoodForm c → (gs : List Global) → gs ≡ c.globals → (i : ℕ) (d : Global) → i < length gs → IsItemOf c (shapes_of_globals c) i (get_or gs i d).shape
global_item c good gs same i d low = record {
  low = omega (arith, low, ap length same, length-map c.globals (λ (x : Global). x.shape));
  item = get_or-map (λ (x : Global). x.shape) c.globals i d 0 (omega (arith, low, ap length same)) ∙ ap (λ xs. (get_or xs i d).shape) (sym same);
  fits = omega (arith, nodes_below c good (i + 1), global_more c i d (omega (arith, low, ap length same)), ap (λ xs. shape_nodes c (get_or xs i d).shape) same);
}

pub site_item : (c : Code) → GoodForm c → (ss : List Site) → ss ≡ c.sites → (i : ℕ) (d : Site) → i < length ss → IsItemOf c (sites_of c) i (get_or ss i d).shape
site_item c good ss same i d low = record {
  low = omega (arith, low, ap length same, length-map c.sites (λ (x : Site). x.shape));
  item = get_or-map (λ (x : Site). x.shape) c.sites i d 0 (omega (arith, low, ap length same)) ∙ ap (λ xs. (get_or xs i d).shape) (sym same);
  fits = omega (arith, nodes_below c good (length c.globals + (length (vars_in_funs c.funs) + (i + 1))), site_more c i d (omega (arith, low, ap length same)), ap (λ xs. shape_nodes c (get_or xs i d).shape) same);
}

-- a step of the loop over the first of them
pub record IsSiteStep (c : Code) (v s : ℕ) : Type 0 where
  pub fits : site_node c v + shape_nodes c s ≤ 16384
  pub next : site_node c (v + 1) ≡ site_node c v + shape_nodes c s

pub site_step : (c : Code) → GoodForm c → (ss : List Site) → ss ≡ c.sites → (n v : ℕ) (d : Site) → n ≤ length c.sites → v < length (take n ss) → IsSiteStep c v (get_or (take n ss) v d).shape
site_step c good ss same n v d low here = record { fits = omega (arith, next, nodes_below c good (length c.globals + (length (vars_in_funs c.funs) + (v + 1)))); next = next }
  where
    count : length (take n ss) ≡ n
    count = length-take-le n ss (omega (arith, low, ap length same))

    item : get_or (take n ss) v d ≡ get_or c.sites v d
    item = get_or-take n ss v d (omega (arith, here, count)) ∙ ap (λ xs. get_or xs v d) same

    next : site_node c (v + 1) ≡ site_node c v + shape_nodes c (get_or (take n ss) v d).shape
    next = omega (arith, site_more c v d (omega (arith, here, count, low)), ap (λ (x : Site). shape_nodes c x.shape) item)

pub sites_fit : (c : Code) → GoodForm c → length c.sites ≤ 65536
sites_fit c good = by (nat_lt 65536 (length c.sites)) refl
  where
    by : (b : Bool) → nat_lt 65536 (length c.sites) ≡ b → length c.sites ≤ 65536
    by true is = (let low = ltb-true 65536 (length c.sites) is in let clash = site_below c good 65536 low in absurd (omega (arith, clash)))
    by false is = ltb-false 65536 (length c.sites) is

-- Where a walk stops.

pub stops : (c : Code) (xs : List ℕ) (i n : ℕ) (spot : Spot) → ((k : ℕ) → spot ≡ Spot.Behind k → ⊥) → IsSpotAmong c (take (i + 1) xs) n spot → IsSpotAmong c xs n spot
stops c xs i n (Spot.Within s k) none here = found_spot c xs (i + 1) n s k here
stops c xs i n (Spot.Behind k) none here = absurd (none k refl)

pub stops_in_funs : (c : Code) (fs : List Fun) (i n : ℕ) (spot : Spot) → ((k : ℕ) → spot ≡ Spot.Behind k → ⊥) → IsSpotAmong c (vars_in_funs (take (i + 1) fs)) n spot
    → IsSpotAmong c (vars_in_funs fs) n spot
stops_in_funs c fs i n (Spot.Within s k) none here = found_fun_spot c fs (i + 1) n s k here
stops_in_funs c fs i n (Spot.Behind k) none here = absurd (none k refl)

pub stops_before : (c : Code) (xs more : List ℕ) (n : ℕ) (spot : Spot) → ((k : ℕ) → spot ≡ Spot.Behind k → ⊥) → IsSpotAmong c xs n spot → IsSpotAmong c (xs ++ more) n spot
stops_before c xs more n (Spot.Within s k) none here = with_more c xs more n s k here
stops_before c xs more n (Spot.Behind k) none here = absurd (none k refl)

-- Shapes that are used exist, and have no more nodes than there may be.

AreBelow : ℕ → List ℕ → Type 0
AreBelow n xs = (k x : ℕ) → slice_get xs k ≡ Some x → x < n

append_below : (n : ℕ) (xs ys : List ℕ) → AreBelow n xs → AreBelow n ys → AreBelow n (xs ++ ys)
unfolding AreBelow
append_below n [] ys h g k x is = g k x is
append_below n (y ∷ xs) ys h g zero x is = h 0 x is
append_below n (y ∷ xs) ys h g (suc k) x is = append_below n xs ys (λ j z e. h (suc j) z e) g k x is

map_below : {A : Type 0} → (f : A → ℕ) (n : ℕ) (xs : List A) → All (λ x. f x < n) xs → AreBelow n (map f xs)
unfolding AreBelow
map_below f n [] all k x is = cc
map_below f n (y ∷ xs) all zero x is = (let here : f y ≡ x = cc in let low = all 0 y (omega arith) in omega (arith, low, here))
map_below f n (y ∷ xs) all (suc k) x is = map_below f n xs (λ j z h. all (suc j) z (omega (arith, h))) k x is

funs_below : (n : ℕ) (fs : List Fun) → ((f : ℕ) (fun : Fun) → slice_get fs f ≡ Some fun → AreBelow n fun.vars) → AreBelow n (vars_in_funs fs)
unfolding AreBelow
funs_below n [] h = λ k x is. cc
funs_below n (f ∷ fs) h = append_below n f.vars (vars_in_funs fs) (h 0 f refl) (funs_below n fs (λ g fun is. h (suc g) fun is))

pub used_exists : (c : Code) → GoodForm c → (k s : ℕ) → slice_get (shapes_used c) k ≡ Some s → s < length c.shapes
unfolding AreBelow
used_exists c good =
    append_below (length c.shapes) (shapes_of_globals c) (vars_in_funs c.funs ++ sites_of c) (map_below (λ (g : Global). g.shape) (length c.shapes) c.globals (λ i d low. (good.globals.each i d low).shape))
    (append_below (length c.shapes) (vars_in_funs c.funs) (sites_of c)
    (funs_below (length c.shapes) c.funs (λ f fun is. all_below (length c.shapes) fun.vars (good.funs.frames f fun is).vars))
    (map_below (λ (s : Site). s.shape) (length c.shapes) c.sites good.globals.sites))

pub used_fits : (c : Code) → GoodForm c → (k s : ℕ) → slice_get (shapes_used c) k ≡ Some s → shape_nodes c s ≤ 16384
used_fits c good k s is =
    let low = slice_get_within (shapes_used c) k s is in
    let item : get_or (shapes_used c) k s ≡ s = (let same : Some (get_or (shapes_used c) k s) ≡ Some s = sym (slice_get-get_or (shapes_used c) k s low) ∙ is in cc) in
    omega (arith, nodes_with (shape_nodes c) (shapes_used c) k s low, good.limits.nodes, ap (shape_nodes c) item)

-- All shapes that the code uses.

pub all_within : (c : Code) (n s k : ℕ) → IsWithinSome c (shapes_used c) n s k → slice_get (node_shapes c) n ≡ slice_get (nodes_of c s) k
all_within c n s k h = ap (λ l. slice_get (nodes_of_all c l) n) (sym (append-nil (shapes_used c))) ∙ h.node []

pub all_behind : (c : Code) (n k : ℕ) → IsBehindAll c (shapes_used c) n k → slice_get (node_shapes c) n ≡ None
all_behind c n k h = ap (λ l. slice_get (nodes_of_all c l) n) (sym (append-nil (shapes_used c))) ∙ h.node []
