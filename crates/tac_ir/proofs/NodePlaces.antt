-- How many nodes there are, and which is that of a place.
use Rattle.std.proofs.Common.{◌≡◌, ℕ, zero, suc, ◌+◌, ◌<◌, Bool, true, false, List, [], ◌∷◌, ◌++◌, length, get_or, slice_index, take, drop, map, sum, reverse, refl, sym, ap, ◌∙◌, subst, arith, eq-eqb, Option, Some, None}
use Rattle.std.specs.Prelude.{nat_eq, slice_get, option_map}
use Rattle.std.specs.List.{flat_map}
use Rattle.std.proofs.lemmas.Bool.{ne_eqb}
use Rattle.std.proofs.lemmas.List.{length-append, length-reverse, length-map, length-take-le}
use Rattle.std.proofs.lemmas.List.Sums.{sum-map, sum_by-cons}
use Rattle.std.proofs.lemmas.Option.{slice_get_within, slice_get-get_or, slice_get-map}
use Rattle.tac_ir.specs.declared.code.Code.{Code}
use Rattle.tac_ir.specs.declared.code.Shape.{Shape}
use Rattle.tac_ir.specs.declared.code.Global.{Global}
use Rattle.tac_ir.specs.declared.code.Site.{Site}
use Rattle.tac_ir.specs.declared.code.Fun.{Fun}
use Rattle.tac_ir.specs.declared.code.Place.{Place}
use Rattle.tac_ir.specs.Layout.{parts_of, vars_of, shapes_of_globals}
use Rattle.tac_ir.specs.Counts.{nodes_by, nodes_in, shape_nodes, vars_in_funs, shapes_used}
use Rattle.tac_ir.specs.Places.{end_of_path, end_from}
use Rattle.tac_ir.specs.GoodForm.{GoodForm, shapes_named}
use Rattle.tac_ir.specs.Nodes.{shapes_below, node_shapes_in, node_shapes, nodes_before, nodes_along, place_node}
use Rattle.tac_ir.specs.NodeLaws.{NodesAreCounted, PlacesAreNodes}
use Rattle.tac_ir.proofs.ShapeWords.{all_below, reverse-split, parts_of-struct}
use Rattle.tac_ir.proofs.regions.Outside.{front_is}

-- Lists of lists.

sum_step : (g : ℕ → ℕ) (x : ℕ) (xs : List ℕ) → sum (map g (x ∷ xs)) ≡ g x + sum (map g xs)
sum_step g x xs = sum-map g (x ∷ xs) ∙ sum_by-cons g x xs ∙ ap (λ n. g x + n) (sym (sum-map g xs))

behind : (xs ys : List ℕ) (i : ℕ) → slice_get (xs ++ ys) (length xs + i) ≡ slice_get ys i
behind [] ys i = (let same : zero + i ≡ i = omega arith in ap (slice_get ys) same)
behind (x ∷ xs) ys i = (let step : suc (length xs) + i ≡ suc (length xs + i) = omega arith in ap (slice_get (x ∷ (xs ++ ys))) step ∙ behind xs ys i)

module _ (f : ℕ → List ℕ) (g : ℕ → ℕ) (same : (x : ℕ) → length (f x) ≡ g x) where
  length_flat : (xs : List ℕ) → length (flat_map f xs) ≡ sum (map g xs)
  length_flat [] = refl
  length_flat (x ∷ xs) = omega (arith, length-append (f x) (flat_map f xs), same x, length_flat xs, sum_step g x xs)

  at_flat : (xs : List ℕ) (k x j y : ℕ) → slice_get xs k ≡ Some x → slice_get (f x) j ≡ Some y → slice_get (flat_map f xs) (sum (map g (take k xs)) + j) ≡ Some y
  at_flat [] k x j y found there = cc
  at_flat (z ∷ xs) zero x j y found there =
      let one : z ≡ x = cc in
      let here : sum (map g (take zero (z ∷ xs))) + j ≡ j = omega arith in
      ap (slice_get (f z ++ flat_map f xs)) here ∙ front_is (f z) (flat_map f xs) j y (subst (λ w. slice_get (f w) j ≡ Some y) (sym one) there)
  at_flat (z ∷ xs) (suc k) x j y found there =
      let here : sum (map g (take (suc k) (z ∷ xs))) + j ≡ length (f z) + (sum (map g (take k xs)) + j) = omega (arith, sum_step g z (take k xs), same z) in
      ap (slice_get (f z ++ flat_map f xs)) here ∙ behind (f z) (flat_map f xs) (sum (map g (take k xs)) + j) ∙ at_flat xs k x j y found there

-- Counts.

counted : (shapes : List Shape) (s : ℕ) → length (node_shapes_in shapes s) ≡ nodes_in shapes s
unfolding node_shapes_in nodes_in
counted [] s = refl
counted (shape ∷ earlier) s = by (nat_eq s (length earlier)) shape (counted earlier)
  where
    by : (b : Bool) (shape : Shape) → ((x : ℕ) → length (node_shapes_in earlier x) ≡ nodes_in earlier x)
        → length (elim b as (λ z. List ℕ) [ true ↦ s ∷ shapes_below (node_shapes_in earlier) shape | false ↦ node_shapes_in earlier s ])
        ≡ elim b as (λ z. ℕ) [ true ↦ nodes_by (nodes_in earlier) shape | false ↦ nodes_in earlier s ]
    by false shape rest = rest s
    by true Shape.Int rest = refl
    by true Shape.Ptr rest = refl
    by true (Shape.Array len item) rest = omega (arith, rest item)
    by true (Shape.Struct parts) rest = omega (arith, length_flat (node_shapes_in earlier) (nodes_in earlier) rest parts)

pub nodes_are_counted : NodesAreCounted
nodes_are_counted c = length_flat (node_shapes_in (reverse c.shapes)) (shape_nodes c) (counted (reverse c.shapes)) (shapes_used c)

-- The nodes of a shape.

-- a shape is found among the earlier ones
in_earlier : (later earlier : List Shape) (s : ℕ) → s < length earlier → node_shapes_in (later ++ earlier) s ≡ node_shapes_in earlier s
unfolding node_shapes_in
in_earlier [] earlier s h = refl
in_earlier (x ∷ later) earlier s h =
    let other : nat_eq s (length (later ++ earlier)) ≡ false = ne_eqb s (length (later ++ earlier)) (λ e. omega (arith, length-append later earlier)) in
    ap (λ b. elim b as (λ z. List ℕ) [ true ↦ s ∷ shapes_below (node_shapes_in (later ++ earlier)) x | false ↦ node_shapes_in (later ++ earlier) s ]) other ∙ in_earlier later earlier s h

as_last : (shape : Shape) (earlier : List Shape) (s : ℕ) → s ≡ length earlier → node_shapes_in (shape ∷ earlier) s ≡ s ∷ shapes_below (node_shapes_in earlier) shape
unfolding node_shapes_in
as_last shape earlier s e = rw (eq-eqb s (length earlier) e, node_shapes_in) refl

flat_agree : (f g : ℕ → List ℕ) (n : ℕ) → ((s : ℕ) → s < n → f s ≡ g s) → (xs : List ℕ) → ((k x : ℕ) → slice_get xs k ≡ Some x → x < n) → flat_map f xs ≡ flat_map g xs
flat_agree f g n same [] below = refl
flat_agree f g n same (x ∷ xs) below = ap (λ l. l ++ flat_map f xs) (same x (below 0 x refl)) ∙ ap (λ l. g x ++ l) (flat_agree f g n same xs (λ k y e. below (suc k) y e))

below_agree : (f g : ℕ → List ℕ) (n : ℕ) → ((s : ℕ) → s < n → f s ≡ g s) → (shape : Shape) → ((k x : ℕ) → slice_get (shapes_named shape) k ≡ Some x → x < n) → shapes_below f shape ≡ shapes_below g shape
below_agree f g n same Shape.Int below = refl
below_agree f g n same Shape.Ptr below = refl
below_agree f g n same (Shape.Array len item) below = same item (below 0 item refl)
below_agree f g n same (Shape.Struct parts) below = flat_agree f g n same parts below

-- those of a shape, by those of the shapes that it names
nodes_at : (c : Code) → GoodForm c → (s : ℕ) (shape : Shape) → slice_get c.shapes s ≡ Some shape → node_shapes_in (reverse c.shapes) s ≡ s ∷ shapes_below (node_shapes_in (reverse c.shapes)) shape
nodes_at c good s shape found =
    let within : s < length c.shapes = slice_get_within c.shapes s shape found in
    let earlier = reverse (take s c.shapes) in
    let later = reverse (drop (s + 1) c.shapes) in
    let count : length earlier ≡ s = length-reverse (take s c.shapes) ∙ length-take-le s c.shapes (omega arith) in
    let split = reverse-split c.shapes s shape found in
    let here : node_shapes_in (reverse c.shapes) s ≡ s ∷ shapes_below (node_shapes_in earlier) shape =
    ap (λ xs. node_shapes_in xs s) split ∙ in_earlier later (shape ∷ earlier) s (omega (arith, count)) ∙ as_last shape earlier s (sym count) in
    let agree : (x : ℕ) → x < s → node_shapes_in earlier x ≡ node_shapes_in (reverse c.shapes) x = λ x h.
    sym (ap (λ xs. node_shapes_in xs x) split ∙ in_earlier later (shape ∷ earlier) x (omega (arith, count)) ∙ in_earlier (shape ∷ []) earlier x (omega (arith, count))) in
    here ∙ ap (λ l. s ∷ l) (below_agree (node_shapes_in earlier) (node_shapes_in (reverse c.shapes)) s agree shape (all_below s (shapes_named shape) (good.shapes.each s shape found).earlier))

-- Places.

there_is : (c : Code) (s : ℕ) → s < length c.shapes → slice_get c.shapes s ≡ Some (get_or c.shapes s Shape.Int)
there_is c s within = slice_get-get_or c.shapes s Shape.Int within

index_is : (xs : List ℕ) (k x : ℕ) → slice_get xs k ≡ Some x → slice_index xs k ≡ x
index_is xs k x found =
    let here : Some (slice_index xs k) ≡ Some x = sym (slice_get-get_or xs k 0 (slice_get_within xs k x found)) ∙ found in cc

-- the node at the end of a path of fields, among those of its shape
path_node : (c : Code) → GoodForm c → (s : ℕ) → s < length c.shapes → (path : List ℕ) (e : ℕ) → end_of_path c s path ≡ Some e → slice_get (node_shapes_in (reverse c.shapes) s) (nodes_along c s path) ≡ Some e
path_node c good s within [] e is = ap (λ l. slice_get l 0) (nodes_at c good s (get_or c.shapes s Shape.Int) (there_is c s within)) ∙ is
path_node c good s within (k ∷ path) e is = by (slice_get (parts_of c s) k) refl is (λ part exists. path_node c good part exists path e)
  where
    by : (o : Option ℕ) → slice_get (parts_of c s) k ≡ o → elim o as (λ z. Option ℕ) [ None ↦ None | Some part ↦ end_of_path c part path ] ≡ Some e
        → ((part : ℕ) → part < length c.shapes → end_of_path c part path ≡ Some e → slice_get (node_shapes_in (reverse c.shapes) part) (nodes_along c part path) ≡ Some e)
        → slice_get (node_shapes_in (reverse c.shapes) s) (nodes_along c s (k ∷ path)) ≡ Some e
    by None found is rest = cc
    by (Some part) found is rest =
        let struct = parts_of-struct c s k part found in
        let low : part < s = all_below s (parts_of c s) (good.shapes.each s (Shape.Struct (parts_of c s)) struct).earlier k part found in
        let j = nodes_along c part path in
        let inner = at_flat (node_shapes_in (reverse c.shapes)) (shape_nodes c) (counted (reverse c.shapes)) (parts_of c s) k part j e found (rest part (omega (arith, low)) is) in
        let index : nodes_along c s (k ∷ path) ≡ suc (nodes_before c (parts_of c s) k + j) = omega (arith, ap (λ p. nodes_along c p path) (index_is (parts_of c s) k part found)) in
        ap (slice_get (node_shapes_in (reverse c.shapes) s)) index ∙ ap (λ l. slice_get l (suc (nodes_before c (parts_of c s) k + j))) (nodes_at c good s (Shape.Struct (parts_of c s)) struct) ∙ inner

-- a variable among those of all functions
var_at : (funs : List Fun) (f : ℕ) (fun : Fun) (v s : ℕ) → slice_get funs f ≡ Some fun → slice_get fun.vars v ≡ Some s → slice_get (vars_in_funs funs) (length (vars_in_funs (take f funs)) + v) ≡ Some s
var_at [] f fun v s found there = cc
var_at (x ∷ funs) zero fun v s found there =
    let one : x ≡ fun = cc in
    let here : zero + v ≡ v = omega arith in
    ap (slice_get (x.vars ++ vars_in_funs funs)) here ∙ front_is x.vars (vars_in_funs funs) v s (subst (λ (z : Fun). slice_get z.vars v ≡ Some s) (sym one) there)
var_at (x ∷ funs) (suc f) fun v s found there =
    let here : length (vars_in_funs (take (suc f) (x ∷ funs))) + v ≡ length x.vars + (length (vars_in_funs (take f funs)) + v) = omega (arith, length-append x.vars (vars_in_funs (take f funs))) in
    ap (slice_get (x.vars ++ vars_in_funs funs)) here ∙ behind x.vars (vars_in_funs funs) (length (vars_in_funs (take f funs)) + v) ∙ var_at funs f fun v s found there

-- the node of a place behind variable k of all
root_node : (c : Code) → GoodForm c → (k s : ℕ) (path : List ℕ) (e : ℕ) → s < length c.shapes → slice_get (shapes_used c) k ≡ Some s → end_of_path c s path ≡ Some e
    → slice_get (node_shapes c) (nodes_before c (shapes_used c) k + nodes_along c s path) ≡ Some e
root_node c good k s path e within found is =
    at_flat (node_shapes_in (reverse c.shapes)) (shape_nodes c) (counted (reverse c.shapes)) (shapes_used c) k s (nodes_along c s path) e found (path_node c good s within path e is)

abbrev others : Code → List ℕ
others c = vars_in_funs c.funs ++ map (λ (x : Site). x.shape) c.sites

global_shape : (c : Code) → GoodForm c → (v s : ℕ) → slice_get (shapes_of_globals c) v ≡ Some s → s < length c.shapes
global_shape c good v s found = by (slice_get c.globals v) refl (sym (slice_get-map (λ (g : Global). g.shape) c.globals v) ∙ found)
  where
    by : (o : Option Global) → slice_get c.globals v ≡ o → option_map (λ (g : Global). g.shape) o ≡ Some s → s < length c.shapes
    by None is there = cc
    by (Some g) is there =
        let within : v < length c.globals = slice_get_within c.globals v g is in
        let got : Some (get_or c.globals v g) ≡ Some g = sym (slice_get-get_or c.globals v g within) ∙ is in
        let one : get_or c.globals v g ≡ g = cc in
        let shape : g.shape ≡ s = cc in
        let exists = (good.globals.each v g within).shape in
        omega (arith, exists, ap (λ (z : Global). z.shape) one, shape)

pub places_are_nodes : PlacesAreNodes
places_are_nodes c good f (Place.Global v path) s is = by (slice_get (shapes_of_globals c) v) refl is
  where
    by : (o : Option ℕ) → slice_get (shapes_of_globals c) v ≡ o → end_from c o path ≡ Some s → slice_get (node_shapes c) (place_node c f (Place.Global v path)) ≡ Some s
    by None found there = cc
    by (Some root) found there =
        subst (λ z. slice_get (node_shapes c) (nodes_before c (shapes_used c) v + nodes_along c z path) ≡ Some s) (sym (index_is (shapes_of_globals c) v root found))
        (root_node c good v root path s (global_shape c good v root found) (front_is (shapes_of_globals c) (others c) v root found) there)
places_are_nodes c good f (Place.Local v path) s is = in_fun (slice_get c.funs f) refl (slice_get (vars_of c f) v) refl is
  where
    at : (fun : Fun) → slice_get c.funs f ≡ Some fun → (root : ℕ) → slice_get fun.vars v ≡ Some root → slice_get (shapes_used c) (length c.globals + (length (vars_in_funs (take f c.funs)) + v)) ≡ Some root
    at fun function root found =
        let count = length-map c.globals (λ (g : Global). g.shape) in
        let k = length (vars_in_funs (take f c.funs)) + v in
        let index : length c.globals + k ≡ length (shapes_of_globals c) + k = omega (arith, count) in
        ap (slice_get (shapes_used c)) index ∙ behind (shapes_of_globals c) (others c) k
        ∙ front_is (vars_in_funs c.funs) (map (λ (x : Site). x.shape) c.sites) k root (var_at c.funs f fun v root function found)

    in_fun : (q : Option Fun) → slice_get c.funs f ≡ q → (o : Option ℕ) → slice_get (elim q as (λ z. List ℕ) [ None ↦ [] | Some fun ↦ fun.vars ]) v ≡ o → end_from c o path ≡ Some s
        → slice_get (node_shapes c) (nodes_before c (shapes_used c) (length c.globals + (length (vars_in_funs (take f c.funs)) + v)) + nodes_along c (slice_index (elim q as (λ z. List ℕ) [ None ↦ [] | Some fun ↦ fun.vars ]) v) path) ≡ Some s
    in_fun q function None found there = cc
    in_fun None function (Some root) found there = cc
    in_fun (Some fun) function (Some root) found there =
        let exists = all_below (length c.shapes) fun.vars (good.funs.frames f fun function).vars v root found in
        subst (λ z. slice_get (node_shapes c) (nodes_before c (shapes_used c) (length c.globals + (length (vars_in_funs (take f c.funs)) + v)) + nodes_along c z path) ≡ Some s) (sym (index_is fun.vars v root found))
        (root_node c good (length c.globals + (length (vars_in_funs (take f c.funs)) + v)) root path s exists (at fun function root found) there)
