-- All nodes of a shape stand among those of the code.
use Rattle.std.proofs.Common.{◌≡◌, ℕ, zero, suc, ◌+◌, ◌<◌, ◌≤◌, Bool, true, false, List, [], ◌∷◌, ◌++◌, length, get_or, map, sum, take, reverse, refl, sym, ap, ◌∙◌, arith, Option, Some, None}
use Rattle.std.specs.Prelude.{nat_eq, slice_get}
use Rattle.std.specs.List.{flat_map}
use Rattle.std.proofs.lemmas.Bool.{eqb-true, ne_eqb}
use Rattle.std.proofs.lemmas.List.{length-append, length-reverse}
use Rattle.std.proofs.lemmas.List.Sums.{sum-map, sum_by-cons}
use Rattle.std.proofs.lemmas.Option.{slice_get_within, slice_get-get_or}
use Rattle.tac_ir.specs.declared.code.Code.{Code}
use Rattle.tac_ir.specs.declared.code.Shape.{Shape}
use Rattle.tac_ir.specs.Counts.{nodes_by, nodes_in, shape_nodes, shapes_used, vars_in_funs, nodes_in_code}
use Rattle.tac_ir.specs.declared.code.Place.{Place}
use Rattle.tac_ir.specs.Nodes.{shapes_below, node_shapes_in, node_shapes, part_node, place_node, site_node}
use Rattle.tac_ir.specs.Layout.{parts_of}
use Rattle.tac_ir.specs.Places.{is_array, IsPlace}
use Rattle.tac_ir.specs.GoodForm.{GoodForm, shapes_named}
use Rattle.tac_ir.proofs.NodePlaces.{nodes_are_counted, places_are_nodes}
use Rattle.flow_rules.specs.PointsClosed.{HasShape}
use Rattle.flow_rules.proofs.ShapeNodes.{shape_nodes_at, nodes_le, nodes_with}
use Rattle.flow_rules.proofs.SpotSteps.{site_more}
use Rattle.tac_ir.specs.declared.code.Site.{Site}

sum_step : (g : ℕ → ℕ) (x : ℕ) (xs : List ℕ) → sum (map g (x ∷ xs)) ≡ g x + sum (map g xs)
sum_step g x xs = sum-map g (x ∷ xs) ∙ sum_by-cons g x xs ∙ ap (λ n. g x + n) (sym (sum-map g xs))

length_flat : (f : ℕ → List ℕ) (g : ℕ → ℕ) → ((x : ℕ) → length (f x) ≡ g x) → (xs : List ℕ) → length (flat_map f xs) ≡ sum (map g xs)
length_flat f g same [] = refl
length_flat f g same (x ∷ xs) = omega (arith, length-append (f x) (flat_map f xs), same x, length_flat f g same xs, sum_step g x xs)

counted : (shapes : List Shape) (s : ℕ) → length (node_shapes_in shapes s) ≡ nodes_in shapes s
unfolding node_shapes_in nodes_in
counted [] s = refl
counted (shape ∷ earlier) s = by (nat_eq s (length earlier)) shape (counted earlier)
  where
    by : (b : Bool) (shape : Shape) → ((x : ℕ) → length (node_shapes_in earlier x) ≡ nodes_in earlier x)
        → length (elim b as (λ z. List ℕ) [ true ↦ s ∷ shapes_below (node_shapes_in earlier) shape | false ↦ node_shapes_in earlier s ])
        ≡ elim b as (λ z. ℕ) [ true ↦ nodes_by (nodes_in earlier) shape | false ↦ nodes_in earlier s ]
    by false shape rest = rest s
    by true Shape.Int rest = refl
    by true Shape.Ptr rest = refl
    by true (Shape.Array len item) rest = omega (arith, rest item)
    by true (Shape.Struct parts) rest = omega (arith, length_flat (node_shapes_in earlier) (nodes_in earlier) rest parts)

-- each entry of a list is a shape among the first ones, and its nodes fit behind it
pub record FitsAt (shapes : List Shape) (long n x : ℕ) : Type 0 where
  pub low : x < length shapes
  pub fits : n + nodes_in shapes x ≤ long

abbrev pub Fits : List Shape → List ℕ → Type 0
Fits shapes l = (n x : ℕ) → slice_get l n ≡ Some x → FitsAt shapes (length l) n x

-- in the first list, or behind it
fits_both : (shapes : List Shape) (xs ys : List ℕ) → Fits shapes xs → Fits shapes ys → Fits shapes (xs ++ ys)
fits_both shapes [] ys one two n x at = two n x at
fits_both shapes (z ∷ xs) ys one two zero x at =
    let here = one 0 x at in
    record { low = here.low; fits = (let f = here.fits in omega (arith, f, length-append xs ys)) }
fits_both shapes (z ∷ xs) ys one two (suc n) x at =
    let rest = fits_both shapes xs ys (λ m y at'. (let h = one (suc m) y at' in record { low = h.low; fits = (let f = h.fits in omega (arith, f)) })) two n x at in
    record { low = rest.low; fits = (let f = rest.fits in omega (arith, f)) }

fits_flat : (shapes : List Shape) (f : ℕ → List ℕ) → ((s : ℕ) → Fits shapes (f s)) → (xs : List ℕ) → Fits shapes (flat_map f xs)
fits_flat shapes f each [] = λ n x at. cc
fits_flat shapes f each (y ∷ xs) = fits_both shapes (f y) (flat_map f xs) (each y) (fits_flat shapes f each xs)

-- one shape more changes nothing of the earlier ones
later : (shape : Shape) (earlier : List Shape) (long n x : ℕ) → FitsAt earlier long n x → FitsAt (shape ∷ earlier) long n x
unfolding nodes_in
later shape earlier long n x h = record { low = (let l = h.low in omega (arith, l)); fits = (let f = h.fits in omega (arith, f, same)) }
  where
    same : nodes_in (shape ∷ earlier) x ≡ nodes_in earlier x
    same = ap (λ b. elim b as (λ z. ℕ) [ true ↦ nodes_by (nodes_in earlier) shape | false ↦ nodes_in earlier x ])
        (ne_eqb x (length earlier) (λ e. (let l = h.low in omega (arith, l, e))))

behind_first : (shape : Shape) (earlier : List Shape) (long n x : ℕ) → FitsAt earlier long n x → FitsAt (shape ∷ earlier) (suc long) (suc n) x
behind_first shape earlier long n x h =
    let more = later shape earlier long n x h in
    record { low = more.low; fits = (let f = more.fits in omega (arith, f)) }

below_fits : (earlier : List Shape) → ((s : ℕ) → Fits earlier (node_shapes_in earlier s)) → (shape : Shape) → Fits earlier (shapes_below (node_shapes_in earlier) shape)
below_fits earlier each Shape.Int = λ n x at. cc
below_fits earlier each Shape.Ptr = λ n x at. cc
below_fits earlier each (Shape.Array len item) = each item
below_fits earlier each (Shape.Struct parts) = fits_flat earlier (node_shapes_in earlier) each parts

one_more : (shape : Shape) (earlier : List Shape) → ((s : ℕ) → Fits earlier (node_shapes_in earlier s)) → (s : ℕ) → Fits (shape ∷ earlier) (node_shapes_in (shape ∷ earlier) s)
unfolding node_shapes_in
one_more shape earlier each s = by (nat_eq s (length earlier)) refl
  where
    below : List ℕ
    below = shapes_below (node_shapes_in earlier) shape

    whole : nat_eq s (length earlier) ≡ true → suc (length below) ≡ nodes_in (shape ∷ earlier) s
    whole is =
        ap (λ b. length (elim b as (λ z. List ℕ) [ true ↦ s ∷ shapes_below (node_shapes_in earlier) shape | false ↦ node_shapes_in earlier s ])) (sym is)
        ∙ counted (shape ∷ earlier) s

    by : (b : Bool) → nat_eq s (length earlier) ≡ b
        → Fits (shape ∷ earlier) (elim b as (λ z. List ℕ) [ true ↦ s ∷ shapes_below (node_shapes_in earlier) shape | false ↦ node_shapes_in earlier s ])
    by false is n x at = later shape earlier (length (node_shapes_in earlier s)) n x (each s n x at)
    by true is zero x at =
        let one : s ≡ x = cc in
        let last = eqb-true s (length earlier) is in
        let all = whole is in
        let same = ap (nodes_in (shape ∷ earlier)) one in
        record { low = omega (arith, last, one); fits = omega (arith, all, same) }
    by true is (suc n) x at = behind_first shape earlier (length below) n x (below_fits earlier each shape n x at)

all_fit : (shapes : List Shape) (s : ℕ) → Fits shapes (node_shapes_in shapes s)
unfolding node_shapes_in
all_fit [] s = λ n x at. cc
all_fit (shape ∷ earlier) s = one_more shape earlier (all_fit earlier) s

-- the nodes of a node's shape are nodes
pub shape_fits : (c : Code) (n s : ℕ) → HasShape c n s → n + shape_nodes c s ≤ nodes_in_code c
shape_fits c n s is =
    let at = fits_flat (reverse c.shapes) (node_shapes_in (reverse c.shapes)) (all_fit (reverse c.shapes)) (shapes_used c) n s is in
    let fits = at.fits in
    let count = nodes_are_counted c in
    omega (arith, fits, count)

pub node_low : (c : Code) (n s : ℕ) → HasShape c n s → n < nodes_in_code c
node_low c n s is = (let low = slice_get_within (node_shapes c) n s is in let count = nodes_are_counted c in omega (arith, low, count))

pub some_node : (c : Code) → GoodForm c → (s : ℕ) (shape : Shape) → slice_get c.shapes s ≡ Some shape → 1 ≤ shape_nodes c s
some_node c good s shape found = by shape (shape_nodes_at c good s shape found)
  where
    by : (shape : Shape) → shape_nodes c s ≡ nodes_by (shape_nodes c) shape → 1 ≤ shape_nodes c s
    by Shape.Int is = omega (arith, is)
    by Shape.Ptr is = omega (arith, is)
    by (Shape.Array len item) is = omega (arith, is)
    by (Shape.Struct parts) is = omega (arith, is)

-- a shape that is named by one
named_node : (c : Code) → GoodForm c → (s : ℕ) (shape : Shape) → slice_get c.shapes s ≡ Some shape → (k : ℕ) → k < length (shapes_named shape)
    → 1 ≤ shape_nodes c (get_or (shapes_named shape) k 0)
named_node c good s shape found k low =
    let named = get_or (shapes_named shape) k 0 in
    let earlier : named < s = (good.shapes.each s shape found).earlier k 0 low in
    let within = slice_get_within c.shapes s shape found in
    some_node c good named (get_or c.shapes named Shape.Int) (slice_get-get_or c.shapes named Shape.Int (omega (arith, earlier, within)))

pub part_low : (c : Code) → GoodForm c → (n s k : ℕ) → HasShape c n s → k < length (parts_of c s) → n + part_node c s k < nodes_in_code c
part_low c good n s k is low = by (slice_get c.shapes s) refl low
  where
    by : (o : Option Shape) → slice_get c.shapes s ≡ o → k < length (elim o as (λ z. List ℕ) [ Some (Shape.Struct parts) ↦ parts | _ ↦ [] ])
        → n + part_node c s k < nodes_in_code c
    by None found few = absurd (omega (arith, few))
    by (Some Shape.Int) found few = absurd (omega (arith, few))
    by (Some Shape.Ptr) found few = absurd (omega (arith, few))
    by (Some (Shape.Array len item)) found few = absurd (omega (arith, few))
    by (Some (Shape.Struct parts)) found few =
        let whole : shape_nodes c s ≡ 1 + sum (map (shape_nodes c) parts) = shape_nodes_at c good s (Shape.Struct parts) found in
        let are : parts_of c s ≡ parts = ap (λ (o : Option Shape). elim o as (λ z. List ℕ) [ Some (Shape.Struct ps) ↦ ps | _ ↦ [] ]) found in
        let here : part_node c s k ≡ 1 + sum (map (shape_nodes c) (take k parts)) = ap (λ ps. 1 + sum (map (shape_nodes c) (take k ps))) are in
        let part = nodes_with (shape_nodes c) parts k 0 few in
        let some = named_node c good s (Shape.Struct parts) found k few in
        let fits = shape_fits c n s is in
        omega (arith, whole, here, part, some, fits)

pub item_low : (c : Code) → GoodForm c → (n s : ℕ) → HasShape c n s → is_array c s ≡ true → n + 1 < nodes_in_code c
item_low c good n s is array = by (slice_get c.shapes s) refl array
  where
    by : (o : Option Shape) → slice_get c.shapes s ≡ o → elim o as (λ z. Bool) [ Some (Shape.Array len item) ↦ true | _ ↦ false ] ≡ true → n + 1 < nodes_in_code c
    by None found h = cc
    by (Some Shape.Int) found h = cc
    by (Some Shape.Ptr) found h = cc
    by (Some (Shape.Struct parts)) found h = cc
    by (Some (Shape.Array len item)) found h =
        let whole : shape_nodes c s ≡ 1 + shape_nodes c item = shape_nodes_at c good s (Shape.Array len item) found in
        let some = named_node c good s (Shape.Array len item) found 0 (omega arith) in
        let fits = shape_fits c n s is in
        omega (arith, whole, some, fits)

-- Shapes and places that instructions name.

pub array_shape : (c : Code) (s : ℕ) → is_array c s ≡ true → s < length c.shapes
array_shape c s array = by (slice_get c.shapes s) refl array
  where
    by : (o : Option Shape) → slice_get c.shapes s ≡ o → elim o as (λ z. Bool) [ Some (Shape.Array len item) ↦ true | _ ↦ false ] ≡ true → s < length c.shapes
    by None found h = cc
    by (Some shape) found h = slice_get_within c.shapes s shape found

pub field_shape : (c : Code) → GoodForm c → (s k : ℕ) → k < length (parts_of c s) → s < length c.shapes
field_shape c good s k low = by (slice_get c.shapes s) refl low
  where
    by : (o : Option Shape) → slice_get c.shapes s ≡ o → k < length (elim o as (λ z. List ℕ) [ Some (Shape.Struct parts) ↦ parts | _ ↦ [] ]) → s < length c.shapes
    by None found few = absurd (omega (arith, few))
    by (Some shape) found few = slice_get_within c.shapes s shape found

pub place_low : (c : Code) → GoodForm c → (f : ℕ) (place : Place) → IsPlace c f place → place_node c f place < nodes_in_code c
place_low c good f place is = node_low c (place_node c f place) is.0 (places_are_nodes c good f place is.0 is.1)

pub shape_exists : (c : Code) (n s : ℕ) → HasShape c n s → s < length c.shapes
shape_exists c n s is =
    let at = fits_flat (reverse c.shapes) (node_shapes_in (reverse c.shapes)) (all_fit (reverse c.shapes)) (shapes_used c) n s is in
    let low = at.low in
    let count = length-reverse c.shapes in
    omega (arith, low, count)

pub site_low : (c : Code) → GoodForm c → (v : ℕ) → v < length c.sites → site_node c v < nodes_in_code c
site_low c good v low =
    let d : Site = record { shape = 0; line = 0 } in
    let shape = (get_or c.sites v d).shape in
    let more = site_more c v d low in
    let exists : shape < length c.shapes = good.globals.sites v d low in
    let some = some_node c good shape (get_or c.shapes shape Shape.Int) (slice_get-get_or c.shapes shape Shape.Int exists) in
    let all = nodes_le (shape_nodes c) (shapes_used c) (length c.globals + (length (vars_in_funs c.funs) + (v + 1))) in
    omega (arith, more, some, all)
