-- In code of a good form the nodes of a shape are those of the shapes that it names.
use Rattle.std.proofs.Common.{◌≡◌, ℕ, zero, suc, ◌+◌, ◌<◌, ◌≤◌, true, false, List, [], ◌∷◌, ◌++◌, length, get_or, slice_index, take, drop, map, sum, reverse, refl, sym, ap, ◌∙◌, arith, eq-eqb, Some, None}
use Rattle.std.specs.Prelude.{nat_eq, slice_get}
use Rattle.std.proofs.lemmas.List.{length-append, length-reverse, length-take-le}
use Rattle.std.proofs.lemmas.List.Sums.{sum-map, sum_by_more, sum_by-take-le}
use Rattle.std.proofs.lemmas.Option.{slice_get_within, slice_get-get_or}
use Rattle.std.proofs.lemmas.Bool.{ne_eqb}
use Rattle.tac_ir.specs.declared.code.Code.{Code}
use Rattle.tac_ir.specs.declared.code.Shape.{Shape}
use Rattle.tac_ir.specs.Counts.{nodes_by, nodes_in, shape_nodes}
use Rattle.tac_ir.specs.GoodForm.{GoodForm, shapes_named}
use Rattle.tac_ir.proofs.ShapeWords.{all_below, reverse-split}

in_earlier : (later earlier : List Shape) (s : ℕ) → s < length earlier → nodes_in (later ++ earlier) s ≡ nodes_in earlier s
unfolding nodes_in
in_earlier [] earlier s h = refl
in_earlier (x ∷ later) earlier s h =
    let other : nat_eq s (length (later ++ earlier)) ≡ false = ne_eqb s (length (later ++ earlier)) (λ e. omega (arith, length-append later earlier)) in
    ap (λ b. elim b [ true ↦ nodes_by (nodes_in (later ++ earlier)) x | false ↦ nodes_in (later ++ earlier) s ]) other ∙ in_earlier later earlier s h

as_last : (shape : Shape) (earlier : List Shape) (s : ℕ) → s ≡ length earlier → nodes_in (shape ∷ earlier) s ≡ nodes_by (nodes_in earlier) shape
unfolding nodes_in
as_last shape earlier s e = rw (eq-eqb s (length earlier) e, nodes_in) refl

map_agree : (f g : ℕ → ℕ) (n : ℕ) → ((s : ℕ) → s < n → f s ≡ g s) → (xs : List ℕ) → ((k x : ℕ) → slice_get xs k ≡ Some x → x < n) → map f xs ≡ map g xs
map_agree f g n same [] below = refl
map_agree f g n same (x ∷ xs) below = cc (same x (below 0 x refl), map_agree f g n same xs (λ k y e. below (suc k) y e))

by_agree : (f g : ℕ → ℕ) (n : ℕ) → ((s : ℕ) → s < n → f s ≡ g s) → (shape : Shape) → ((k x : ℕ) → slice_get (shapes_named shape) k ≡ Some x → x < n) → nodes_by f shape ≡ nodes_by g shape
by_agree f g n same Shape.Int below = refl
by_agree f g n same Shape.Ptr below = refl
by_agree f g n same (Shape.Array len item) below = ap (λ w. 1 + w) (same item (below 0 item refl))
by_agree f g n same (Shape.Struct parts) below = ap (λ ns. 1 + sum ns) (map_agree f g n same parts below)

pub shape_nodes_at : (c : Code) → GoodForm c → (s : ℕ) (shape : Shape) → slice_get c.shapes s ≡ Some shape → shape_nodes c s ≡ nodes_by (shape_nodes c) shape
shape_nodes_at c good s shape found =
    let within : s < length c.shapes = slice_get_within c.shapes s shape found in
    let earlier = reverse (take s c.shapes) in
    let later = reverse (drop (s + 1) c.shapes) in
    let count : length earlier ≡ s = length-reverse (take s c.shapes) ∙ length-take-le s c.shapes (omega arith) in
    let split = reverse-split c.shapes s shape found in
    let here : shape_nodes c s ≡ nodes_by (nodes_in earlier) shape =
    ap (λ xs. nodes_in xs s) split ∙ in_earlier later (shape ∷ earlier) s (omega (arith, count)) ∙ as_last shape earlier s (sym count) in
    let agree : (x : ℕ) → x < s → nodes_in earlier x ≡ shape_nodes c x = λ x h.
    sym (ap (λ xs. nodes_in xs x) split ∙ in_earlier later (shape ∷ earlier) x (omega (arith, count)) ∙ in_earlier (shape ∷ []) earlier x (omega (arith, count))) in
    here ∙ by_agree (nodes_in earlier) (shape_nodes c) s agree shape (all_below s (shapes_named shape) (good.shapes.each s shape found).earlier)

none_in : (shapes : List Shape) (s : ℕ) → length shapes ≤ s → nodes_in shapes s ≡ 0
unfolding nodes_in
none_in [] s h = refl
none_in (x ∷ shapes) s h =
    let other : nat_eq s (length shapes) ≡ false = ne_eqb s (length shapes) (λ e. omega arith) in
    ap (λ b. elim b [ true ↦ nodes_by (nodes_in shapes) x | false ↦ nodes_in shapes s ]) other ∙ none_in shapes s (omega arith)

past_end : {A : Type 0} (xs : List A) (i : ℕ) → slice_get xs i ≡ None → length xs ≤ i
past_end [] i h = omega arith
past_end (x ∷ xs) zero h = cc
past_end (x ∷ xs) (suc i) h = omega (arith, past_end xs i h)

-- a shape that does not exist has no nodes
pub no_nodes : (c : Code) (s : ℕ) → slice_get c.shapes s ≡ None → shape_nodes c s ≡ 0
no_nodes c s is = none_in (reverse c.shapes) s (omega (arith, past_end c.shapes s is, length-reverse c.shapes))

-- Sums over the front of a list.

-- one more
pub nodes_more : {A : Type 0} → (f : A → ℕ) (xs : List A) (n : ℕ) (d : A) → n < length xs → sum (map f (take (n + 1) xs)) ≡ sum (map f (take n xs)) + f (get_or xs n d)
nodes_more f xs n d h = sum-map f (take (n + 1) xs) ∙ sum_by_more f xs n d h ∙ ap (λ w. w + f (get_or xs n d)) (sym (sum-map f (take n xs)))

pub nodes_le : {A : Type 0} → (f : A → ℕ) (xs : List A) (n : ℕ) → sum (map f (take n xs)) ≤ sum (map f xs)
nodes_le f xs n = omega (arith, sum-map f (take n xs), sum-map f xs, sum_by-take-le f xs n)

-- one of them, with those before it
pub nodes_with : {A : Type 0} → (f : A → ℕ) (xs : List A) (n : ℕ) (d : A) → n < length xs → sum (map f (take n xs)) + f (get_or xs n d) ≤ sum (map f xs)
nodes_with f xs n d h = omega (arith, nodes_more f xs n d h, nodes_le f xs (n + 1))

-- What a shape names.

pub record IsItem (c : Code) (s item : ℕ) : Type 0 where
  pub earlier : item < s
  pub nodes : shape_nodes c s ≡ 1 + shape_nodes c item

pub item_of : (c : Code) → GoodForm c → (s len item : ℕ) → slice_get c.shapes s ≡ Some (Shape.Array len item) → IsItem c s item
item_of c good s len item found = record {
  earlier = all_below s (item ∷ []) (good.shapes.each s (Shape.Array len item) found).earlier 0 item refl;
  nodes = shape_nodes_at c good s (Shape.Array len item) found;
}

pub record IsPart (c : Code) (s part before : ℕ) : Type 0 where
  pub earlier : part < s
  pub fits : 1 + before + shape_nodes c part ≤ shape_nodes c s

pub part_of : (c : Code) → GoodForm c → (s : ℕ) (parts : List ℕ) (k : ℕ) → slice_get c.shapes s ≡ Some (Shape.Struct parts) → k < length parts
    → IsPart c s (slice_index parts k) (sum (map (shape_nodes c) (take k parts)))
part_of c good s parts k found low = record {
  earlier = all_below s parts (good.shapes.each s (Shape.Struct parts) found).earlier k (slice_index parts k) (slice_get-get_or parts k 0 low);
  fits = omega (arith, shape_nodes_at c good s (Shape.Struct parts) found, nodes_more (shape_nodes c) parts k 0 low, nodes_le (shape_nodes c) parts (k + 1));
}
