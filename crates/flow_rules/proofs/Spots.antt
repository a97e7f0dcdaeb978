-- The shape of a node by a walk over shapes.
use Rattle.std.proofs.Common.{◌≡◌, ℕ, zero, suc, ◌+◌, ◌-◌, ◌<◌, ◌≤◌, Bool, true, false, List, [], ◌∷◌, ◌++◌, length, get_or, take, drop, map, sum, reverse, refl, sym, ap, ◌∙◌, subst, arith, eq-eqb, Some}
use Rattle.std.specs.Prelude.{nat_eq, slice_get}
use Rattle.std.specs.List.{flat_map}
use Rattle.std.proofs.lemmas.Bool.{ne_eqb}
use Rattle.std.proofs.lemmas.List.{append_assoc, append-nil, length-append, length-reverse, length-take-le, take_more, take_all, take-append-drop}
use Rattle.std.proofs.lemmas.List.Sums.{sum-map, sum_by-cons}
use Rattle.std.proofs.lemmas.Option.{slice_get_within}
use Rattle.tac_ir.specs.declared.code.Code.{Code}
use Rattle.tac_ir.specs.declared.code.Fun.{Fun}
use Rattle.tac_ir.specs.declared.code.Shape.{Shape}
use Rattle.tac_ir.specs.Counts.{nodes_by, nodes_in, shape_nodes, vars_in_funs}
use Rattle.tac_ir.specs.GoodForm.{GoodForm, shapes_named}
use Rattle.tac_ir.specs.Nodes.{shapes_below, node_shapes_in}
use Rattle.tac_ir.proofs.ShapeWords.{all_below, reverse-split}
use Rattle.flow_rules.specs.declared.leaves.Spot.{Spot}
use Rattle.flow_rules.specs.tools.Spots.{nodes_of, nodes_of_all, IsWithinSome, IsBehindAll, IsSpotAmong}

-- Lists.

pub front_get : {A : Type 0} → (xs ys : List A) (n : ℕ) → n < length xs → slice_get (xs ++ ys) n ≡ slice_get xs n
front_get [] ys n h = absurd (omega (arith, h))
front_get (x ∷ xs) ys zero h = refl
front_get (x ∷ xs) ys (suc n) h = front_get xs ys n (omega (arith, h))

pub back_get : {A : Type 0} → (xs ys : List A) (n : ℕ) → slice_get (xs ++ ys) (length xs + n) ≡ slice_get ys n
back_get [] ys n = (let same : zero + n ≡ n = omega arith in ap (slice_get ys) same)
back_get (x ∷ xs) ys n = (let step : suc (length xs) + n ≡ suc (length xs + n) = omega arith in ap (slice_get (x ∷ (xs ++ ys))) step ∙ back_get xs ys n)

flat_append : (f : ℕ → List ℕ) (xs ys : List ℕ) → flat_map f (xs ++ ys) ≡ flat_map f xs ++ flat_map f ys
flat_append f [] ys = refl
flat_append f (x ∷ xs) ys = ap (λ l. f x ++ l) (flat_append f xs ys) ∙ sym (append_assoc (f x) (flat_map f xs) (flat_map f ys))

-- The nodes of a shape, by those of the shapes that it names.

sum_step : (g : ℕ → ℕ) (x : ℕ) (xs : List ℕ) → sum (map g (x ∷ xs)) ≡ g x + sum (map g xs)
sum_step g x xs = sum-map g (x ∷ xs) ∙ sum_by-cons g x xs ∙ ap (λ n. g x + n) (sym (sum-map g xs))

length_flat : (f : ℕ → List ℕ) (g : ℕ → ℕ) → ((x : ℕ) → length (f x) ≡ g x) → (xs : List ℕ) → length (flat_map f xs) ≡ sum (map g xs)
length_flat f g same [] = refl
length_flat f g same (x ∷ xs) = omega (arith, length-append (f x) (flat_map f xs), same x, length_flat f g same xs, sum_step g x xs)

counted : (shapes : List Shape) (s : ℕ) → length (node_shapes_in shapes s) ≡ nodes_in shapes s
unfolding node_shapes_in nodes_in
counted [] s = refl
counted (shape ∷ earlier) s = by (nat_eq s (length earlier)) shape (counted earlier)
  where
    by : (b : Bool) (shape : Shape) → ((x : ℕ) → length (node_shapes_in earlier x) ≡ nodes_in earlier x)
        → length (elim b as (λ z. List ℕ) [ true ↦ s ∷ shapes_below (node_shapes_in earlier) shape | false ↦ node_shapes_in earlier s ])
        ≡ elim b as (λ z. ℕ) [ true ↦ nodes_by (nodes_in earlier) shape | false ↦ nodes_in earlier s ]
    by false shape rest = rest s
    by true Shape.Int rest = refl
    by true Shape.Ptr rest = refl
    by true (Shape.Array len item) rest = omega (arith, rest item)
    by true (Shape.Struct parts) rest = omega (arith, length_flat (node_shapes_in earlier) (nodes_in earlier) rest parts)

pub long_nodes : (c : Code) (s : ℕ) → length (nodes_of c s) ≡ shape_nodes c s
long_nodes c s = counted (reverse c.shapes) s

in_earlier : (later earlier : List Shape) (s : ℕ) → s < length earlier → node_shapes_in (later ++ earlier) s ≡ node_shapes_in earlier s
unfolding node_shapes_in
in_earlier [] earlier s h = refl
in_earlier (x ∷ later) earlier s h =
    let other : nat_eq s (length (later ++ earlier)) ≡ false = ne_eqb s (length (later ++ earlier)) (λ e. omega (arith, length-append later earlier)) in
    ap (λ b. elim b as (λ z. List ℕ) [ true ↦ s ∷ shapes_below (node_shapes_in (later ++ earlier)) x | false ↦ node_shapes_in (later ++ earlier) s ]) other ∙ in_earlier later earlier s h

as_last : (shape : Shape) (earlier : List Shape) (s : ℕ) → s ≡ length earlier → node_shapes_in (shape ∷ earlier) s ≡ s ∷ shapes_below (node_shapes_in earlier) shape
unfolding node_shapes_in
as_last shape earlier s e = rw (eq-eqb s (length earlier) e, node_shapes_in) refl

flat_agree : (f g : ℕ → List ℕ) (n : ℕ) → ((s : ℕ) → s < n → f s ≡ g s) → (xs : List ℕ) → ((k x : ℕ) → slice_get xs k ≡ Some x → x < n) → flat_map f xs ≡ flat_map g xs
flat_agree f g n same [] below = refl
flat_agree f g n same (x ∷ xs) below = ap (λ l. l ++ flat_map f xs) (same x (below 0 x refl)) ∙ ap (λ l. g x ++ l) (flat_agree f g n same xs (λ k y e. below (suc k) y e))

below_agree : (f g : ℕ → List ℕ) (n : ℕ) → ((s : ℕ) → s < n → f s ≡ g s) → (shape : Shape) → ((k x : ℕ) → slice_get (shapes_named shape) k ≡ Some x → x < n) → shapes_below f shape ≡ shapes_below g shape
below_agree f g n same Shape.Int below = refl
below_agree f g n same Shape.Ptr below = refl
below_agree f g n same (Shape.Array len item) below = same item (below 0 item refl)
below_agree f g n same (Shape.Struct parts) below = flat_agree f g n same parts below

pub nodes_at : (c : Code) → GoodForm c → (s : ℕ) (shape : Shape) → slice_get c.shapes s ≡ Some shape → nodes_of c s ≡ s ∷ shapes_below (nodes_of c) shape
nodes_at c good s shape found =
    let within : s < length c.shapes = slice_get_within c.shapes s shape found in
    let earlier = reverse (take s c.shapes) in
    let later = reverse (drop (s + 1) c.shapes) in
    let count : length earlier ≡ s = length-reverse (take s c.shapes) ∙ length-take-le s c.shapes (omega arith) in
    let split = reverse-split c.shapes s shape found in
    let here : nodes_of c s ≡ s ∷ shapes_below (node_shapes_in earlier) shape =
    ap (λ xs. node_shapes_in xs s) split ∙ in_earlier later (shape ∷ earlier) s (omega (arith, count)) ∙ as_last shape earlier s (sym count) in
    let agree : (x : ℕ) → x < s → node_shapes_in earlier x ≡ nodes_of c x = λ x h.
    sym (ap (λ xs. node_shapes_in xs x) split ∙ in_earlier later (shape ∷ earlier) x (omega (arith, count)) ∙ in_earlier (shape ∷ []) earlier x (omega (arith, count))) in
    here ∙ ap (λ l. s ∷ l) (below_agree (node_shapes_in earlier) (nodes_of c) s agree shape (all_below s (shapes_named shape) (good.shapes.each s shape found).earlier))

-- One shape.

pub one_within : (c : Code) (s n : ℕ) → n < shape_nodes c s → IsWithinSome c (s ∷ []) n s n
one_within c s n low = record { index = 0; listed = refl; least = omega arith; node = λ rest. front_get (nodes_of c s) (nodes_of_all c rest) n (omega (arith, low, long_nodes c s)) }

pub one_behind : (c : Code) (s n : ℕ) → shape_nodes c s ≤ n → IsBehindAll c (s ∷ []) n (n - shape_nodes c s)
one_behind c s n high =
    let split : n ≡ length (nodes_of c s) + (n - shape_nodes c s) = omega (arith, high, long_nodes c s) in
    record { least = omega arith; node = λ rest. ap (slice_get (nodes_of c s ++ nodes_of_all c rest)) split ∙ back_get (nodes_of c s) (nodes_of_all c rest) (n - shape_nodes c s) }

-- One list behind another.

pub none_yet : (c : Code) (n : ℕ) → IsBehindAll c [] n n
none_yet c n = record { least = omega arith; node = λ rest. refl }

pub goes_on : (c : Code) (xs ys : List ℕ) (n k : ℕ) → IsBehindAll c xs n k → (spot : Spot) → IsSpotAmong c ys k spot → IsSpotAmong c (xs ++ ys) n spot
goes_on c xs ys n k before (Spot.Within s j) h =
    let low = before.least in
    let least = h.least in
    record {
      index = length xs + h.index;
      listed = back_get xs ys h.index ∙ h.listed;
      least = omega (arith, low, least);
      node = λ rest. ap (λ l. slice_get (nodes_of_all c l) n) (append_assoc xs ys rest) ∙ before.node (ys ++ rest) ∙ h.node rest;
    }
goes_on c xs ys n k before (Spot.Behind j) h =
    let low = before.least in
    let least = h.least in
    record { least = omega (arith, low, least); node = λ rest. ap (λ l. slice_get (nodes_of_all c l) n) (append_assoc xs ys rest) ∙ before.node (ys ++ rest) ∙ h.node rest }

pub with_more : (c : Code) (xs more : List ℕ) (n s k : ℕ) → IsWithinSome c xs n s k → IsWithinSome c (xs ++ more) n s k
with_more c xs more n s k h = record {
  index = h.index;
  listed = front_get xs more h.index (slice_get_within xs h.index s h.listed) ∙ h.listed;
  least = h.least;
  node = λ rest. ap (λ l. slice_get (nodes_of_all c l) n) (append_assoc xs more rest) ∙ h.node (more ++ rest);
}

-- A loop over a list.

pub next_spot : (c : Code) (xs : List ℕ) (i n k s : ℕ) → i < length xs → get_or xs i 0 ≡ s → IsBehindAll c (take i xs) n k → (spot : Spot) → IsSpotAmong c (s ∷ []) k spot
    → IsSpotAmong c (take (i + 1) xs) n spot
next_spot c xs i n k s low item before spot here =
    subst (λ l. IsSpotAmong c l n spot) (ap (λ x. take i xs ++ x ∷ []) (sym item) ∙ sym (take_more xs i 0 low)) (goes_on c (take i xs) (s ∷ []) n k before spot here)

pub found_spot : (c : Code) (xs : List ℕ) (i n s k : ℕ) → IsWithinSome c (take i xs) n s k → IsWithinSome c xs n s k
found_spot c xs i n s k h = subst (λ l. IsWithinSome c l n s k) (take-append-drop i xs) (with_more c (take i xs) (drop i xs) n s k h)

pub last_spot : (c : Code) (xs : List ℕ) (i n k : ℕ) → length xs ≤ i → IsBehindAll c (take i xs) n k → IsBehindAll c xs n k
last_spot c xs i n k high h = subst (λ l. IsBehindAll c l n k) (take_all i xs high) h

-- A loop over functions.

vars_append : (fs gs : List Fun) → vars_in_funs (fs ++ gs) ≡ vars_in_funs fs ++ vars_in_funs gs
vars_append [] gs = refl
vars_append (f ∷ fs) gs = ap (λ l. f.vars ++ l) (vars_append fs gs) ∙ sym (append_assoc f.vars (vars_in_funs fs) (vars_in_funs gs))

pub next_fun_spot : (c : Code) (fs : List Fun) (i n k : ℕ) (fun : Fun) → i < length fs → get_or fs i fun ≡ fun → IsBehindAll c (vars_in_funs (take i fs)) n k → (spot : Spot)
    → IsSpotAmong c fun.vars k spot → IsSpotAmong c (vars_in_funs (take (i + 1) fs)) n spot
next_fun_spot c fs i n k fun low item before spot here =
    let split : vars_in_funs (take i fs) ++ fun.vars ≡ vars_in_funs (take (i + 1) fs) =
    ap (λ l. vars_in_funs (take i fs) ++ l) (sym (append-nil fun.vars)) ∙ sym (vars_append (take i fs) (fun ∷ []))
    ∙ ap (λ x. vars_in_funs (take i fs ++ x ∷ [])) (sym item) ∙ ap vars_in_funs (sym (take_more fs i fun low)) in
    subst (λ l. IsSpotAmong c l n spot) split (goes_on c (vars_in_funs (take i fs)) fun.vars n k before spot here)

pub found_fun_spot : (c : Code) (fs : List Fun) (i n s k : ℕ) → IsWithinSome c (vars_in_funs (take i fs)) n s k → IsWithinSome c (vars_in_funs fs) n s k
found_fun_spot c fs i n s k h =
    subst (λ l. IsWithinSome c l n s k) (sym (vars_append (take i fs) (drop i fs)) ∙ ap vars_in_funs (take-append-drop i fs))
    (with_more c (vars_in_funs (take i fs)) (vars_in_funs (drop i fs)) n s k h)
