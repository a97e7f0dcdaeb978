-- The words with which globals start.
use Rattle.std.proofs.Common.{◌≡◌, ℕ, zero, suc, ◌+◌, ◌-◌, ◌*◌, ◌<◌, ◌≤◌, Bool, true, false, List, [], ◌∷◌, ◌++◌, length, take, drop, slice_index, drop-cons, add-one, map, sum, reverse, refl, sym, ap, ◌∙◌, arith, eq-eqb, Some, None}
use Rattle.std.specs.Prelude.{nat_eq, slice_get}
use Rattle.std.specs.List.{flat_map}
use Rattle.std.proofs.lemmas.Bool.{ne_eqb}
use Rattle.std.proofs.lemmas.List.{length-append, length-reverse, length-take-le, drop_all}
use Rattle.std.proofs.lemmas.List.Sums.{sum-map, sum_by-cons}
use Rattle.std.proofs.lemmas.Option.{slice_get_within}
use Rattle.obj_mem.specs.declared.value.Value.{Value}
use Rattle.tac_ir.specs.declared.code.Code.{Code}
use Rattle.tac_ir.specs.declared.code.Shape.{Shape}
use Rattle.tac_ir.specs.Layout.{words_by, words_in}
use Rattle.tac_ir.specs.GoodForm.{GoodForm, shapes_named}
use Rattle.tac_ir.proofs.ShapeWords.{all_below, reverse-split, shape_words-most}
use Rattle.obj_run.specs.Starts.{times, values_by, values_in}

-- As many as the shape has.

sum_step : (g : ℕ → ℕ) (x : ℕ) (xs : List ℕ) → sum (map g (x ∷ xs)) ≡ g x + sum (map g xs)
sum_step g x xs = sum-map g (x ∷ xs) ∙ sum_by-cons g x xs ∙ ap (λ n. g x + n) (sym (sum-map g xs))

times_count : (n : ℕ) (vs : List Value) → length (times n vs) ≡ n * length vs
times_count zero vs = omega arith
times_count (suc n) vs = omega (arith, times_count n vs, length-append vs (times n vs))

flat_count : (f : ℕ → List Value) (g : ℕ → ℕ) → ((s : ℕ) → length (f s) ≡ g s) → (xs : List ℕ) → length (flat_map f xs) ≡ sum (map g xs)
flat_count f g same [] = refl
flat_count f g same (x ∷ xs) = omega (arith, length-append (f x) (flat_map f xs), same x, flat_count f g same xs, sum_step g x xs)

pub values_count : (k : Value) (shapes : List Shape) (s : ℕ) → length (values_in k shapes s) ≡ words_in shapes s
unfolding values_in words_in
values_count k [] s = refl
values_count k (shape ∷ earlier) s = by (nat_eq s (length earlier)) shape (values_count k earlier)
  where
    by : (b : Bool) (shape : Shape) → ((x : ℕ) → length (values_in k earlier x) ≡ words_in earlier x)
        → length (elim b as (λ z. List Value) [ true ↦ values_by k (values_in k earlier) shape | false ↦ values_in k earlier s ]) ≡ elim b as (λ z. ℕ) [ true ↦ words_by (words_in earlier) shape | false ↦ words_in earlier s ]
    by false shape rest = rest s
    by true Shape.Int rest = refl
    by true Shape.Ptr rest = refl
    by true (Shape.Array len item) rest = times_count len (values_in k earlier item) ∙ ap (λ n. len * n) (rest item)
    by true (Shape.Struct parts) rest = flat_count (values_in k earlier) (words_in earlier) rest parts

-- Those of a shape, by those of the shapes that it names.

in_earlier : (k : Value) (later earlier : List Shape) (s : ℕ) → s < length earlier → values_in k (later ++ earlier) s ≡ values_in k earlier s
unfolding values_in
in_earlier k [] earlier s h = refl
in_earlier k (x ∷ later) earlier s h =
    let other : nat_eq s (length (later ++ earlier)) ≡ false = ne_eqb s (length (later ++ earlier)) (λ e. omega (arith, length-append later earlier)) in
    ap (λ b. elim b as (λ z. List Value) [ true ↦ values_by k (values_in k (later ++ earlier)) x | false ↦ values_in k (later ++ earlier) s ]) other ∙ in_earlier k later earlier s h

as_last : (k : Value) (shape : Shape) (earlier : List Shape) (s : ℕ) → s ≡ length earlier → values_in k (shape ∷ earlier) s ≡ values_by k (values_in k earlier) shape
unfolding values_in
as_last k shape earlier s e = ap (λ b. elim b as (λ z. List Value) [ true ↦ values_by k (values_in k earlier) shape | false ↦ values_in k earlier s ]) (eq-eqb s (length earlier) e)

flat_agree : (f g : ℕ → List Value) (n : ℕ) → ((s : ℕ) → s < n → f s ≡ g s) → (xs : List ℕ) → ((k x : ℕ) → slice_get xs k ≡ Some x → x < n) → flat_map f xs ≡ flat_map g xs
flat_agree f g n same [] below = refl
flat_agree f g n same (x ∷ xs) below = ap (λ l. l ++ flat_map f xs) (same x (below 0 x refl)) ∙ ap (λ l. g x ++ l) (flat_agree f g n same xs (λ k y e. below (suc k) y e))

by_agree : (k : Value) (f g : ℕ → List Value) (n : ℕ) → ((s : ℕ) → s < n → f s ≡ g s) → (shape : Shape) → ((k x : ℕ) → slice_get (shapes_named shape) k ≡ Some x → x < n) → values_by k f shape ≡ values_by k g shape
by_agree k f g n same Shape.Int below = refl
by_agree k f g n same Shape.Ptr below = refl
by_agree k f g n same (Shape.Array len item) below = ap (times len) (same item (below 0 item refl))
by_agree k f g n same (Shape.Struct parts) below = flat_agree f g n same parts below

pub named_below : (c : Code) → GoodForm c → (s : ℕ) (shape : Shape) → slice_get c.shapes s ≡ Some shape → (k x : ℕ) → slice_get (shapes_named shape) k ≡ Some x → x < s
named_below c good s shape found = all_below s (shapes_named shape) (good.shapes.each s shape found).earlier

pub values_at : (c : Code) → GoodForm c → (k : Value) (s : ℕ) (shape : Shape) → slice_get c.shapes s ≡ Some shape → values_in k (reverse c.shapes) s ≡ values_by k (values_in k (reverse c.shapes)) shape
values_at c good k s shape found =
    let within : s < length c.shapes = slice_get_within c.shapes s shape found in
    let earlier = reverse (take s c.shapes) in
    let later = reverse (drop (s + 1) c.shapes) in
    let count : length earlier ≡ s = length-reverse (take s c.shapes) ∙ length-take-le s c.shapes (omega arith) in
    let split = reverse-split c.shapes s shape found in
    let here : values_in k (reverse c.shapes) s ≡ values_by k (values_in k earlier) shape =
    ap (λ xs. values_in k xs s) split ∙ in_earlier k later (shape ∷ earlier) s (omega (arith, count)) ∙ as_last k shape earlier s (sym count) in
    let agree : (x : ℕ) → x < s → values_in k earlier x ≡ values_in k (reverse c.shapes) x = λ x h.
    sym (ap (λ xs. values_in k xs x) split ∙ in_earlier k later (shape ∷ earlier) x (omega (arith, count)) ∙ in_earlier k (shape ∷ []) earlier x (omega (arith, count))) in
    here ∙ by_agree k (values_in k earlier) (values_in k (reverse c.shapes)) s agree shape (named_below c good s shape found)

pub values_none : (k : Value) (shapes : List Shape) (s : ℕ) → length shapes ≤ s → values_in k shapes s ≡ []
unfolding values_in
values_none k [] s h = refl
values_none k (x ∷ shapes) s h =
    let other : nat_eq s (length shapes) ≡ false = ne_eqb s (length shapes) (λ e. omega arith) in
    ap (λ b. elim b as (λ z. List Value) [ true ↦ values_by k (values_in k shapes) x | false ↦ values_in k shapes s ]) other ∙ values_none k shapes s (omega arith)

pub values_absent : (k : Value) (shapes : List Shape) (s : ℕ) → slice_get shapes s ≡ None → values_in k (reverse shapes) s ≡ []
values_absent k shapes s none = values_none k (reverse shapes) s (omega (arith, past shapes s none, length-reverse shapes))
  where
    past : (shapes : List Shape) (i : ℕ) → slice_get shapes i ≡ None → length shapes ≤ i
    past [] i h = omega arith
    past (x ∷ shapes) zero h = cc
    past (x ∷ shapes) (suc i) h = omega (arith, past shapes i h)

-- Loops.

append_assoc : (xs ys zs : List Value) → (xs ++ ys) ++ zs ≡ xs ++ (ys ++ zs)
append_assoc [] ys zs = refl
append_assoc (x ∷ xs) ys zs = ap (λ l. x ∷ l) (append_assoc xs ys zs)

pub append_none : (xs : List Value) → xs ++ [] ≡ xs
append_none [] = refl
append_none (x ∷ xs) = ap (λ l. x ∷ l) (append_none xs)

pub times_step : (n k : ℕ) (vs ws base new : List Value) → k < n → new ≡ ws ++ vs → ws ++ times (n - k) vs ≡ base ++ times n vs → new ++ times (n - (k + 1)) vs ≡ base ++ times n vs
times_step n k vs ws base new less is so =
    let one : n - k ≡ suc (n - (k + 1)) = omega (arith, less) in
    ap (λ x. x ++ times (n - (k + 1)) vs) is ∙ append_assoc ws vs (times (n - (k + 1)) vs) ∙ ap (λ m. ws ++ times m vs) (sym one) ∙ so

pub times_end : (n k : ℕ) (vs ws base : List Value) → n ≤ k → ws ++ times (n - k) vs ≡ base ++ times n vs → ws ≡ base ++ times n vs
times_end n k vs ws base past so =
    let none : n - k ≡ 0 = omega (arith, past) in
    sym (append_none ws) ∙ ap (λ m. ws ++ times m vs) (sym none) ∙ so

pub flat_step : (f : ℕ → List Value) (parts : List ℕ) (i : ℕ) (ws base new : List Value) → i < length parts → new ≡ ws ++ f (slice_index parts i)
    → ws ++ flat_map f (drop i parts) ≡ base ++ flat_map f parts → new ++ flat_map f (drop (i + 1) parts) ≡ base ++ flat_map f parts
flat_step f parts i ws base new less is so =
    let next : drop i parts ≡ slice_index parts i ∷ drop (i + 1) parts = rw add-one (drop-cons parts i 0 less) in
    ap (λ x. x ++ flat_map f (drop (i + 1) parts)) is ∙ append_assoc ws (f (slice_index parts i)) (flat_map f (drop (i + 1) parts)) ∙ ap (λ xs. ws ++ flat_map f xs) (sym next) ∙ so

pub flat_end : (f : ℕ → List Value) (parts : List ℕ) (i : ℕ) (ws base : List Value) → length parts ≤ i → ws ++ flat_map f (drop i parts) ≡ base ++ flat_map f parts → ws ≡ base ++ flat_map f parts
flat_end f parts i ws base past so = sym (append_none ws) ∙ ap (λ xs. ws ++ flat_map f xs) (sym (drop_all i parts past)) ∙ so

pub few_words : (c : Code) → GoodForm c → (words before : List Value) (v : Value) (s : ℕ) → before ≡ [] → words ≡ before ++ values_in v (reverse c.shapes) s → length words < 2147483648
few_words c good words before v s none is =
    let all : length words ≡ words_in (reverse c.shapes) s = ap length (is ∙ ap (λ xs. xs ++ values_in v (reverse c.shapes) s) none) ∙ values_count v (reverse c.shapes) s in
    omega (arith, all, shape_words-most c good s)
