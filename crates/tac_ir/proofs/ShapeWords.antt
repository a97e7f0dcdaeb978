-- In code of a good form the words of a shape are those of the shapes that it names.
use Rattle.std.proofs.Common.{◌≡◌, ℕ, zero, suc, ◌+◌, ◌*◌, ◌<◌, ◌≤◌, true, false, List, [], ◌∷◌, ◌++◌, length, get_or, slice_index, take, drop, map, sum, reverse, refl, sym, ap, ◌∙◌, subst, arith, eq-eqb, Option, Some, None}
use Rattle.std.specs.Prelude.{nat_eq, slice_get, All}
use Rattle.std.proofs.lemmas.List.{take_more, reverse-append, length-append, length-reverse, length-take-le, take-append-drop}
use Rattle.std.proofs.lemmas.List.Sums.{sum-map, sum_by_more, sum_by-take-le}
use Rattle.std.proofs.lemmas.Option.{slice_get_within, slice_get-get_or}
use Rattle.std.proofs.lemmas.Bool.{ne_eqb}
use Rattle.std.specs.List.{sum_by}
use Rattle.tac_ir.specs.declared.code.Code.{Code}
use Rattle.tac_ir.specs.declared.code.Shape.{Shape}
use Rattle.tac_ir.specs.Layout.{words_by, words_in, shape_words, words_before, parts_of, along}
use Rattle.tac_ir.specs.Places.{end_of_path}
use Rattle.tac_ir.specs.GoodForm.{GoodForm, shapes_named}

-- a shape is found among the earlier ones
pub words_in-earlier : (later earlier : List Shape) (s : ℕ) → s < length earlier → words_in (later ++ earlier) s ≡ words_in earlier s
unfolding words_in
words_in-earlier [] earlier s h = refl
words_in-earlier (x ∷ later) earlier s h =
    let other : nat_eq s (length (later ++ earlier)) ≡ false = ne_eqb s (length (later ++ earlier)) (λ e. omega (arith, length-append later earlier)) in
    ap (λ b. elim b [ true ↦ words_by (words_in (later ++ earlier)) x | false ↦ words_in (later ++ earlier) s ]) other ∙ words_in-earlier later earlier s h

words_in-last : (shape : Shape) (earlier : List Shape) (s : ℕ) → s ≡ length earlier → words_in (shape ∷ earlier) s ≡ words_by (words_in earlier) shape
unfolding words_in
words_in-last shape earlier s e = rw (eq-eqb s (length earlier) e, words_in) refl

map-agree : (f g : ℕ → ℕ) (n : ℕ) → ((s : ℕ) → s < n → f s ≡ g s) → (xs : List ℕ) → ((k x : ℕ) → slice_get xs k ≡ Some x → x < n) → map f xs ≡ map g xs
map-agree f g n same [] below = refl
map-agree f g n same (x ∷ xs) below = cc (same x (below 0 x refl), map-agree f g n same xs (λ k y e. below (suc k) y e))

words_by-agree : (f g : ℕ → ℕ) (n : ℕ) → ((s : ℕ) → s < n → f s ≡ g s) → (shape : Shape) → ((k x : ℕ) → slice_get (shapes_named shape) k ≡ Some x → x < n) → words_by f shape ≡ words_by g shape
words_by-agree f g n same Shape.Int below = refl
words_by-agree f g n same Shape.Ptr below = refl
words_by-agree f g n same (Shape.Array len item) below = ap (λ w. len * w) (same item (below 0 item refl))
words_by-agree f g n same (Shape.Struct parts) below = ap sum (map-agree f g n same parts below)

-- the members of a list of which each is below a number
pub all_below : (n : ℕ) (xs : List ℕ) → All (λ x. x < n) xs → (k x : ℕ) → slice_get xs k ≡ Some x → x < n
all_below n xs all k x e =
    let within : k < length xs = slice_get_within xs k x e in
    let here : Some (get_or xs k x) ≡ Some x = sym (slice_get-get_or xs k x within) ∙ e in
    let same : get_or xs k x ≡ x = cc in
    subst (λ y. y < n) same (all k x within)

pub reverse-split : (shapes : List Shape) (s : ℕ) (shape : Shape) → slice_get shapes s ≡ Some shape → reverse shapes ≡ reverse (drop (s + 1) shapes) ++ (shape ∷ reverse (take s shapes))
reverse-split shapes s shape found =
    let within : s < length shapes = slice_get_within shapes s shape found in
    let here : Some (get_or shapes s shape) ≡ Some shape = sym (slice_get-get_or shapes s shape within) ∙ found in
    let same : get_or shapes s shape ≡ shape = cc in
    let up : reverse (take (s + 1) shapes) ≡ shape ∷ reverse (take s shapes) =
    ap reverse (take_more shapes s shape within) ∙ reverse-append (take s shapes) (get_or shapes s shape ∷ []) ∙ ap (λ x. x ∷ reverse (take s shapes)) same in
    ap reverse (sym (take-append-drop (s + 1) shapes)) ∙ reverse-append (take (s + 1) shapes) (drop (s + 1) shapes) ∙ ap (λ back. reverse (drop (s + 1) shapes) ++ back) up

-- the words of a shape, by those of the shapes that it names
pub shape_words-at : (c : Code) → GoodForm c → (s : ℕ) (shape : Shape) → slice_get c.shapes s ≡ Some shape → shape_words c s ≡ words_by (shape_words c) shape
shape_words-at c good s shape found =
    let within : s < length c.shapes = slice_get_within c.shapes s shape found in
    let earlier = reverse (take s c.shapes) in
    let later = reverse (drop (s + 1) c.shapes) in
    let count : length earlier ≡ s = length-reverse (take s c.shapes) ∙ length-take-le s c.shapes (omega arith) in
    let split = reverse-split c.shapes s shape found in
    let here : shape_words c s ≡ words_by (words_in earlier) shape =
    ap (λ xs. words_in xs s) split ∙ words_in-earlier later (shape ∷ earlier) s (omega (arith, count)) ∙ words_in-last shape earlier s (sym count) in
    let agree : (x : ℕ) → x < s → words_in earlier x ≡ shape_words c x = λ x h.
    sym (ap (λ xs. words_in xs x) split ∙ words_in-earlier later (shape ∷ earlier) x (omega (arith, count)) ∙ words_in-earlier (shape ∷ []) earlier x (omega (arith, count))) in
    here ∙ words_by-agree (words_in earlier) (shape_words c) s agree shape (all_below s (shapes_named shape) (good.shapes.each s shape found).earlier)

-- a shape that does not exist has no words
pub shape_words-none : (shapes : List Shape) (s : ℕ) → length shapes ≤ s → words_in shapes s ≡ 0
unfolding words_in
shape_words-none [] s h = refl
shape_words-none (x ∷ shapes) s h =
    let other : nat_eq s (length shapes) ≡ false = ne_eqb s (length shapes) (λ e. omega arith) in
    ap (λ b. elim b [ true ↦ words_by (words_in shapes) x | false ↦ words_in shapes s ]) other ∙ shape_words-none shapes s (omega arith)

slice_get_none : {A : Type 0} (xs : List A) (i : ℕ) → slice_get xs i ≡ None → length xs ≤ i
slice_get_none [] i h = omega arith
slice_get_none (x ∷ xs) zero h = cc
slice_get_none (x ∷ xs) (suc i) h = omega (arith, slice_get_none xs i h)

-- every shape has at most so many words
pub shape_words-most : (c : Code) → GoodForm c → (s : ℕ) → shape_words c s ≤ 24576
shape_words-most c good s = by (slice_get c.shapes s) refl
  where
    by : (o : Option Shape) → slice_get c.shapes s ≡ o → shape_words c s ≤ 24576
    by None is =
        let past : length c.shapes ≤ s = slice_get_none c.shapes s is in
        let zero : shape_words c s ≡ 0 = shape_words-none (reverse c.shapes) s (omega (arith, length-reverse c.shapes)) in omega arith
    by (Some shape) is = (good.shapes.each s shape is).words

-- Sums of the words of shapes.

pub words_before-sum : (c : Code) (xs : List ℕ) (n : ℕ) → words_before c xs n ≡ sum_by (shape_words c) (take n xs)
words_before-sum c xs n = sum-map (shape_words c) (take n xs)

-- one more shape
pub words_before-more : (c : Code) (xs : List ℕ) (n d : ℕ) → n < length xs → words_before c xs (n + 1) ≡ words_before c xs n + shape_words c (get_or xs n d)
words_before-more c xs n d h = words_before-sum c xs (n + 1) ∙ sum_by_more (shape_words c) xs n d h ∙ ap (λ w. w + shape_words c (get_or xs n d)) (sym (words_before-sum c xs n))

-- all shapes up to one are within all
pub words_before-le : (c : Code) (xs : List ℕ) (n : ℕ) → words_before c xs n ≤ sum (map (shape_words c) xs)
words_before-le c xs n = omega (arith, words_before-sum c xs n, sum-map (shape_words c) xs, sum_by-take-le (shape_words c) xs n)

pub words_before-with : (c : Code) (xs : List ℕ) (n s : ℕ) → slice_get xs n ≡ Some s → words_before c xs n + shape_words c s ≤ sum (map (shape_words c) xs)
words_before-with c xs n s found =
    let within : n < length xs = slice_get_within xs n s found in
    let here : Some (get_or xs n s) ≡ Some s = sym (slice_get-get_or xs n s within) ∙ found in
    let same : get_or xs n s ≡ s = cc in
    omega (arith, words_before-more c xs n s within, words_before-le c xs (n + 1), ap (shape_words c) same)

-- Fields.

-- what has parts is a struct
pub parts_of-struct : (c : Code) (s k part : ℕ) → slice_get (parts_of c s) k ≡ Some part → slice_get c.shapes s ≡ Some (Shape.Struct (parts_of c s))
parts_of-struct c s k part found = by (slice_get c.shapes s) refl found
  where
    by : (o : Option Shape) → slice_get c.shapes s ≡ o → slice_get (elim o [ Some (Shape.Struct parts) ↦ parts | _ ↦ [] ]) k ≡ Some part
        → o ≡ Some (Shape.Struct (elim o [ Some (Shape.Struct parts) ↦ parts | _ ↦ [] ]))
    by None is found = cc
    by (Some Shape.Int) is found = cc
    by (Some Shape.Ptr) is found = cc
    by (Some (Shape.Array len item)) is found = cc
    by (Some (Shape.Struct parts)) is found = refl

-- the words of a struct are those of its parts
pub struct_words : (c : Code) → GoodForm c → (s k part : ℕ) → slice_get (parts_of c s) k ≡ Some part → shape_words c s ≡ sum (map (shape_words c) (parts_of c s))
struct_words c good s k part found = shape_words-at c good s (Shape.Struct (parts_of c s)) (parts_of-struct c s k part found)

-- a field lies within its struct
pub along_within : (c : Code) → GoodForm c → (s : ℕ) (path : List ℕ) (e : ℕ) → end_of_path c s path ≡ Some e → along c s path + shape_words c e ≤ shape_words c s
along_within c good s [] e is = let same : s ≡ e = cc in omega (arith, ap (shape_words c) same)
along_within c good s (k ∷ path) e is = by (slice_get (parts_of c s) k) refl is (λ part. along_within c good part path e)
  where
    by : (o : Option ℕ) → slice_get (parts_of c s) k ≡ o → elim o [ None ↦ None | Some part ↦ end_of_path c part path ] ≡ Some e
        → ((part : ℕ) → end_of_path c part path ≡ Some e → along c part path + shape_words c e ≤ shape_words c part)
        → along c s (k ∷ path) + shape_words c e ≤ shape_words c s
    by None found is rest = cc
    by (Some part) found is rest =
        let within : k < length (parts_of c s) = slice_get_within (parts_of c s) k part found in
        let here : Some (slice_index (parts_of c s) k) ≡ Some part = sym (slice_get-get_or (parts_of c s) k 0 within) ∙ found in
        let same : slice_index (parts_of c s) k ≡ part = cc in
        omega (arith, rest part is, words_before-with c (parts_of c s) k part found, struct_words c good s k part found, ap (λ p. along c p path) same)
