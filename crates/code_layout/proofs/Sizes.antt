-- The words of shapes, found in the order of their numbers.
use Rattle.std.proofs.Common.{◌≡◌, ℕ, ◌+◌, ◌*◌, ◌^◌, ◌<◌, ◌≤◌, Bool, true, false, List, [], ◌∷◌, ◌++◌, length, get_or, slice_index, take, drop, map, sum, reverse, refl, sym, ap, ◌∙◌, subst, ⊎_elim, arith, eq-eqb}
use Rattle.std.specs.Prelude.{nat_eq, IsTrue, ◌&&◌}
use Rattle.std.proofs.lemmas.List.{take_more, reverse-append, get_or_push, get_or_append_left, get_or_past, length_push, length-take-le, length-reverse, take-append-drop, take_all}
use Rattle.std.proofs.lemmas.Bool.{cases_eq, cases_lt, ne_eqb}
use borrow.Author.Tests.{ltb-true}
use Rattle.tac_ir.specs.declared.code.Shape.{Shape}
use Rattle.tac_ir.specs.Layout.{words_by, words_in}
use Rattle.code_layout.specs.LaidOut.{are_sized}

-- these are the words of the first n shapes
pub record AreSizes (shapes : List Shape) (n : ℕ) (sizes : List ℕ) : Type 0 where
  pub count : length sizes ≡ n
  pub each : (s : ℕ) → slice_index sizes s ≡ words_in (reverse (take n shapes)) s

map-same : (f g : ℕ → ℕ) → ((s : ℕ) → f s ≡ g s) → (xs : List ℕ) → map f xs ≡ map g xs
map-same f g same [] = refl
map-same f g same (x ∷ xs) = cc (same x, map-same f g same xs)

-- a shape's words depend on those of the shapes that it names alone
pub words_by-same : (f g : ℕ → ℕ) → ((s : ℕ) → f s ≡ g s) → (shape : Shape) → words_by f shape ≡ words_by g shape
words_by-same f g same Shape.Int = refl
words_by-same f g same Shape.Ptr = refl
words_by-same f g same (Shape.Array len item) = ap (λ n. len * n) (same item)
words_by-same f g same (Shape.Struct parts) = ap sum (map-same f g same parts)

words_in-last : (shape : Shape) (earlier : List Shape) (s : ℕ) → s ≡ length earlier → words_in (shape ∷ earlier) s ≡ words_by (words_in earlier) shape
unfolding words_in
words_in-last shape earlier s e = rw (eq-eqb s (length earlier) e, words_in) refl

words_in-earlier : (shape : Shape) (earlier : List Shape) (s : ℕ) → nat_eq s (length earlier) ≡ false → words_in (shape ∷ earlier) s ≡ words_in earlier s
unfolding words_in
words_in-earlier shape earlier s e = rw (e, words_in) refl

-- the shapes up to the n-th, the last one first
reverse-more : (shapes : List Shape) (n : ℕ) (shape : Shape) → n < length shapes → shape ≡ get_or shapes n shape → reverse (take (n + 1) shapes) ≡ shape ∷ reverse (take n shapes)
reverse-more shapes n shape inside is =
    ap reverse (take_more shapes n shape inside) ∙ (reverse-append (take n shapes) (get_or shapes n shape ∷ []) ∙ ap (λ x. x ∷ reverse (take n shapes)) (sym is))

and-left : (a b : Bool) → (a && b) ≡ true → a ≡ true
and-left true b h = refl
and-left false b h = h

and-right : (a b : Bool) → (a && b) ≡ true → b ≡ true
and-right true b h = h
and-right false b h = cc

are_sized-back : (later earlier : List Shape) → IsTrue (are_sized (later ++ earlier)) → IsTrue (are_sized earlier)
are_sized-back [] earlier sized = sized
are_sized-back (shape ∷ later) earlier sized = are_sized-back later earlier (and-right _ _ sized)

pub AreSizes-none : (shapes : List Shape) → AreSizes shapes 0 []
unfolding words_in
AreSizes-none shapes = record { count = refl; each = λ s. refl }

-- the n-th shape has words that fit
pub words_by-fits : (shapes : List Shape) (n : ℕ) (sizes : List ℕ) (shape : Shape) → IsTrue (are_sized (reverse shapes)) → n < length shapes → shape ≡ get_or shapes n shape → AreSizes shapes n sizes → words_by (slice_index sizes) shape < 2 ^ 32
words_by-fits shapes n sizes shape sized inside is so_far =
    let split : reverse shapes ≡ reverse (drop (n + 1) shapes) ++ (shape ∷ reverse (take n shapes)) = ap reverse (sym (take-append-drop (n + 1) shapes)) ∙ (reverse-append (take (n + 1) shapes) (drop (n + 1) shapes) ∙ ap (λ back. reverse (drop (n + 1) shapes) ++ back) (reverse-more shapes n shape inside is)) in
    let back : IsTrue (are_sized (shape ∷ reverse (take n shapes))) = are_sized-back (reverse (drop (n + 1) shapes)) _ (subst (λ xs. IsTrue (are_sized xs)) split sized) in
    let below : words_by (words_in (reverse (take n shapes))) shape < 2 ^ 32 = ltb-true _ _ (and-left _ _ back) in
    subst (λ w. w < 2 ^ 32) (sym (words_by-same (slice_index sizes) (words_in (reverse (take n shapes))) so_far.each shape)) below

AreSizes-at : (shapes : List Shape) (n : ℕ) (sizes : List ℕ) (shape : Shape) → n < length shapes → AreSizes shapes n sizes → (s : ℕ) → slice_index (sizes ++ words_by (slice_index sizes) shape ∷ []) s ≡ words_in (shape ∷ reverse (take n shapes)) s
AreSizes-at shapes n sizes shape inside so_far s =
    let earlier = reverse (take n shapes) in
    let count : length earlier ≡ n = length-reverse (take n shapes) ∙ length-take-le n shapes (omega arith) in
    let w = words_by (slice_index sizes) shape in
    ⊎_elim
    (λ (here : s ≡ length earlier). get_or_push sizes w 0 s (omega (arith, so_far.count)) ∙ (words_by-same (slice_index sizes) (words_in earlier) so_far.each shape ∙ sym (words_in-last shape earlier s here)))
    (λ (other : s ≡ length earlier → ⊥).
    let before : words_in (shape ∷ earlier) s ≡ words_in earlier s = words_in-earlier shape earlier s (ne_eqb s (length earlier) other) in
    ⊎_elim
    (λ (low : s < length sizes). get_or_append_left sizes (w ∷ []) 0 s low ∙ (so_far.each s ∙ sym before))
    (λ (high : length sizes ≤ s).
    get_or_past (sizes ++ w ∷ []) s 0 (omega (arith, length_push sizes w, so_far.count, other)) ∙ (sym (get_or_past sizes s 0 high) ∙ (so_far.each s ∙ sym before)))
    (cases_lt s (length sizes)))
    (cases_eq s (length earlier))

pub AreSizes-more : (shapes : List Shape) (n : ℕ) (sizes : List ℕ) (shape : Shape) → n < length shapes → shape ≡ get_or shapes n shape → AreSizes shapes n sizes → AreSizes shapes (n + 1) (sizes ++ words_by (slice_index sizes) shape ∷ [])
AreSizes-more shapes n sizes shape inside is so_far = record {
  count = length_push sizes (words_by (slice_index sizes) shape) ∙ ap (λ k. k + 1) so_far.count;
  each = λ s. AreSizes-at shapes n sizes shape inside so_far s ∙ ap (λ xs. words_in xs s) (sym (reverse-more shapes n shape inside is));
}

-- the words of all shapes
pub AreSizes-all : (shapes : List Shape) (n : ℕ) (sizes : List ℕ) → length shapes ≤ n → AreSizes shapes n sizes → (s : ℕ) → slice_index sizes s ≡ words_in (reverse shapes) s
AreSizes-all shapes n sizes past so_far s = so_far.each s ∙ ap (λ xs. words_in (reverse xs) s) (take_all n shapes past)
