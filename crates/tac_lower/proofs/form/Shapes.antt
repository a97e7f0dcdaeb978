-- Interning keeps shapes of good form: each names smaller ones, and has the words of its type.
use Rattle.std.proofs.Common.{◌≡◌, ℕ, zero, suc, ◌*◌, ◌<◌, ◌≤◌, Bool, true, false, List, [], ◌∷◌, ◌++◌, map, sum, reverse, length, Some, refl, ap, sym, ◌∙◌, subst, arith, append_assoc, append-nil, eq-eqb, get_or}
use Rattle.std.specs.Prelude.{◌&&◌, nat_eq, slice_get}
use Rattle.std.proofs.lemmas.List.{reverse-append, length-append, length-reverse}
use Rattle.std.proofs.lemmas.Option.{slice_get_within}
use Rattle.c_typed.specs.declared.types.BaseType.{BaseType}
use Rattle.c_typed.specs.declared.types.ObjectType.{ObjectType}
use Rattle.c_typed.specs.Types.{same_lengths, item_words, times, words_of}
use Rattle.tac_ir.specs.declared.code.Shape.{Shape}
use Rattle.tac_ir.specs.Layout.{words_by, words_in}
use Rattle.tac_ir.specs.GoodForm.{shapes_named, count_of}
use Rattle.tac_ir.proofs.ShapeWords.{words_in-earlier}
use Rattle.tac_lower.specs.Shapes.{same_shape, Entry, entered_at, entered, Structs, base_entry, array_entry, object_entry}
use Rattle.tac_lower.proofs.form.Lists.{eq_is, get_end, get_front}
use Rattle.tac_lower.proofs.form.Each.{Each, each_by}

-- One shape is another.
and_first : (p q : Bool) → (p && q) ≡ true → p ≡ true
and_first true q h = refl
and_first false q h = h

and_second : (p q : Bool) → (p && q) ≡ true → q ≡ true
and_second true q h = h
and_second false q h = cc

lengths_is : (xs ys : List ℕ) → same_lengths xs ys ≡ true → xs ≡ ys
lengths_is [] [] h = refl
lengths_is [] (y ∷ ys) h = cc
lengths_is (x ∷ xs) [] h = cc
lengths_is (x ∷ xs) (y ∷ ys) h = (let first = eq_is x y (and_first (nat_eq x y) (same_lengths xs ys) h) in let rest = lengths_is xs ys (and_second (nat_eq x y) (same_lengths xs ys) h) in cc)

shape_is : (s t : Shape) → same_shape s t ≡ true → s ≡ t
shape_is Shape.Int Shape.Int h = refl
shape_is Shape.Ptr Shape.Ptr h = refl
shape_is (Shape.Array m i) (Shape.Array n j) h = (let first = eq_is m n (and_first (nat_eq m n) (nat_eq i j) h) in let second = eq_is i j (and_second (nat_eq m n) (nat_eq i j) h) in cc)
shape_is (Shape.Struct ps) (Shape.Struct qs) h = ap Shape.Struct (lengths_is ps qs h)
shape_is s t h = cc

-- What becomes of a shape.
pub data Outcome (all : List Shape) (s : Shape) (e : Entry) : Type 0 where
  found : e.shapes ≡ all → slice_get all e.number ≡ Some s → Outcome all s e
  added : e.shapes ≡ all ++ s ∷ [] → e.number ≡ length all → Outcome all s e

outcome_at : (k : ℕ) (all : List Shape) (s : Shape) (pre rest : List Shape) → all ≡ pre ++ rest → k ≡ length pre → Outcome all s (entered_at k all s rest)
outcome_at k all s pre [] split at = added refl (at ∙ ap length (sym (append-nil pre)) ∙ ap length (sym split))
outcome_at k all s pre (t ∷ rest) split at =
    by (same_shape s t) refl (outcome_at (suc k) all s (pre ++ t ∷ []) rest (split ∙ sym (append_assoc pre (t ∷ []) rest)) (omega (arith, length-append pre (t ∷ []))))
  where
    by : (b : Bool) → same_shape s t ≡ b → Outcome all s (entered_at (suc k) all s rest)
        → Outcome all s (elim b as (λ b. Entry) [ true ↦ record { shapes = all; number = k } | false ↦ entered_at (suc k) all s rest ])
    by true is other = found refl (ap (λ xs. slice_get xs k) split ∙ ap (λ j. slice_get (pre ++ t ∷ rest) j) at ∙ get_end pre rest t ∙ ap Some (sym (shape_is s t is)))
    by false is other = other

pub outcome : (all : List Shape) (s : Shape) → Outcome all s (entered all s)
outcome all s = outcome_at 0 all s [] all refl refl

pub outcome_there : (all : List Shape) (s : Shape) (e : Entry) → Outcome all s e → slice_get e.shapes e.number ≡ Some s
outcome_there all s e (found same there) = ap (λ xs. slice_get xs e.number) same ∙ there
outcome_there all s e (added more at) = ap (λ xs. slice_get xs e.number) more ∙ ap (λ k. slice_get (all ++ s ∷ []) k) at ∙ get_end all [] s

-- The words of shapes, by the words of those that they name.
words_last : (shape : Shape) (earlier : List Shape) (s : ℕ) → s ≡ length earlier → words_in (shape ∷ earlier) s ≡ words_by (words_in earlier) shape
unfolding words_in
words_last shape earlier s e = rw (eq-eqb s (length earlier) e, words_in) refl

abbrev pub words_at : List Shape → ℕ → ℕ
words_at shapes s = words_in (reverse shapes) s

pub words_more : (shapes more : List Shape) (s : ℕ) → s < length shapes → words_at (shapes ++ more) s ≡ words_at shapes s
words_more shapes more s h =
    ap (λ xs. words_in xs s) (reverse-append shapes more) ∙ words_in-earlier (reverse more) (reverse shapes) s (omega (arith, length-reverse shapes))

words_new : (shapes : List Shape) (shape : Shape) → words_at (shapes ++ shape ∷ []) (length shapes) ≡ words_by (words_at shapes) shape
words_new shapes shape = ap (λ xs. words_in xs (length shapes)) (reverse-append shapes (shape ∷ [])) ∙ words_last shape (reverse shapes) (length shapes) (sym (length-reverse shapes))

map_agree : (f g : ℕ → ℕ) (n : ℕ) → ((s : ℕ) → s < n → f s ≡ g s) → (xs : List ℕ) → Each (λ x. x < n) xs → map f xs ≡ map g xs
map_agree f g n same [] below = refl
map_agree f g n same (x ∷ xs) below = cc (same x below.0, map_agree f g n same xs below.1)

words_agree : (f g : ℕ → ℕ) (n : ℕ) → ((s : ℕ) → s < n → f s ≡ g s) → (shape : Shape) → Each (λ x. x < n) (shapes_named shape) → words_by f shape ≡ words_by g shape
words_agree f g n same Shape.Int below = refl
words_agree f g n same Shape.Ptr below = refl
words_agree f g n same (Shape.Array len item) below = ap (λ k. len * k) (same item below.0)
words_agree f g n same (Shape.Struct parts) below = ap sum (map_agree f g n same parts below)

-- Shapes of good form.
pub record IsFair (shapes : List Shape) (s : ℕ) (shape : Shape) : Type 0 where
  pub earlier : Each (λ named. named < s) (shapes_named shape)
  pub some : 1 ≤ count_of shape
  pub words : words_at shapes s ≤ 24576
  pub by_parts : words_at shapes s ≡ words_by (words_at shapes) shape

pub record Fair (shapes : List Shape) : Type 0 where
  pub each : (s : ℕ) (shape : Shape) → slice_get shapes s ≡ Some shape → IsFair shapes s shape
  pub first : slice_get shapes 0 ≡ Some Shape.Int
  pub second : slice_get shapes 1 ≡ Some Shape.Ptr

-- a member of a list and one more
data Which {A : Type 0} (xs : List A) (y : A) (i : ℕ) (x : A) : Type 0 where
  old : slice_get xs i ≡ Some x → Which xs y i x
  last : i ≡ length xs → x ≡ y → Which xs y i x

which : {A : Type 0} (xs : List A) (y : A) (i : ℕ) (x : A) → slice_get (xs ++ y ∷ []) i ≡ Some x → Which xs y i x
which [] y zero x h = last refl (let e : x ≡ y = cc in e)
which [] y (suc i) x h = cc
which (z ∷ xs) y zero x h = old h
which (z ∷ xs) y (suc i) x h = up (which xs y i x h)
  where
    up : Which xs y i x → Which (z ∷ xs) y (suc i) x
    up (old there) = old there
    up (last at is) = last (ap suc at) is

fair_more : (shapes : List Shape) (shape : Shape) → Fair shapes → Each (λ named. named < length shapes) (shapes_named shape) → 1 ≤ count_of shape → words_by (words_at shapes) shape ≤ 24576 → Fair (shapes ++ shape ∷ [])
fair_more shapes shape fair named some words = record {
  each = λ s x there. by s x (which shapes shape s x there);
  first = get_front shapes (shape ∷ []) 0 Shape.Int fair.first;
  second = get_front shapes (shape ∷ []) 1 Shape.Ptr fair.second;
}
  where
    agree : (x : ℕ) → x < length shapes → words_at shapes x ≡ words_at (shapes ++ shape ∷ []) x
    agree x h = sym (words_more shapes (shape ∷ []) x h)

    by : (s : ℕ) (x : Shape) → Which shapes shape s x → IsFair (shapes ++ shape ∷ []) s x
    by s x (old there) =
        let is = fair.each s x there in
        let within = slice_get_within shapes s x there in
        let same = words_more shapes (shape ∷ []) s within in
        record {
          earlier = is.earlier;
          some = is.some;
          words = (let few = is.words in omega arith);
          by_parts = same ∙ is.by_parts
              ∙ words_agree (words_at shapes) (words_at (shapes ++ shape ∷ [])) (length shapes) agree x (each_by (λ k. k < s) (λ k. k < length shapes) (shapes_named x) (λ k h. omega arith) is.earlier);
        }
    by s x (last at is) =
        let new : words_at (shapes ++ shape ∷ []) s ≡ words_by (words_at shapes) shape = ap (words_at (shapes ++ shape ∷ [])) at ∙ words_new shapes shape in
        record {
          earlier = subst (λ y. Each (λ k. k < s) (shapes_named y)) (sym is) (subst (λ j. Each (λ k. k < j) (shapes_named shape)) (sym at) named);
          some = subst (λ y. 1 ≤ count_of y) (sym is) some;
          words = omega arith;
          by_parts = subst (λ y. words_at (shapes ++ shape ∷ []) s ≡ words_by (words_at (shapes ++ shape ∷ [])) y) (sym is)
              (new ∙ words_agree (words_at shapes) (words_at (shapes ++ shape ∷ [])) (length shapes) agree shape named);
        }

-- Entering a type of so many words.
pub record Enters (words : ℕ) (e : Entry) : Type 0 where
  pub fair : Fair e.shapes
  pub below : e.number < length e.shapes
  pub words_are : words_at e.shapes e.number ≡ words

pub enters_shape : (shapes : List Shape) (shape : Shape) (words : ℕ) → Fair shapes → Each (λ named. named < length shapes) (shapes_named shape) → 1 ≤ count_of shape
    → words_by (words_at shapes) shape ≡ words → words ≤ 24576 → Enters words (entered shapes shape)
enters_shape shapes shape words fair named some is few = by (entered shapes shape) (outcome shapes shape)
  where
    by : (e : Entry) → Outcome shapes shape e → Enters words e
    by e (found same there) =
        subst (λ xs. Enters words (record { shapes = xs; number = e.number })) (sym same)
        (record { fair = fair; below = slice_get_within shapes e.number shape there; words_are = (fair.each e.number shape there).by_parts ∙ is })
    by e (added more at) =
        subst (λ xs. Enters words (record { shapes = xs; number = e.number })) (sym more)
        (subst (λ k. Enters words (record { shapes = shapes ++ shape ∷ []; number = k })) (sym at)
        (record {
          fair = fair_more shapes shape fair named some (omega arith);
          below = omega (arith, length-append shapes (shape ∷ []));
          words_are = words_new shapes shape ∙ is;
        }))

-- Types.
abbrev pub Entering : ℕ → (List Shape → Entry) → Type 0
Entering words f = (shapes : List Shape) → Fair shapes → Enters words (f shapes)

times_some : (n x : ℕ) → 0 < n → x ≤ n * x
times_some n x h = grind arith

pub enters_arrays : (ns : List ℕ) (words : ℕ) (e : Entry) → Each (λ n. 0 < n) ns → times ns words ≤ 24576 → Enters words e → Enters (times ns words) (array_entry ns e)
enters_arrays [] words e some few is = is
enters_arrays (n ∷ ns) words e some few is =
    let less : times ns words ≤ n * times ns words = times_some n (times ns words) some.0 in
    let item = enters_arrays ns words e some.1 (omega arith) is in
    let inner = array_entry ns e in
    let below = item.below in
    enters_shape inner.shapes (Shape.Array n inner.number) (n * times ns words) item.fair (below, tt) some.0 (ap (λ k. n * k) item.words_are) few

enters_int : Entering 1 (λ shapes. record { shapes = shapes; number = 0 })
enters_int shapes fair = record { fair = fair; below = slice_get_within shapes 0 Shape.Int fair.first; words_are = (fair.each 0 Shape.Int fair.first).by_parts }

enters_ptr : Entering 1 (λ shapes. record { shapes = shapes; number = 1 })
enters_ptr shapes fair = record { fair = fair; below = slice_get_within shapes 1 Shape.Ptr fair.second; words_are = (fair.each 1 Shape.Ptr fair.second).by_parts }

-- structs below a number
abbrev pub EnterStructs : List ℕ → ℕ → Structs → Type 0
EnterStructs sizes n st = (k : ℕ) → k < n → Entering (get_or sizes k 0) (st k)

-- a base whose struct is below that number
abbrev pub IsBelow : ℕ → BaseType → ℕ → Type 0
IsBelow n (BaseType.Struct k) zero = k < n
IsBelow n BaseType.Unknown zero = ⊥
IsBelow n base stars = Unit {0}

enters_base : (sizes : List ℕ) (n : ℕ) (st : Structs) → EnterStructs sizes n st → (base : BaseType) (stars : ℕ) → IsBelow n base stars → Entering (item_words sizes base stars) (base_entry st base stars)
enters_base sizes n st all base (suc stars) is = enters_ptr
enters_base sizes n st all BaseType.Int zero is = enters_int
enters_base sizes n st all (BaseType.Struct k) zero is = all k is
enters_base sizes n st all BaseType.Unknown zero is = absurd is

pub enters_object : (sizes : List ℕ) (n : ℕ) (st : Structs) → EnterStructs sizes n st → (t : ObjectType) → IsBelow n t.base t.stars → Each (λ n. 0 < n) t.lengths → words_of sizes t ≤ 24576
    → Entering (words_of sizes t) (object_entry st t)
enters_object sizes n st all t is some few shapes fair =
    enters_arrays t.lengths (item_words sizes t.base t.stars) (base_entry st t.base t.stars shapes) some few (enters_base sizes n st all t.base t.stars is shapes fair)
