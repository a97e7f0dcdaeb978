-- Code with deep shapes has a good form.
use Rattle.std.proofs.Common.{◌≡◌, ℕ, zero, suc, ◌+◌, ◌≤◌, ◌<◌, Bool, true, false, List, [], ◌∷◌, ◌++◌, length, reverse, refl, sym, ap, ◌∙◌, subst, arith, lit≤}
use Rattle.std.specs.Prelude.{nat_eq, nat_lt, ◌&&◌, Some, slice_get}
use Rattle.std.proofs.lemmas.Bool.{ne_eqb, le-leb, lt-ltb}
use Rattle.std.proofs.lemmas.List.{reverse-append}
use Rattle.std.proofs.lemmas.List.Sums.{sum-map, sum_by-cons}
use Rattle.tac_ir.specs.declared.code.Code.{Code}
use Rattle.tac_ir.specs.declared.code.Shape.{Shape}
use Rattle.tac_ir.specs.Layout.{words_by, words_in, shape_words, parts_of}
use Rattle.tac_ir.specs.Counts.{nodes_in}
use Rattle.tac_ir.specs.GoodForm.{GoodForm}
use Rattle.tac_ir.proofs.FormTest.{each_from, shape_test, form_good}
use Rattle.tac_ir.proofs.ShapeWords.{shape_words-none}
use Rattle.test_threads.specs.declared.deep.Nesting.{Nesting}
use Rattle.test_threads.specs.Deep.{level, levels, nested, deep_shapes, deep_code}

-- The last level first.

more_levels : (nesting : Nesting) (at n : ℕ) → levels nesting at (suc n) ≡ levels nesting at n ++ level nesting (at + n) ∷ []
more_levels nesting at zero = let same : at ≡ at + 0 = omega arith in ap (λ k. level nesting k ∷ []) same
more_levels nesting at (suc n) =
    let same : suc at + n ≡ at + suc n = omega arith in
    ap (λ xs. level nesting at ∷ xs) (more_levels nesting (suc at) n) ∙ ap (λ k. level nesting at ∷ (levels nesting (suc at) n ++ level nesting k ∷ [])) same

-- one level more
pub deeper : (nesting : Nesting) (n : ℕ) → nested nesting (n + 1) ≡ nested nesting n ++ level nesting (n + 1) ∷ []
deeper nesting n =
    let one : n + 1 ≡ suc n = omega arith in
    let at : 1 + n ≡ n + 1 = omega arith in
    ap (nested nesting) one ∙ ap (λ xs. Shape.Int ∷ Shape.Ptr ∷ xs) (more_levels nesting 1 n) ∙ ap (λ k. nested nesting n ++ level nesting k ∷ []) at

abbrev chain : Nesting → ℕ → List Shape
chain nesting zero = Shape.Ptr ∷ Shape.Int ∷ []
chain nesting (suc n) = level nesting (n + 1) ∷ chain nesting n

reversed : (nesting : Nesting) (n : ℕ) → reverse (nested nesting n) ≡ chain nesting n
reversed nesting zero = refl
reversed nesting (suc n) =
    let one : suc n ≡ n + 1 = omega arith in
    ap (λ k. reverse (nested nesting k)) one ∙ ap reverse (deeper nesting n) ∙ reverse-append (nested nesting n) (level nesting (n + 1) ∷ []) ∙ ap (λ xs. level nesting (n + 1) ∷ xs) (reversed nesting n)

pair_first : (nesting : Nesting) (n : ℕ) → reverse (deep_shapes nesting n) ≡ level Nesting.Pair (suc n) ∷ chain nesting n
pair_first nesting n = reverse-append (nested nesting n) (level Nesting.Pair (suc n) ∷ []) ∙ ap (λ xs. level Nesting.Pair (suc n) ∷ xs) (reversed nesting n)

chain_length : (nesting : Nesting) (n : ℕ) → length (chain nesting n) ≡ n + 2
chain_length nesting zero = refl
chain_length nesting (suc n) = omega (arith, chain_length nesting n)

-- The words of each shape.

first_words : (nesting : Nesting) (n : ℕ) → words_in (chain nesting n) 0 ≡ 1
unfolding words_in
first_words nesting zero = refl
first_words nesting (suc n) =
    ap (λ b. elim b [ true ↦ words_by (words_in (chain nesting n)) (level nesting (n + 1)) | false ↦ words_in (chain nesting n) 0 ]) (ne_eqb 0 (length (chain nesting n)) (λ e. omega (arith, e, chain_length nesting n)))
    ∙ first_words nesting n

level_words : (nesting : Nesting) (inner most : ℕ) (words : ℕ → ℕ) → words inner ≤ most → words 0 ≡ 1 → words_by words (level nesting inner) ≤ most + 1
level_words Nesting.Array inner most words low first = omega (arith, low)
level_words Nesting.Struct inner most words low first = omega (arith, low, sum-map words (inner ∷ []), sum_by-cons words inner [])
level_words Nesting.Pair inner most words low first =
    omega (arith, low, first, sum-map words (inner ∷ 0 ∷ []), sum_by-cons words inner (0 ∷ []), sum_by-cons words 0 [])

one_more : (nesting : Nesting) (inner most s : ℕ) (xs : List Shape) → ((k : ℕ) → words_in xs k ≤ most) → words_in xs 0 ≡ 1 → words_in (level nesting inner ∷ xs) s ≤ most + 1
unfolding words_in
one_more nesting inner most s xs low first = by (nat_eq s (length xs)) (low s)
  where
    by : (b : Bool) → words_in xs s ≤ most → elim b [ true ↦ words_by (words_in xs) (level nesting inner) | false ↦ words_in xs s ] ≤ most + 1
    by true other = level_words nesting inner most (words_in xs) (low inner) first
    by false other = omega (arith, other)

few_words : (nesting : Nesting) (n s : ℕ) → words_in (chain nesting n) s ≤ n + 1
unfolding words_in
few_words nesting zero zero = lit≤ tt
few_words nesting zero (suc zero) = lit≤ tt
few_words nesting zero (suc (suc s)) =
    let none = shape_words-none (chain nesting 0) (suc (suc s)) (omega arith) in omega (arith, none)
few_words nesting (suc n) s = omega (arith, one_more nesting (n + 1) (n + 1) s (chain nesting n) (few_words nesting n) (first_words nesting n))

deep_words : (nesting : Nesting) (n s : ℕ) → shape_words (deep_code nesting n) s ≤ n + 2
deep_words nesting n s =
    subst (λ xs. words_in xs s ≤ n + 2) (sym (pair_first nesting n))
    (omega (arith, one_more Nesting.Pair (suc n) (n + 1) s (chain nesting n) (few_words nesting n) (first_words nesting n)))

-- The form.

both : (a b : Bool) → a ≡ true → b ≡ true → (a && b) ≡ true
both true b p q = q
both false b p q = p

level_good : (c : Code) (nesting : Nesting) (at : ℕ) → shape_words c (suc at) ≤ 24576 → shape_test c (suc at) (level nesting at) ≡ true
level_good c Nesting.Array at few = both _ _ (both _ true (lt-ltb at (suc at) (omega arith)) refl) (le-leb (shape_words c (suc at)) 24576 few)
level_good c Nesting.Struct at few = both _ _ (both _ true (lt-ltb at (suc at) (omega arith)) refl) (le-leb (shape_words c (suc at)) 24576 few)
level_good c Nesting.Pair at few = both _ _ (both _ _ (lt-ltb at (suc at) (omega arith)) (both _ true (lt-ltb 0 (suc at) (omega arith)) refl)) (le-leb (shape_words c (suc at)) 24576 few)

levels_good : (c : Code) (nesting : Nesting) (at n last : ℕ) → last ≡ at + n → ((s : ℕ) → shape_words c s ≤ 24576)
    → each_from (shape_test c) (suc at) (levels nesting at n ++ level Nesting.Pair last ∷ []) ≡ true
levels_good c nesting at zero last is few =
    let same : at ≡ last = omega (arith, is) in
    subst (λ k. each_from (shape_test c) (suc at) (level Nesting.Pair k ∷ []) ≡ true) same (both _ true (level_good c Nesting.Pair at (few (suc at))) refl)
levels_good c nesting at (suc n) last is few =
    both _ _ (level_good c nesting at (few (suc at))) (levels_good c nesting (suc at) n last (omega (arith, is)) few)

levels_length : (nesting : Nesting) (at n : ℕ) → length (levels nesting at n) ≡ n
levels_length nesting at zero = refl
levels_length nesting at (suc n) = ap suc (levels_length nesting (suc at) n)

deep_length : (nesting : Nesting) (at n last : ℕ) → length (levels nesting at n ++ level Nesting.Pair last ∷ []) ≡ suc n
deep_length nesting at zero last = refl
deep_length nesting at (suc n) last = ap suc (deep_length nesting (suc at) n last)

pub deep_good : (nesting : Nesting) (n : ℕ) → n ≤ 24000 → GoodForm (deep_code nesting n)
unfolding words_in nodes_in
deep_good nesting n low =
    let c = deep_code nesting n in
    let few : (s : ℕ) → shape_words c s ≤ 24576 = λ s. omega (arith, deep_words nesting n s, low) in
    let first : shape_test c 0 Shape.Int ≡ true = le-leb (shape_words c 0) 24576 (few 0) in
    let second : shape_test c 1 Shape.Ptr ≡ true = le-leb (shape_words c 1) 24576 (few 1) in
    let count : nat_lt (length (deep_shapes nesting n)) 2147483648 ≡ true = lt-ltb (length (deep_shapes nesting n)) 2147483648 (omega (arith, low, deep_length nesting 1 n (suc n))) in
    let each = levels_good c nesting 1 n (suc n) (omega arith) few in
    form_good c (both _ _ (both _ _ (both _ _ first (both _ _ second each)) count) refl)

-- The last shape.

last_level : (nesting : Nesting) (at n last : ℕ) → slice_get (levels nesting at n ++ level Nesting.Pair last ∷ []) n ≡ Some (level Nesting.Pair last)
last_level nesting at zero last = refl
last_level nesting at (suc n) last = last_level nesting (suc at) n last

-- it has two parts
pub pair_last : (nesting : Nesting) (n : ℕ) → 1 < length (parts_of (deep_code nesting n) (n + 2))
pair_last nesting n =
    let at : suc (suc n) ≡ n + 2 = omega arith in
    let here : slice_get (deep_shapes nesting n) (n + 2) ≡ Some (level Nesting.Pair (suc n)) =
    subst (λ k. slice_get (deep_shapes nesting n) k ≡ Some (level Nesting.Pair (suc n))) at (last_level nesting 1 n (suc n)) in
    let parts : parts_of (deep_code nesting n) (n + 2) ≡ suc n ∷ 0 ∷ [] = ap (λ o. elim o [ Some (Shape.Struct parts) ↦ parts | _ ↦ [] ]) here in
    omega (arith, ap length parts)
