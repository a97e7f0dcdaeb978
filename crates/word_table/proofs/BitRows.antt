-- A row that gets a bit for each member of a set has the classes of its members.
use Rattle.std.proofs.Common.{◌≡◌, ℕ, zero, suc, ◌*◌, ◌/◌, ◌%◌, ◌^◌, ◌<◌, Bool, true, false, ◌||◌, Option, Some, None, List, [], ◌∷◌, ◌++◌, length, get_or, replicate, refl, sym, ap, ◌∙◌, arith, inl, inr, ◌⊎◌, eq-eqb, w64}
use Rattle.std.specs.Prelude.{◌==◌, nat_eq, slice_get, slice_index, bit_or}
use Rattle.std.specs.Int.{bit_at}
use Rattle.std.proofs.lemmas.Bool.{cases_eq, ne_eqb}
use Rattle.std.proofs.lemmas.List.{get_or-set_same, get_or-set_other}
use Rattle.std.proofs.lemmas.Nat.Bits.{bit_at-zero, bit_at_set_same, bit_at_set_other}
use Rattle.std.proofs.lemmas.Option.{slice_get_within, slice_get-get_or}
use Rattle.tac_ir.specs.Module.{Module}
use Rattle.tac_ir.specs.Answers.{class_of}
use Rattle.word_table.specs.declared.bits.Bits.{Bits}
use Rattle.word_table.specs.tools.Classes.{is_class_in}
use Rattle.word_table.specs.tools.BitRows.{has_bit, with_bit, row_has, IsRow, AreRows, AreRowsOf}

-- Bits.

zeros : (n i : ℕ) → slice_index (replicate n 0) i ≡ 0
zeros zero i = refl
zeros (suc n) zero = refl
zeros (suc n) (suc i) = zeros n i

pub no_bit : (words : List ℕ) (n k : ℕ) → words ≡ replicate n 0 → has_bit words k ≡ false
no_bit words n k is =
    ap (λ l. bit_at (slice_index l (k / 64)) (k % 64) == 1) is
    ∙ ap (λ w. bit_at w (k % 64) == 1) (zeros n (k / 64))
    ∙ ap (λ b. b == 1) (bit_at-zero (k % 64))

-- the bit that was set, and each other
pub bit_more : (words : List ℕ) (k j : ℕ) → k / 64 < length words → has_bit (with_bit words k) j ≡ (nat_eq k j || has_bit words j)
bit_more words k j within = go (cases_eq j k)
  where
    old : ℕ
    old = slice_index words (k / 64)

    new : ℕ
    new = bit_or (slice_index words (k / 64)) (1 * 2 ^ (k % 64) % 2 ^ 64)

    here : slice_index (with_bit words k) (k / 64) ≡ new
    here = get_or-set_same words (k / 64) new 0 within

    same : has_bit (with_bit words k) k ≡ true
    same = ap (λ w. bit_at w (k % 64) == 1) here ∙ ap (λ b. b == 1) (bit_at_set_same w64 old (k % 64) (omega arith))

    other_bit : j / 64 ≡ k / 64 → (j % 64 ≡ k % 64 → ⊥) → has_bit (with_bit words k) j ≡ has_bit words j
    other_bit word bit =
        ap (λ i. bit_at (slice_index (with_bit words k) i) (j % 64) == 1) word
        ∙ ap (λ w. bit_at w (j % 64) == 1) here
        ∙ ap (λ b. b == 1) (bit_at_set_other w64 old (k % 64) (omega arith) (j % 64) bit)
        ∙ ap (λ i. bit_at (slice_index words i) (j % 64) == 1) (sym word)

    other_word : (j / 64 ≡ k / 64 → ⊥) → has_bit (with_bit words k) j ≡ has_bit words j
    other_word apart = ap (λ w. bit_at w (j % 64) == 1) (get_or-set_other words (k / 64) (j / 64) new 0 apart)

    go : (j ≡ k) ⊎ (j ≡ k → ⊥) → has_bit (with_bit words k) j ≡ (nat_eq k j || has_bit words j)
    go (inl is) =
        ap (has_bit (with_bit words k)) is ∙ same ∙ sym (ap (λ t. t || has_bit words j) (eq-eqb k j (sym is)))
    go (inr apart) =
        elim (cases_eq (j / 64) (k / 64)) [
          | inl word ↦ other_bit word (λ bit. apart (omega (arith, word, bit)))
          | inr word ↦ other_word word
        ]
        ∙ sym (ap (λ t. t || has_bit words j) (ne_eqb k j (λ is. apart (sym is))))

-- One row.

-- what a row has together with the members that are left
pub member_more : (m : Module) (words : List ℕ) (d c : ℕ) (rest : List ℕ) → class_of m d / 64 < length words
    → (has_bit (with_bit words (class_of m d)) c || is_class_in m rest c) ≡ (has_bit words c || is_class_in m (d ∷ rest) c)
member_more m words d c rest within =
    ap (λ t. t || is_class_in m rest c) (bit_more words (class_of m d) c within)
    ∙ turned (nat_eq (class_of m d) c) (has_bit words c) (is_class_in m rest c)
  where
    turned : (p q r : Bool) → ((p || q) || r) ≡ (q || (p || r))
    turned true true r = refl
    turned true false r = refl
    turned false q r = refl

-- Rows.

pub rows_more : (m : Module) (sets : List (List ℕ)) (rows : List Bits) (set : List ℕ) (row : Bits) → AreRows m sets rows → IsRow m set row
    → AreRows m (sets ++ set ∷ []) (rows ++ row ∷ [])
rows_more m [] [] set row are is = (is, tt)
rows_more m [] (other ∷ rows) set row are is = absurd are
rows_more m (one ∷ sets) [] set row are is = absurd are
rows_more m (one ∷ sets) (other ∷ rows) set row are is = (are.0, rows_more m sets rows set row are.1 is)

abbrev set_in : Option (List ℕ) → List ℕ
set_in o = elim o [ None ↦ [] | Some set ↦ set ]

row_at : (m : Module) (sets : List (List ℕ)) (rows : List Bits) (r c : ℕ) → AreRows m sets rows
    → row_has rows (suc r) c ≡ is_class_in m (set_in (slice_get sets r)) c
row_at m [] [] r c are = refl
row_at m [] (row ∷ rows) r c are = absurd are
row_at m (set ∷ sets) [] r c are = absurd are
row_at m (set ∷ sets) (row ∷ rows) zero c are = are.0 c
row_at m (set ∷ sets) (row ∷ rows) (suc r) c are = row_at m sets rows r c are.1

pub are_rows_of : (m : Module) (rows : List Bits) → AreRows m m.sets rows → AreRowsOf m rows
are_rows_of m rows are zero c = refl
are_rows_of m rows are (suc r) c = row_at m m.sets rows r c are

-- a class fits into a row where all classes of the module do
pub fits_row : (m : Module) (width : ℕ) → ((k : ℕ) → slice_index m.classes k / 64 < width) → (d : ℕ) → class_of m d / 64 < width
fits_row m width fit zero = (let first = fit 0 in omega (arith, first))
fits_row m width fit (suc d) = by (slice_get m.classes d) refl
  where
    by : (o : Option ℕ) → slice_get m.classes d ≡ o → class_of m (suc d) / 64 < width
    by None is = (let first = fit 0 in let none : class_of m (suc d) ≡ 0 = ap (λ x. elim x as (λ y. ℕ) [ None ↦ 0 | Some class ↦ class ]) is in omega (arith, first, none))
    by (Some k) is =
        let within : d < length m.classes = slice_get_within m.classes d k is in
        let at : Some (get_or m.classes d 0) ≡ Some k = sym (slice_get-get_or m.classes d 0 within) ∙ is in
        let same : get_or m.classes d 0 ≡ k = cc in
        let class : class_of m (suc d) ≡ k = ap (λ x. elim x as (λ y. ℕ) [ None ↦ 0 | Some class ↦ class ]) is in
        (let here = fit d in omega (arith, here, same, class))
