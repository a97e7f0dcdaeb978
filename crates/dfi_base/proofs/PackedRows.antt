-- Bits in words of 64 are the row that they are seen as.
use Rattle.std.proofs.Common.{◌≡◌, ℕ, zero, suc, ◌+◌, ◌-◌, ◌*◌, ◌/◌, ◌%◌, ◌^◌, ◌<◌, ◌≤◌, ◌==◌, Bool, true, false, ◌&&◌, ◌||◌, List, [], ◌∷◌, length, length-set, set, replicate, Option, Some, None, le-leb, leb-true, refl, sym, ap, ap₂, ◌∙◌, arith, inl, inr, ◌⊎◌, ◌↔◌, true≢false, w64, max, min, subst}
use Rattle.std.specs.Prelude.{slice_index, bit_or, bit_and, nat_le}
use Rattle.std.specs.Int.{bit_at, trailing_zeros}
use Rattle.std.proofs.lemmas.Bool.{cases_eq}
use Rattle.std.proofs.lemmas.List.{get_or-set_same, get_or-set_other, length-replicate}
use Rattle.std.proofs.lemmas.List.FromFn.{length-map-range_with_len, get_or-map-range_with_len}
use Rattle.std.proofs.lemmas.Nat.Bits.{bit_at-zero, bit_at-lt, bit_at_or, bit_at_and, same_from_bits_below, bit_at-trailing_zeros, ones_shl, bit_at_mask_inside, bit_at_mask_below}
use Rattle.std.proofs.lemmas.Nat.{or_lt, and_le_l}
use Rattle.dfi_base.specs.Bits.{has, by_places, joined, met, IsWithin, IsNext}
use Rattle.dfi_base.specs.tools.Packed.{bit_of, has_bit, bits_of, IsPacked}
use Rattle.dfi_base.proofs.RowLaws.{same_rows, not_had, no_bits, long_by_places, has_by_places, has_put_same, has_put_other, and_parts}

cases_lt : (k n : ℕ) → (k < n) ⊎ (n ≤ k)
cases_lt k zero = inr (omega arith)
cases_lt zero (suc n) = inl (omega arith)
cases_lt (suc k) (suc n) = elim (cases_lt k n) [ inl before ↦ inl (omega (arith, before)) | inr behind ↦ inr (omega (arith, behind)) ]

pub length_bits : (len : ℕ) (words : List ℕ) → length (bits_of len words) ≡ len
unfolding bits_of
length_bits len words = length-map-range_with_len (has_bit words) 0 len

-- the row has what the words have
pub has_bits : (len : ℕ) (words : List ℕ) → IsPacked len words → (k : ℕ) → has (bits_of len words) k ≡ has_bit words k
unfolding bits_of
has_bits len words packed k = by (cases_lt k len)
  where
    by : (k < len) ⊎ (len ≤ k) → has (bits_of len words) k ≡ has_bit words k
    by (inl within) = get_or-map-range_with_len (has_bit words) 0 len k k false within (omega arith)
    by (inr behind) = not_had (bits_of len words) k (omega (arith, behind, length_bits len words)) ∙ sym (packed.clear k behind)

pub same_length : (len other : ℕ) (words others : List ℕ) → IsPacked len words → IsPacked other others → length (bits_of len words) ≡ length (bits_of other others)
    → (other ≡ len) × (length words ≡ length others)
same_length len other words others one two long =
    let is : other ≡ len = sym (length_bits other others) ∙ sym long ∙ length_bits len words in
    (is, one.enough ∙ ap (λ n. (n + 63) / 64) (sym is) ∙ sym two.enough)

-- Bits of words.

max_test : (p q : ℕ) → p < 2 → q < 2 → (max p q == 1) ≡ ((p == 1) || (q == 1))
max_test zero zero one two = refl
max_test zero (suc zero) one two = refl
max_test zero (suc (suc q)) one two = absurd (omega (arith, two))
max_test (suc zero) zero one two = refl
max_test (suc zero) (suc zero) one two = refl
max_test (suc zero) (suc (suc q)) one two = absurd (omega (arith, two))
max_test (suc (suc p)) q one two = absurd (omega (arith, one))

min_test : (p q : ℕ) → p < 2 → q < 2 → (min p q == 1) ≡ ((p == 1) && (q == 1))
min_test zero zero one two = refl
min_test zero (suc zero) one two = refl
min_test zero (suc (suc q)) one two = absurd (omega (arith, two))
min_test (suc zero) zero one two = refl
min_test (suc zero) (suc zero) one two = refl
min_test (suc zero) (suc (suc q)) one two = absurd (omega (arith, two))
min_test (suc (suc p)) q one two = absurd (omega (arith, one))

pub bit_of_or : (a b i : ℕ) → bit_of (bit_or a b) i ≡ (bit_of a i || bit_of b i)
bit_of_or a b i = ap (λ n. n == 1) (bit_at_or a b i) ∙ max_test (bit_at a i) (bit_at b i) (bit_at-lt a i) (bit_at-lt b i)

pub bit_of_and : (a b i : ℕ) → bit_of (bit_and a b) i ≡ (bit_of a i && bit_of b i)
bit_of_and a b i = ap (λ n. n == 1) (bit_at_and a b i) ∙ min_test (bit_at a i) (bit_at b i) (bit_at-lt a i) (bit_at-lt b i)

-- Words that are seen as a row.

pub record IsRow (len : ℕ) (words : List ℕ) (row : List Bool) : Type 0 where
  pub packed : IsPacked len words
  pub seen : bits_of len words ≡ row

pub row_of : (len : ℕ) (words slice : List ℕ) (row : List Bool) → slice ≡ words → IsPacked len words → bits_of len words ≡ row → IsRow len slice row
row_of len words slice row is packed seen = record { packed = subst (IsPacked len) (sym is) packed; seen = ap (bits_of len) is ∙ seen }

pub moved : (len : ℕ) (words new : List ℕ) (row : List Bool) → new ≡ words → IsRow len words row → IsRow len new row
moved len words new row is seen = row_of len words new row is seen.packed seen.seen

pub row_long : (len : ℕ) (words : List ℕ) (row : List Bool) → IsRow len words row → length row ≡ len
row_long len words row is = sym (ap length is.seen) ∙ length_bits len words

pub row_has : (len : ℕ) (words : List ℕ) (row : List Bool) → IsRow len words row → (k : ℕ) → has row k ≡ has_bit words k
row_has len words row is k = sym (ap (λ r. has r k) is.seen) ∙ has_bits len words is.packed k

pub row_from : (len : ℕ) (words : List ℕ) (row : List Bool) → IsPacked len words → length row ≡ len → ((k : ℕ) → has_bit words k ≡ has row k) → IsRow len words row
row_from len words row packed long same = record {
  packed = packed;
  seen = same_rows (bits_of len words) row (length_bits len words ∙ sym long) (λ k. has_bits len words packed k ∙ same k);
}

pub words_long : (len wide : ℕ) (words others : List ℕ) (row other : List Bool) → IsRow len words row → IsRow wide others other → length row ≡ length other
    → length words ≡ length others
words_long len wide words others row other one two long =
    one.packed.enough ∙ ap (λ n. (n + 63) / 64) (sym (row_long len words row one) ∙ long ∙ row_long wide others other two) ∙ sym two.packed.enough

-- Words whose bits go place by place.

abbrev pub BothBits : (Bool → Bool → Bool) → List ℕ → List ℕ → List ℕ → Type 0
BothBits f new words others = (k : ℕ) → has_bit new k ≡ f (has_bit words k) (has_bit others k)

pub or_bits : (new words others : List ℕ) → ((k : ℕ) → slice_index new k ≡ bit_or (slice_index words k) (slice_index others k))
    → BothBits (λ x y. x || y) new words others
or_bits new words others each k =
    ap (λ w. bit_of w (k % 64)) (each (k / 64)) ∙ bit_of_or (slice_index words (k / 64)) (slice_index others (k / 64)) (k % 64)

pub and_bits : (new words others : List ℕ) → ((k : ℕ) → slice_index new k ≡ bit_and (slice_index words k) (slice_index others k))
    → BothBits (λ x y. x && y) new words others
and_bits new words others each k =
    ap (λ w. bit_of w (k % 64)) (each (k / 64)) ∙ bit_of_and (slice_index words (k / 64)) (slice_index others (k / 64)) (k % 64)

-- each operation on two rows, by its bits
pub by_bits : (f : Bool → Bool → Bool) → f false false ≡ false → (len wide : ℕ) (new words others : List ℕ) (row other : List Bool) → IsRow len words row
    → IsRow wide others other → length row ≡ length other → length new ≡ length words → BothBits f new words others → IsRow len new (by_places f row other)
by_bits f none len wide new words others row other one two long same bits =
    let here = row_long len words row one in
    let there = row_long wide others other two in
    let width : wide ≡ len = sym there ∙ sym long ∙ here in
    let packed : IsPacked len new = record {
      fits = one.packed.fits;
      enough = same ∙ one.packed.enough;
      clear = λ k behind. bits k ∙ ap₂ f (one.packed.clear k behind) (two.packed.clear k (omega (arith, behind, width))) ∙ none;
    } in
    row_from len new (by_places f row other) packed (long_by_places f row other long ∙ here) (λ k.
    bits k ∙ ap₂ f (sym (row_has len words row one k)) (sym (row_has wide others other two k)) ∙ sym (has_by_places f none row other k long))

-- Words with the same bits are the same.

abbrev pub AreWords : List ℕ → Type 0
AreWords words = (k : ℕ) → slice_index words k < 2 ^ 64

same_bit : (p q : ℕ) → p < 2 → q < 2 → (p == 1) ≡ (q == 1) → p ≡ q
same_bit zero zero one two same = refl
same_bit zero (suc zero) one two same = absurd (true≢false (sym same))
same_bit zero (suc (suc q)) one two same = absurd (omega (arith, two))
same_bit (suc zero) zero one two same = absurd (true≢false same)
same_bit (suc zero) (suc zero) one two same = refl
same_bit (suc zero) (suc (suc q)) one two same = absurd (omega (arith, two))
same_bit (suc (suc p)) q one two same = absurd (omega (arith, one))

pub same_word : (words others : List ℕ) → AreWords words → AreWords others → ((k : ℕ) → has_bit words k ≡ has_bit others k)
    → (at : ℕ) → slice_index words at ≡ slice_index others at
same_word words others one two same at =
    same_from_bits_below 64 (slice_index words at) (slice_index others at) (one at) (two at) (λ i within.
    let place : (64 * at + i) / 64 ≡ at = omega (arith, within) in
    let bit : (64 * at + i) % 64 ≡ i = omega (arith, within) in
    let here : bit_of (slice_index words at) i ≡ bit_of (slice_index others at) i =
    sym (ap₂ (λ p b. bit_of (slice_index words p) b) place bit) ∙ same (64 * at + i) ∙ ap₂ (λ p b. bit_of (slice_index others p) b) place bit in
    same_bit (bit_at (slice_index words at) i) (bit_at (slice_index others at) i) (bit_at-lt (slice_index words at) i) (bit_at-lt (slice_index others at) i) here)

-- One bit that is put.

pub put_bits : (len : ℕ) (words : List ℕ) (row : List Bool) (i new : ℕ) (b : Bool) → IsRow len words row → i < length row → bit_of new (i % 64) ≡ b
    → ((j : ℕ) → j < 64 → (j ≡ i % 64 → ⊥) → bit_of new j ≡ bit_of (slice_index words (i / 64)) j) → IsRow len (set words (i / 64) new) (set row i b)
put_bits len words row i new b is within put kept =
    row_from len (set words (i / 64) new) (set row i b) packed (length-set row i b ∙ long) bits
  where
    long : length row ≡ len
    long = row_long len words row is

    inside : i / 64 < length words
    inside = omega (arith, within, long, is.packed.enough)

    here : slice_index (set words (i / 64) new) (i / 64) ≡ new
    here = get_or-set_same words (i / 64) new 0 inside

    other_bits : (k : ℕ) → (k ≡ i → ⊥) → has_bit (set words (i / 64) new) k ≡ has_bit words k
    other_bits k apart = elim (cases_eq (k / 64) (i / 64)) [
      | inl word ↦
          ap (λ w. bit_of (slice_index (set words (i / 64) new) w) (k % 64)) word
          ∙ ap (λ w. bit_of w (k % 64)) here
          ∙ kept (k % 64) (omega arith) (λ bit. apart (omega (arith, word, bit)))
          ∙ sym (ap (λ w. bit_of (slice_index words w) (k % 64)) word)
      | inr word ↦ ap (λ w. bit_of w (k % 64)) (get_or-set_other words (i / 64) (k / 64) new 0 word)
    ]

    bits : (k : ℕ) → has_bit (set words (i / 64) new) k ≡ has (set row i b) k
    bits k = elim (cases_eq k i) [
      | inl is' ↦
          ap (λ n. has_bit (set words (i / 64) new) n) is' ∙ ap (λ w. bit_of w (i % 64)) here ∙ put ∙ sym (has_put_same row i b within)
          ∙ sym (ap (λ n. has (set row i b) n) is')
      | inr apart ↦ other_bits k apart ∙ sym (row_has len words row is k) ∙ sym (has_put_other row i k b apart)
    ]

    packed : IsPacked len (set words (i / 64) new)
    packed = record {
      fits = is.packed.fits;
      enough = length-set words (i / 64) new ∙ is.packed.enough;
      clear = λ k behind. other_bits k (λ same. omega (arith, same, behind, within, long)) ∙ is.packed.clear k behind;
    }

-- No bits.

zeros : (n i : ℕ) → slice_index (replicate n 0) i ≡ 0
zeros zero i = refl
zeros (suc n) zero = refl
zeros (suc n) (suc i) = zeros n i

pub no_row : (len n : ℕ) (words : List ℕ) → len < 2 ^ 32 → words ≡ replicate n 0 → n ≡ (len + 63) / 64 → IsRow len words (replicate len false)
no_row len n words fits is enough =
    row_from len words (replicate len false) (record { fits = fits; enough = ap length is ∙ length-replicate n 0 ∙ enough; clear = λ k behind. none k })
    (length-replicate len false) (λ k. none k ∙ sym (no_bits len k))
  where
    none : (k : ℕ) → has_bit words k ≡ false
    none k =
        ap (λ l. bit_of (slice_index l (k / 64)) (k % 64)) is ∙ ap (λ w. bit_of w (k % 64)) (zeros n (k / 64)) ∙ ap (λ b. b == 1) (bit_at-zero (k % 64))

-- The next bit.

not_le : (a b : ℕ) → b < a → nat_le a b ≡ false
not_le a b high = grind (arith, nat_le)

pub from_here : (w from at i : ℕ) → from / 64 ≡ at → i < 64 → bit_of (bit_and w ((2 ^ 64 - 1) * 2 ^ (from % 64) % 2 ^ 64)) i ≡ (bit_of w i && nat_le from (64 * at + i))
from_here w from at i is within =
    bit_of_and w ((2 ^ 64 - 1) * 2 ^ (from % 64) % 2 ^ 64) i ∙ ap (λ b. bit_of w i && b) (mask (cases_lt i (from % 64)))
  where
    shifted : (2 ^ 64 - 1) * 2 ^ (from % 64) % 2 ^ 64 ≡ 2 ^ 64 - 2 ^ (from % 64)
    shifted = ones_shl 64 (from % 64) (omega arith)

    mask : (i < from % 64) ⊎ (from % 64 ≤ i) → bit_of ((2 ^ 64 - 1) * 2 ^ (from % 64) % 2 ^ 64) i ≡ nat_le from (64 * at + i)
    mask (inl before) =
        ap (λ m. bit_of m i) shifted ∙ ap (λ b. b == 1) (bit_at_mask_below (from % 64) 64 i before)
        ∙ sym (not_le from (64 * at + i) (omega (arith, before, is)))
    mask (inr behind) =
        ap (λ m. bit_of m i) shifted ∙ ap (λ b. b == 1) (bit_at_mask_inside (from % 64) 64 i behind within)
        ∙ sym (le-leb from (64 * at + i) (omega (arith, behind, is)))

and_left : (b c : Bool) → c ≡ true → (b && c) ≡ false → b ≡ false
and_left true c is none = absurd (true≢false (sym is ∙ none))
and_left false c is none = refl

at_place : (words : List ℕ) (at i : ℕ) → i < 64 → has_bit words (64 * at + i) ≡ bit_of (slice_index words at) i
at_place words at i within =
    let place : (64 * at + i) / 64 ≡ at = omega (arith, within) in
    let bit : (64 * at + i) % 64 ≡ i = omega (arith, within) in
    ap₂ (λ p b. bit_of (slice_index words p) b) place bit

pub first_bit : (words : List ℕ) (at from w : ℕ) → (w ≡ 0 → ⊥) → w < 2 ^ 64
    → ((i : ℕ) → i < 64 → bit_of w i ≡ (bit_of (slice_index words at) i && nat_le from (64 * at + i)))
    → ((k : ℕ) → from ≤ k → k < 64 * at → has_bit words k ≡ false) → IsNext (has_bit words) from (Some (at * 64 + trailing_zeros w64 w))
first_bit words at from w some fits bits before =
    let m = trailing_zeros w64 w in
    let lowest = bit_at-trailing_zeros w64 w (omega (arith, some)) fits in
    let within : m < 64 = lowest.0 in
    let parts = and_parts (bit_of (slice_index words at) m) (nat_le from (64 * at + m)) (sym (bits m within) ∙ ap (λ b. b == 1) lowest.1) in
    let same : at * 64 + m ≡ 64 * at + m = omega arith in
    let low : from ≤ 64 * at + m = leb-true from (64 * at + m) parts.1 in (
      omega (arith, low),
      ap (has_bit words) same ∙ at_place words at m within ∙ parts.0,
      λ k begun short. elim (cases_lt k (64 * at)) [
        | inl earlier ↦ before k begun earlier
        | inr here ↦
            let i : ℕ = k - 64 * at in
            let place : k ≡ 64 * at + i = omega (arith, here) in
            let less : i < m = omega (arith, here, short) in
            let inside : i < 64 = omega (arith, less, within) in
            ap (has_bit words) place ∙ at_place words at i inside
            ∙ and_left (bit_of (slice_index words at) i) (nat_le from (64 * at + i)) (le-leb from (64 * at + i) (omega (arith, begun, place)))
            (sym (bits i inside) ∙ ap (λ b. b == 1) (lowest.2 i less))
      ],
    )

-- the word of a place
pub place_inside : (len : ℕ) (words : List ℕ) (row : List Bool) (i : ℕ) → IsRow len words row → i < length row → i / 64 < length words
place_inside len words row i is within = omega (arith, within, row_long len words row is, is.packed.enough)

pub false_unless : (b : Bool) → (b ≡ true → ⊥) → b ≡ false
false_unless true none = absurd (none refl)
false_unless false none = refl

-- What the operations answer.

pub next_member : (len : ℕ) (words : List ℕ) (row : List Bool) (from : ℕ) (answer : Option ℕ) → IsRow len words row → IsNext (has_bit words) from answer
    → IsNext (has row) from answer
next_member len words row from None is none = λ k begun. row_has len words row is k ∙ none k begun
next_member len words row from (Some m) is found = (found.0, row_has len words row is m ∙ found.1, λ k begun short. row_has len words row is k ∙ found.2 k begun short)

pub and_row : (len wide : ℕ) (new words others : List ℕ) (row other : List Bool) → IsRow len words row → IsRow wide others other → length row ≡ length other
    → length new ≡ length words → ((k : ℕ) → slice_index new k ≡ bit_and (slice_index words k) (slice_index others k)) → IsRow len new (met row other)
and_row len wide new words others row other one two long same each =
    by_bits (λ x y. x && y) refl len wide new words others row other one two long same (and_bits new words others each)

pub or_row : (len wide : ℕ) (new words others : List ℕ) (row other : List Bool) → IsRow len words row → IsRow wide others other → length row ≡ length other
    → length new ≡ length words → ((k : ℕ) → slice_index new k ≡ bit_or (slice_index words k) (slice_index others k)) → IsRow len new (joined row other)
or_row len wide new words others row other one two long same each =
    by_bits (λ x y. x || y) refl len wide new words others row other one two long same (or_bits new words others each)

pub unchanged : (len : ℕ) (words new : List ℕ) (row made : List Bool) → IsRow len words row → IsRow len new made
    → ((k : ℕ) → has_bit new k ≡ has_bit words k) ↔ (made ≡ row)
unchanged len words new row made one two = (
  λ same. same_rows made row (row_long len new made two ∙ sym (row_long len words row one)) (λ k.
      row_has len new made two k ∙ same k ∙ sym (row_has len words row one k)),
  λ same k. sym (row_has len new made two k) ∙ ap (λ r. has r k) same ∙ row_has len words row one k,
)

-- one word within another
pub or_within : (w o : ℕ) → w < 2 ^ 64 → o < 2 ^ 64 → ((i : ℕ) → i < 64 → bit_of w i ≡ true → bit_of o i ≡ true) → bit_or w o ≡ o
or_within w o one two within =
    same_from_bits_below 64 (bit_or w o) o (or_lt 64 w o one two) two (λ i inside.
    same_bit (bit_at (bit_or w o) i) (bit_at o i) (bit_at-lt (bit_or w o) i) (bit_at-lt o i)
    (bit_of_or w o i ∙ absorbed (bit_of w i) (bit_of o i) (within i inside)))
  where
    absorbed : (b c : Bool) → (b ≡ true → c ≡ true) → (b || c) ≡ c
    absorbed true c then = sym (then refl)
    absorbed false c then = refl

pub within_or : (w o i : ℕ) → bit_or w o ≡ o → bit_of w i ≡ true → bit_of o i ≡ true
within_or w o i same is = ap (λ n. bit_of n i) (sym same) ∙ bit_of_or w o i ∙ ap (λ b. b || bit_of o i) is

-- what `or` makes are words
pub words_by : (i : ℕ) (new words : List ℕ) (more : ℕ → ℕ) → AreWords words → ((k : ℕ) → more k < 2 ^ 64)
    → ((k : ℕ) → k < i → slice_index new k ≡ bit_or (slice_index words k) (more k)) → ((k : ℕ) → i ≤ k → slice_index new k ≡ slice_index words k) → AreWords new
words_by i new words more one two before behind k = elim (cases_lt k i) [
  | inl early ↦ omega (arith, before k early, or_lt 64 (slice_index words k) (more k) (one k) (two k))
  | inr late ↦ omega (arith, behind k late, one k)
]

no_word : (words : List ℕ) (k : ℕ) → length words ≤ k / 64 → has_bit words k ≡ false
no_word words k behind =
    ap (λ w. bit_of w (k % 64)) (no_item words (k / 64) behind) ∙ ap (λ b. b == 1) (bit_at-zero (k % 64))
  where
    no_item : (l : List ℕ) (i : ℕ) → length l ≤ i → slice_index l i ≡ 0
    no_item [] zero far = refl
    no_item [] (suc i) far = refl
    no_item (x ∷ l) zero far = absurd (omega (arith, far))
    no_item (x ∷ l) (suc i) far = no_item l i (omega (arith, far))

-- each bit, by the words
pub within_bits : (words others : List ℕ) → ((k : ℕ) → k < length words → bit_or (slice_index words k) (slice_index others k) ≡ slice_index others k)
    → (k : ℕ) → has_bit words k ≡ true → has_bit others k ≡ true
within_bits words others each k is = elim (cases_lt (k / 64) (length words)) [
  | inl inside ↦ within_or (slice_index words (k / 64)) (slice_index others (k / 64)) (k % 64) (each (k / 64) inside) is
  | inr behind ↦ absurd (true≢false (sym is ∙ no_word words k behind))
]

pub within_bits_under : (words others mask : List ℕ)
    → ((k : ℕ) → k < length words → bit_or (bit_and (slice_index words k) (slice_index mask k)) (slice_index others k) ≡ slice_index others k)
    → (k : ℕ) → (has_bit words k && has_bit mask k) ≡ true → has_bit others k ≡ true
within_bits_under words others mask each k both = elim (cases_lt (k / 64) (length words)) [
  | inl inside ↦
      within_or (bit_and (slice_index words (k / 64)) (slice_index mask (k / 64))) (slice_index others (k / 64)) (k % 64) (each (k / 64) inside)
      (bit_of_and (slice_index words (k / 64)) (slice_index mask (k / 64)) (k % 64) ∙ both)
  | inr behind ↦ absurd (true≢false (sym (and_parts (has_bit words k) (has_bit mask k) both).0 ∙ no_word words k behind))
]

-- a word, by its bits
pub word_within : (words others : List ℕ) → AreWords words → AreWords others → ((k : ℕ) → has_bit words k ≡ true → has_bit others k ≡ true)
    → (at : ℕ) → bit_or (slice_index words at) (slice_index others at) ≡ slice_index others at
word_within words others one two within at =
    or_within (slice_index words at) (slice_index others at) (one at) (two at) (λ i inside is.
    sym (at_place others at i inside) ∙ within (64 * at + i) (at_place words at i inside ∙ is))

pub word_within_under : (words others mask : List ℕ) → AreWords words → AreWords others
    → ((k : ℕ) → (has_bit words k && has_bit mask k) ≡ true → has_bit others k ≡ true)
    → (at : ℕ) → bit_or (bit_and (slice_index words at) (slice_index mask at)) (slice_index others at) ≡ slice_index others at
word_within_under words others mask one two within at =
    or_within (bit_and (slice_index words at) (slice_index mask at)) (slice_index others at)
    (omega (arith, one at, and_le_l (slice_index words at) (slice_index mask at))) (two at) (λ i inside is.
    sym (at_place others at i inside)
    ∙ within (64 * at + i)
    (ap₂ (λ x y. x && y) (at_place words at i inside) (at_place mask at i inside) ∙ sym (bit_of_and (slice_index words at) (slice_index mask at) i) ∙ is))

-- rows, by their bits
pub within_row : (len wide : ℕ) (words others : List ℕ) (row other : List Bool) (b : Bool) → IsRow len words row → IsRow wide others other
    → ((b ≡ true) ↔ ((k : ℕ) → has_bit words k ≡ true → has_bit others k ≡ true)) → ((b ≡ true) ↔ IsWithin row other)
within_row len wide words others row other b one two says = (
  λ yes' k is. row_has wide others other two k ∙ says.0 yes' k (sym (row_has len words row one k) ∙ is),
  λ within. says.1 (λ k is. sym (row_has wide others other two k) ∙ within k (row_has len words row one k ∙ is)),
)

pub within_row_under : (len wide broad : ℕ) (words others masks : List ℕ) (row other mask : List Bool) (b : Bool) → IsRow len words row
    → IsRow wide others other → IsRow broad masks mask → length row ≡ length mask
    → ((b ≡ true) ↔ ((k : ℕ) → (has_bit words k && has_bit masks k) ≡ true → has_bit others k ≡ true)) → ((b ≡ true) ↔ IsWithin (met row mask) other)
within_row_under len wide broad words others masks row other mask b one two three long says = (
  λ yes' k is. row_has wide others other two k ∙ says.0 yes' k (sym (both k) ∙ is),
  λ within. says.1 (λ k is. sym (row_has wide others other two k) ∙ within k (both k ∙ is)),
)
  where
    both : (k : ℕ) → has (met row mask) k ≡ (has_bit words k && has_bit masks k)
    both k =
        has_by_places (λ x y. x && y) refl row mask k long ∙ ap₂ (λ x y. x && y) (row_has len words row one k) (row_has broad masks mask three k)

pub or_masked_row : (len wide broad : ℕ) (new words others masks : List ℕ) (row other mask : List Bool) → IsRow len words row → IsRow wide others other
    → IsRow broad masks mask → length row ≡ length other → length row ≡ length mask → length new ≡ length words
    → ((k : ℕ) → slice_index new k ≡ bit_or (slice_index words k) (bit_and (slice_index others k) (slice_index masks k)))
    → IsRow len new (joined row (met other mask))
or_masked_row len wide broad new words others masks row other mask one two three long longer same each =
    row_from len new (joined row (met other mask)) packed (long_by_places (λ x y. x || y) row (met other mask) reach ∙ here) (λ k.
    bits k ∙ ap₂ (λ x y. x || y) (sym (row_has len words row one k)) (sym (both k)) ∙ sym (has_by_places (λ x y. x || y) refl row (met other mask) k reach))
  where
    here : length row ≡ len
    here = row_long len words row one

    even : length other ≡ length mask
    even = sym long ∙ longer

    reach : length row ≡ length (met other mask)
    reach = long ∙ sym (long_by_places (λ x y. x && y) other mask even)

    both : (k : ℕ) → has (met other mask) k ≡ (has_bit others k && has_bit masks k)
    both k =
        has_by_places (λ x y. x && y) refl other mask k even ∙ ap₂ (λ x y. x && y) (row_has wide others other two k) (row_has broad masks mask three k)

    bits : (k : ℕ) → has_bit new k ≡ (has_bit words k || (has_bit others k && has_bit masks k))
    bits k =
        ap (λ w. bit_of w (k % 64)) (each (k / 64))
        ∙ bit_of_or (slice_index words (k / 64)) (bit_and (slice_index others (k / 64)) (slice_index masks (k / 64))) (k % 64)
        ∙ ap (λ b. has_bit words k || b) (bit_of_and (slice_index others (k / 64)) (slice_index masks (k / 64)) (k % 64))

    packed : IsPacked len new
    packed = record {
      fits = one.packed.fits;
      enough = same ∙ one.packed.enough;
      clear = λ k behind.
          bits k
          ∙ ap₂ (λ x y. x || y) (one.packed.clear k behind) (sym (both k) ∙ not_had (met other mask) k (omega (arith, behind, here, reach)));
    }
