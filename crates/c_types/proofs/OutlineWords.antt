-- Words up to one past the limit of a type, by those of a text.
use Rattle.std.proofs.Common.{◌≡◌, ℕ, zero, suc, ◌+◌, ◌*◌, ◌≤◌, Bool, true, false, List, [], ◌∷◌, get_or, nat_le, refl, ap, sym, ◌∙◌, mul_left_comm, arith}
use Rattle.std.proofs.lemmas.Bool.Decides.{nat_tests}
use Rattle.c_typed.specs.declared.types.BaseType.{BaseType}
use Rattle.c_typed.specs.declared.types.ObjectType.{ObjectType}
use Rattle.c_types.specs.declared.outline.Outline.{Outline}
use Rattle.c_typed.specs.Types as types
use Rattle.c_typed.specs.Whole.{Whole}
use Rattle.c_types.specs.tools.Outlines as outlines
use Rattle.c_types.specs.tools.Outlines.{capped, shape_words}
use Rattle.c_types.proofs.Outlined.{IsOutline}

pub capped_within : (n : ℕ) → n ≤ 24576 → capped n ≡ n
capped_within n le = ap (λ b. elim b [ true ↦ n | false ↦ 24577 ]) test where
  test : nat_le n 24576 ≡ true
  test = grind (arith, nat_tests, le)

pub capped_past : (n : ℕ) → 24577 ≤ n → capped n ≡ 24577
capped_past n le = ap (λ b. elim b [ true ↦ n | false ↦ 24577 ]) test where
  test : nat_le n 24576 ≡ false
  test = grind (arith, nat_tests, le)

-- within the limit or past it
data Sized (n : ℕ) : Type 0 where
  within : n ≤ 24576 → Sized n
  past : 24577 ≤ n → Sized n

sized_by : (n : ℕ) (b : Bool) → nat_le n 24576 ≡ b → Sized n
sized_by n true e = within (grind (arith, nat_tests, e))
sized_by n false e = past (grind (arith, nat_tests, e))

sized : (n : ℕ) → Sized n
sized n = sized_by n (nat_le n 24576) refl

-- a test at a bound up to the cap sees no difference
pub capped_le : (m n : ℕ) → m ≤ 24576 → nat_le (capped n) m ≡ nat_le n m
capped_le m n le = by (sized n) where
  by : Sized n → nat_le (capped n) m ≡ nat_le n m
  by (within small) = ap (λ n. nat_le n m) (capped_within n small)
  by (past big) = ap (λ n. nat_le n m) (capped_past n big) ∙ first ∙ sym second where
    first : nat_le 24577 m ≡ false
    first = grind (arith, nat_tests, le)

    second : nat_le n m ≡ false
    second = grind (arith, nat_tests, le, big)

pub capped_sum : (m n : ℕ) → capped (capped m + capped n) ≡ capped (m + n)
capped_sum m n = by (sized m) (sized n) where
  by : Sized m → Sized n → capped (capped m + capped n) ≡ capped (m + n)
  by (within i) (within j) = ap (λ k. capped (k + capped n)) (capped_within m i) ∙ ap (λ k. capped (m + k)) (capped_within n j)
  by (within i) (past j) =
      ap (λ k. capped (capped m + k)) (capped_past n j) ∙ capped_past (capped m + 24577) (omega arith) ∙ sym (capped_past (m + n) (omega (arith, j)))
  by (past i) q =
      ap (λ k. capped (k + capped n)) (capped_past m i) ∙ capped_past (24577 + capped n) (omega arith) ∙ sym (capped_past (m + n) (omega (arith, i)))

pub capped_times : (m n : ℕ) → capped (m * capped n) ≡ capped (m * n)
capped_times m n = by m (sized n) where
  by : (m : ℕ) → Sized n → capped (m * capped n) ≡ capped (m * n)
  by m (within i) = ap (λ k. capped (m * k)) (capped_within n i)
  by zero (past j) = let e : 0 * capped n ≡ 0 * n = omega arith in ap capped e
  by (suc m) (past j) =
      ap (λ k. capped (suc m * k)) (capped_past n j) ∙ capped_past (suc m * 24577) (omega arith) ∙ sym (capped_past (suc m * n) (omega (arith, j)))

-- Lengths.
times_mul : (ns : List ℕ) (m n : ℕ) → types.times ns (m * n) ≡ m * types.times ns n
times_mul [] m n = refl
times_mul (k ∷ ns) m n = ap (λ x. k * x) (times_mul ns m n) ∙ mul_left_comm k m (types.times ns n)

times_same : (ns : List ℕ) (n : ℕ) → outlines.times (capped n) ns ≡ capped (types.times ns n)
times_same [] n = refl
times_same (m ∷ ns) n =
    ap (λ x. outlines.times x ns) (capped_times m n) ∙ times_same ns (m * n) ∙ ap capped (times_mul ns m n)

-- by the words of each struct
item_by : (sizes : List ℕ) (o : Outline) → ((k : ℕ) → shape_words o k ≡ capped (get_or sizes k 0)) → (b : BaseType) (stars : ℕ) → outlines.item_words o b stars ≡ capped (types.item_words sizes b stars)
item_by sizes o is BaseType.Int zero = refl
item_by sizes o is (BaseType.Struct k) zero = is k
item_by sizes o is BaseType.Unknown zero = refl
item_by sizes o is b (suc s) = refl

pub words_by : (sizes : List ℕ) (o : Outline) → ((k : ℕ) → shape_words o k ≡ capped (get_or sizes k 0)) → (t : ObjectType) → outlines.words_of o t ≡ capped (types.words_of sizes t)
words_by sizes o is t = ap (λ n. outlines.times n t.lengths) (item_by sizes o is t.base t.stars) ∙ times_same t.lengths (types.item_words sizes t.base t.stars)

pub words_same : (w : Whole) (o : Outline) → IsOutline w o → (t : ObjectType) → outlines.words_of o t ≡ capped (types.words_of w.sizes t)
words_same w o is t = words_by w.sizes o is.words t
