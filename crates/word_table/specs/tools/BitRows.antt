-- Rows of bits: for each read the classes of the members of its set.
use Rattle.std.specs.Prelude.{◌≡◌, ℕ, zero, suc, ◌*◌, ◌/◌, ◌%◌, ◌^◌, ◌==◌, Bool, false, Some, None, List, [], ◌∷◌, bit_or, slice_get, slice_index, slice_set}
use Rattle.std.specs.Int.{bit_at}
use Rattle.tac_ir.specs.Module.{Module}
use Rattle.tac_ir.specs.Answers.{set_of}
use Rattle.word_table.specs.declared.bits.Bits.{Bits}
use Rattle.word_table.specs.tools.Classes.{is_class_in}

abbrev pub has_bit : List ℕ → ℕ → Bool
has_bit words k = bit_at (slice_index words (k / 64)) (k % 64) == 1

-- with one bit more
abbrev pub with_bit : List ℕ → ℕ → List ℕ
with_bit words k = slice_set words (k / 64) (bit_or (slice_index words (k / 64)) (1 * 2 ^ (k % 64) % 2 ^ 64))

-- whether the row of a read has a class
abbrev pub row_has : List Bits → ℕ → ℕ → Bool
row_has rows zero c = false
row_has rows (suc r) c = elim (slice_get rows r) [ None ↦ false | Some row ↦ has_bit row.words.items c ]

-- a row has the classes of the members of a set
abbrev pub IsRow : Module → List ℕ → Bits → Type 0
IsRow m set row = (c : ℕ) → has_bit row.words.items c ≡ is_class_in m set c

abbrev pub AreRows : Module → List (List ℕ) → List Bits → Type 0
AreRows m [] [] = Unit {0}
AreRows m [] (row ∷ rows) = ⊥
AreRows m (set ∷ sets) [] = ⊥
AreRows m (set ∷ sets) (row ∷ rows) = IsRow m set row × AreRows m sets rows

-- the rows are those of the reads of a module
abbrev pub AreRowsOf : Module → List Bits → Type 0
AreRowsOf m rows = (r c : ℕ) → row_has rows r c ≡ is_class_in m (set_of m r) c
