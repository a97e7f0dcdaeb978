-- What operators make of values: the meaning that pointers have over objects (C99 6.5.6p8). None: it has none.
use Rattle.std.specs.Prelude.{ℕ, ◌+◌, ℤ, pos, ◌+ℤ◌, ◌*ℤ◌, int_le, nat_eq, Bool, true, false, not, ◌&&◌, Option, Some, None}
use Rattle.std.specs.Option.{option_map}
use Rattle.dfi_base.specs.Words.{word_of, int_of}
use Rattle.obj_mem.specs.declared.value.Value.{Value}

-- the word of a number
abbrev pub word_in : Value → Option ℕ
word_in (Value.Int k) = Some (word_of k)
word_in v = None

-- an operator of one word, and one of two, on numbers
abbrev pub on_word : (ℕ → ℕ) → Value → Option Value
on_word op (Value.Int a) = Some (Value.Int (int_of (op (word_of a))))
on_word op v = None

abbrev pub on_words : (ℕ → ℕ → ℕ) → Value → Value → Option Value
on_words op (Value.Int a) (Value.Int b) = Some (Value.Int (int_of (op (word_of a) (word_of b))))
on_words op v w = None

-- a number is true where it is not 0
abbrev pub truth_of : Value → Option Bool
truth_of (Value.Int k) = Some (not (nat_eq (word_of k) 0))
truth_of v = None

-- from this offset on so many words lie within the bounds
abbrev pub has_room : ℤ → ℕ → ℤ → ℤ → Bool
has_room off words lo hi = int_le lo off && int_le (off +ℤ pos words) hi

-- of a struct of so many words, the part of so many that begins so many behind its first
abbrev pub part_of : ℕ → ℕ → ℕ → Value → Option Value
part_of whole before words (Value.Ptr o off lo hi) =
    elim (has_room off whole lo hi) [ true ↦ Some (Value.Ptr o (off +ℤ pos before) (off +ℤ pos before) (off +ℤ pos (before + words))) | false ↦ None ]
part_of whole before words v = None

-- the first item of an array of so many words, which are its bounds
abbrev pub items_of : ℕ → Value → Option Value
items_of words (Value.Ptr o off lo hi) = elim (has_room off words lo hi) [ true ↦ Some (Value.Ptr o off off (off +ℤ pos words)) | false ↦ None ]
items_of words v = None

-- an offset, where it lies from the lower bound to the upper one, which is one past the last word
abbrev pub within : ℤ → ℤ → ℤ → Option ℤ
within at lo hi = elim (int_le lo at && int_le at hi) [ true ↦ Some at | false ↦ None ]

-- a pointer, moved by a number of items of so many words
abbrev pub moved : ℕ → Value → Value → Option Value
moved words (Value.Int items) (Value.Ptr o off lo hi) = option_map (λ at. Value.Ptr o at lo hi) (within (off +ℤ (items *ℤ pos words)) lo hi)
moved words i v = None
