-- Lists of decimal numbers with blanks between them, and where bytes stop being one.
use Rattle.std.specs.Prelude.{◌≡◌, ℕ, suc, ◌+◌, ◌-◌, ◌*◌, ◌^◌, ◌<◌, ◌⊎◌, ℤ, pos, neg_ℤ, Bool, true, false, ◌&&◌, ◌||◌, nat_eq, nat_le, if◌then◌else◌, List, [], ◌∷◌, ◌++◌, length, take, filter, fold, Option, Some, None, option_map, is_some, IsTrue, Result, Ok, Err}
use Rattle.std.specs.Char.{is_ascii_digit}
use Rattle.std.specs.List.{list_all}
use Rattle.dfi_base.specs.declared.numbers.Name.{Name}
use Rattle.number_lists.specs.declared.fault.ListFault.{ListFault}

-- a space, a tab, a newline or a carriage return
abbrev pub is_blank : ℕ → Bool
is_blank b = nat_eq b 32 || (nat_eq b 9 || (nat_eq b 10 || nat_eq b 13))

abbrev pub with_first : ℕ → List (List ℕ) → List (List ℕ)
with_first b [] = (b ∷ []) ∷ []
with_first b (piece ∷ pieces) = (b ∷ piece) ∷ pieces

-- what stands before, between and behind the blanks, be it nothing
abbrev pub pieces_of : List ℕ → List (List ℕ)
pieces_of [] = [] ∷ []
pieces_of (b ∷ bytes) = elim (is_blank b) [ true ↦ [] ∷ pieces_of bytes | false ↦ with_first b (pieces_of bytes) ]

abbrev pub is_filled : List ℕ → Bool
is_filled [] = false
is_filled (b ∷ bytes) = true

-- the words between the blanks
abbrev pub words_of : List ℕ → List (List ℕ)
words_of bytes = filter is_filled (pieces_of bytes)

-- the value of decimal digits, the first of which counts most
abbrev pub value_of : List ℕ → ℕ
value_of digits = fold (λ n d. n * 10 + (d - 48)) 0 digits

-- the value of digits, at least one, where it is no more than this
abbrev pub number_up_to : ℕ → List ℕ → Option ℕ
number_up_to most digits =
    if is_filled digits && (list_all is_ascii_digit digits && nat_le (value_of digits) most) then Some (value_of digits) else None

-- the `int` that a word writes, with a minus sign (45) or none
abbrev pub int_of : List ℕ → Option ℤ
int_of [] = None
int_of (b ∷ word) = elim (nat_eq b 45) [ true ↦ option_map (λ n. neg_ℤ (pos n)) (number_up_to 2147483648 word) | false ↦ option_map pos (number_up_to 2147483647 (b ∷ word)) ]

-- the name of a thread that a word writes
abbrev pub name_of : List ℕ → Option Name
name_of word = option_map (λ n. record { 0 = n }) (number_up_to (2 ^ 64 - 1) word)

abbrev pub with_number : {A : Type 0} → Option A → Option (List A) → Option (List A)
with_number (Some n) (Some numbers) = Some (n ∷ numbers)
with_number _ _ = None

-- the numbers of all words, where each word is one
abbrev pub numbers_of : {A : Type 0} → (List ℕ → Option A) → List (List ℕ) → Option (List A)
numbers_of number [] = Some []
numbers_of number (word ∷ words) = with_number (number word) (numbers_of number words)

-- the numbers of a list
abbrev pub list_of : {A : Type 0} → (List ℕ → Option A) → List ℕ → Option (List A)
list_of number bytes = numbers_of number (words_of bytes)

-- some list begins with these bytes
abbrev pub Continues : {A : Type 0} → (List ℕ → Option A) → List ℕ → Type 0
Continues number bytes = (more : List ℕ) × IsTrue (is_some (list_of number (bytes ++ more)))

-- Some list begins with the bytes before this place. None goes on with the byte at it; or the bytes end there, and are no list.
pub record IsRefusedAt {A : Type 0} (number : List ℕ → Option A) (bytes : List ℕ) (at : ℕ) : Type 0 where
  pub before : Continues number (take at bytes)
  pub here : ((at < length bytes) × (Continues number (take (suc at) bytes) → ⊥)) ⊎ ((at ≡ length bytes) × (list_of number bytes ≡ None))

-- the numbers of the list, or where the bytes stop being one; want of memory is free
abbrev pub Answers : {A X : Type 0} → (X → List A) → (List ℕ → Option A) → List ℕ → Result X ListFault → Type 0
Answers view number bytes (Ok numbers) = list_of number bytes ≡ Some (view numbers)
Answers view number bytes (Err (ListFault.Refused at)) = IsRefusedAt number bytes at
Answers view number bytes (Err ListFault.Memory) = Unit {0}
