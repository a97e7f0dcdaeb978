-- Lines of numbers.
use Rattle.std.specs.Prelude.{ℕ, suc, ℤ, pos, negsuc, Bool, true, false, ◌≤◌, List, [], ◌∷◌, ◌++◌}
use Rattle.std.specs.Fmt.{decimal}

-- the greatest number of 32 bits
abbrev pub greatest : ℕ
greatest = 4294967295

-- each behind the byte that stands between two, with the same bytes in front of its digits; then the end, and what follows
abbrev pub numbers_text : List ℕ → ℕ → ℕ → List ℕ → List ℕ → List ℕ
numbers_text lead between end [] rest = end ∷ rest
numbers_text lead between end (x ∷ xs) rest = between ∷ (lead ++ (decimal x ++ numbers_text lead between end xs rest))

-- the least number that may come behind x
abbrev pub after : Bool → ℕ → ℕ
after rising x = elim rising [ true ↦ suc x | false ↦ 0 ]

-- each is of 32 bits and at least the least, and where they rise each is greater than the one before
abbrev pub Fit : Bool → ℕ → List ℕ → Type 0
Fit rising least [] = Unit {0}
Fit rising least (x ∷ xs) = (least ≤ x) × (x ≤ greatest) × Fit rising (after rising x) xs

-- a number of 32 bits with a sign
abbrev pub IsInt : ℤ → Type 0
IsInt (pos n) = n ≤ 2147483647
IsInt (negsuc n) = n ≤ 2147483647

-- words with one space between each two, a newline, and what follows
abbrev pub line : List (List ℕ) → List ℕ → List ℕ
line [] rest = 10 ∷ rest
line (w ∷ []) rest = w ++ 10 ∷ rest
line (w ∷ v ∷ ws) rest = w ++ 32 ∷ line (v ∷ ws) rest

-- a line for each
abbrev pub lines : {A : Type 0} → (A → List (List ℕ)) → List A → List ℕ → List ℕ
lines words [] rest = rest
lines words (x ∷ xs) rest = line (words x) (lines words xs rest)
