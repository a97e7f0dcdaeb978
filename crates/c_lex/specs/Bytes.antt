-- Classes of bytes, and the lines in them.
use Rattle.std.specs.Prelude.{ℕ, ◌+◌, Bool, ◌||◌, ◌&&◌, ◌==◌, nat_le, List, take, count_by}
use Rattle.std.specs.Char.{is_ascii_alphabetic, is_ascii_digit}

-- space, tab, newline, vertical tab, form feed or carriage return
abbrev pub is_white : ℕ → Bool
is_white b = b == 32 || (nat_le 9 b && nat_le b 13)

-- a letter, a digit or '_', of which words and numbers are made
abbrev pub is_word_byte : ℕ → Bool
is_word_byte b = is_ascii_alphabetic b || (b == 95 || is_ascii_digit b)

abbrev pub is_newline : ℕ → Bool
is_newline b = b == 10

-- how many of the bytes are newlines
abbrev pub newlines : List ℕ → ℕ
newlines bytes = count_by is_newline bytes

-- the line of the byte at this place: 1, and 1 for each newline before it
abbrev pub line_at : List ℕ → ℕ → ℕ
line_at bytes at = 1 + newlines (take at bytes)
