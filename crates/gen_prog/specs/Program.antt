-- The text of the generated program.
use Rattle.std.specs.Prelude.{ℕ, ◌+◌, ◌*◌, List, [], ◌∷◌, ◌++◌, map, codes}
use Rattle.std.specs.List.{flat_map, range_with_len}
use Rattle.std.specs.Fmt.{decimal}

-- a line for each number below n
abbrev pub line_for_each : (ℕ → List ℕ) → ℕ → List (List ℕ)
line_for_each line n = map line (range_with_len 0 n)

-- the array has two places for each function
abbrev pub array_line : ℕ → List ℕ
array_line n = codes "int t[" ++ decimal (2 * n) ++ codes "];"

-- function k adds up m multiples of k + 1
abbrev pub function_line : ℕ → List ℕ
function_line k =
    codes "int f" ++ decimal k ++ codes "(int m) { int i; int s; s = 0; for (i = 0; i < m; i++) { s = s + i * " ++ decimal (k + 1)
    ++ codes "; } return s; }"

-- two branches call function k
abbrev pub branches_line : ℕ → List ℕ
branches_line k =
    codes "par { { t[" ++ decimal (2 * k) ++ codes "] = f" ++ decimal k ++ codes "(100); } { t[" ++ decimal (2 * k + 1) ++ codes "] = f" ++ decimal k
    ++ codes "(50); } }"

abbrev pub loop_line : ℕ → List ℕ
loop_line n = codes "for (i = 0; i < " ++ decimal (2 * n) ++ codes "; i++) { s = s + t[i]; }"

-- the end of main adds up the array and puts out the sum
abbrev pub sum_lines : ℕ → List (List ℕ)
sum_lines n = codes "int i;" ∷ codes "int s;" ∷ codes "s = 0;" ∷ loop_line n ∷ codes "putint(s);" ∷ codes "}" ∷ []

-- the lines of the program with n functions
abbrev pub program_lines : ℕ → List (List ℕ)
program_lines n =
    (array_line n ∷ line_for_each function_line n) ++ (codes "int main() {" ∷ line_for_each branches_line n) ++ sum_lines n

abbrev pub ended : List ℕ → List ℕ
ended line = line ++ 10 ∷ []

-- each line ends with a newline
abbrev pub text_of : ℕ → List ℕ
text_of n = flat_map ended (program_lines n)
