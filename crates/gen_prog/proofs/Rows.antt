-- The program with one function, written out.
use Rattle.std.proofs.Common.{◌≡◌, [], ◌∷◌, refl}
use Rattle.std.specs.Prelude.{codes}
use Rattle.std.specs.Fmt.{digits}
use Rattle.gen_prog.specs.Program.{program_lines}

one_function : program_lines 1 ≡
    codes "int t[2];"
    ∷ codes "int f0(int m) { int i; int s; s = 0; for (i = 0; i < m; i++) { s = s + i * 1; } return s; }"
    ∷ codes "int main() {"
    ∷ codes "par { { t[0] = f0(100); } { t[1] = f0(50); } }"
    ∷ codes "int i;"
    ∷ codes "int s;"
    ∷ codes "s = 0;"
    ∷ codes "for (i = 0; i < 2; i++) { s = s + t[i]; }"
    ∷ codes "putint(s);"
    ∷ codes "}"
    ∷ []
unfolding digits
one_function = refl
