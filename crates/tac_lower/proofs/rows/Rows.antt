-- The code of small programs, by computation.
use Rattle.std.specs.Prelude.{pos}
use Rattle.std.proofs.Common.{◌≡◌, ℕ, List, [], ◌∷◌, Some, None, refl, ◌∙◌}
use Rattle.c_ast.specs.declared.stmt.AssignOp.{AssignOp}
use Rattle.c_typed.specs.declared.types.BaseType.{BaseType}
use Rattle.c_typed.specs.declared.types.ObjectType.{ObjectType}
use Rattle.c_typed.specs.declared.types.ExprType.{ExprType}
use Rattle.c_typed.specs.declared.program.Global.{Global}
use Rattle.c_typed.specs.declared.program.Variable.{Variable}
use Rattle.tac_ir.specs.declared.code.Shape.{Shape}
use Rattle.tac_ir.specs.declared.code.Lined.{Lined}
use Rattle.tac_ir.specs.declared.code.Place.{Place}
use Rattle.tac_ir.specs.declared.code.Instr.{Instr}
use Rattle.tac_lower.specs.CodeOf.{code_of}
use Rattle.tac_lower.proofs.rows.Small.{Tree}
use Rattle.tac_lower.proofs.rows.SmallStmts.{Code as Text, Codes as Texts, Small, at_line, program, coded}

abbrev pub line : ℕ → Instr → Lined
line n i = record { line = n; instr = i }

abbrev pub int : ObjectType
int = record { base = BaseType.Int; stars = 0; lengths = [] }

abbrev pub pointer : ObjectType
pointer = record { base = BaseType.Int; stars = 1; lengths = [] }

abbrev pub ints : ℕ → ObjectType
ints n = record { base = BaseType.Int; stars = 0; lengths = n ∷ [] }

abbrev pub global : ℕ → ObjectType → Global
global n t = record { line = at_line n; object = t; start = pos 0 }

abbrev pub variable : ℕ → ObjectType → Variable
variable n t = record { line = at_line n; object = t }

-- the int of a global or a local variable
abbrev g : ℕ → Tree
g n = Tree.read ExprType.Int (Tree.global int n)

abbrev x : ℕ → Tree
x n = Tree.read ExprType.Int (Tree.local int n)

-- `int main() { .. }`
abbrev main_of : ℕ → Texts → ℕ → Small
main_of first body last = record { line = first; result = Some int; parameters = 0; variables = []; body = body; close = last }

-- Line 1: int a[4]; 2: int x; 3: int main() { 4: x = 3; 5: a[3] = 9; 6: putint(x); 7: }
abbrev indexed : List Small
indexed = main_of 3 (Texts.also (Text.set 4 (Tree.global int 1) AssignOp.Plain (Tree.num 3))
    (Texts.also (Text.set 5 (Tree.index int (Tree.decay int (Tree.global (ints 4) 0)) (Tree.num 3)) AssignOp.Plain (Tree.num 9))
    (Texts.also (Text.put 6 (g 1)) Texts.none))) 7 ∷ []

indexed_row : code_of (program [] (global 1 (ints 4) ∷ global 2 int ∷ []) indexed 0) ≡ record {
  shapes = Shape.Int ∷ Shape.Ptr ∷ Shape.Array 4 0 ∷ [];
  globals = record { shape = 2; start = pos 0; line = 1 } ∷ record { shape = 0; start = pos 0; line = 2 } ∷ [];
  sites = [];
  main = 0;
  funs = record {
    params = 0;
    vars = [];
    line = 3;
    code =
        line 4 (Instr.Const 0 (pos 3)) ∷ line 4 (Instr.Set (Place.Global 1 []) 0 3)
        ∷ line 5 (Instr.Addr 1 (Place.Global 0 [])) ∷ line 5 (Instr.Decay 2 1 2) ∷ line 5 (Instr.Const 3 (pos 3))
        ∷ line 5 (Instr.Index 4 2 3 1) ∷ line 5 (Instr.Const 5 (pos 9)) ∷ line 5 (Instr.Store 4 5 4)
        ∷ line 6 (Instr.Get 6 (Place.Global 1 []) 1) ∷ line 6 (Instr.Out 6)
        ∷ line 7 (Instr.Const 7 (pos 0)) ∷ line 7 (Instr.Ret 7 None) ∷ [];
  } ∷ [];
}
indexed_row = coded [] (global 1 (ints 4) ∷ global 2 int ∷ []) indexed 0 ∙ refl

-- Line 1: int x; 2: int y; 3: int main() { 4: x = 1; 5: par { { x = 2; } { y = x; } } 6: putint(y); 7: }
abbrev branching : List Small
branching = main_of 3 (Texts.also (Text.set 4 (Tree.global int 0) AssignOp.Plain (Tree.num 1))
    (Texts.also (Text.par 5 (Texts.also (Text.set 5 (Tree.global int 0) AssignOp.Plain (Tree.num 2)) (Texts.also (Text.set 5 (Tree.global int 1) AssignOp.Plain (g 0)) Texts.none)))
    (Texts.also (Text.put 6 (g 1)) Texts.none))) 7 ∷ []

branching_row : code_of (program [] (global 1 int ∷ global 2 int ∷ []) branching 0) ≡ record {
  shapes = Shape.Int ∷ Shape.Ptr ∷ [];
  globals = record { shape = 0; start = pos 0; line = 1 } ∷ record { shape = 0; start = pos 0; line = 2 } ∷ [];
  sites = [];
  main = 0;
  funs = record {
    params = 0;
    vars = [];
    line = 3;
    code =
        line 4 (Instr.Const 0 (pos 1)) ∷ line 4 (Instr.Set (Place.Global 0 []) 0 3) ∷ line 5 (Instr.Fork 9 (3 ∷ 6 ∷ []))
        ∷ line 5 (Instr.Const 1 (pos 2)) ∷ line 5 (Instr.Set (Place.Global 0 []) 1 4) ∷ line 5 Instr.End
        ∷ line 5 (Instr.Get 2 (Place.Global 0 []) 1) ∷ line 5 (Instr.Set (Place.Global 1 []) 2 5) ∷ line 5 Instr.End
        ∷ line 6 (Instr.Get 3 (Place.Global 1 []) 2) ∷ line 6 (Instr.Out 3) ∷ line 7 (Instr.Const 4 (pos 0)) ∷ line 7 (Instr.Ret 4 None) ∷ [];
  } ∷ [];
}
branching_row = coded [] (global 1 int ∷ global 2 int ∷ []) branching 0 ∙ refl
