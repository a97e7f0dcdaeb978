-- More small programs: a function that calls itself, loops, `&&` and `||`, structs, arrays and blocks.
use Rattle.std.specs.Prelude.{pos}
use Rattle.std.proofs.Common.{◌≡◌, ℕ, List, [], ◌∷◌, true, false, Some, None, refl, ◌∙◌}
use Rattle.c_ast.specs.declared.expr.BinaryOp.{BinaryOp}
use Rattle.c_ast.specs.declared.stmt.AssignOp.{AssignOp}
use Rattle.c_typed.specs.declared.types.BaseType.{BaseType}
use Rattle.c_typed.specs.declared.types.ObjectType.{ObjectType}
use Rattle.c_typed.specs.declared.types.ExprType.{ExprType}
use Rattle.c_typed.specs.declared.expr.PrefixOp.{PrefixOp}
use Rattle.c_typed.specs.declared.program.Struct.{Struct}
use Rattle.tac_ir.specs.declared.code.Shape.{Shape}
use Rattle.tac_ir.specs.declared.code.Place.{Place}
use Rattle.tac_ir.specs.declared.code.Instr.{Instr}
use Rattle.tac_ir.specs.declared.code.BinOp.{BinOp}
use Rattle.tac_ir.specs.declared.code.UnOp.{UnOp}
use Rattle.tac_lower.specs.CodeOf.{code_of}
use Rattle.tac_lower.specs.Shapes.{struct_entry}
use Rattle.tac_lower.proofs.rows.Small.{Tree, Trees}
use Rattle.tac_lower.proofs.rows.SmallStmts.{Code as Text, Codes as Texts, Small, program, coded}
use Rattle.tac_lower.proofs.rows.Rows.{line, int, pointer, global, variable}

abbrev g : ℕ → Tree
g n = Tree.read ExprType.Int (Tree.global int n)

abbrev x : ℕ → Tree
x n = Tree.read ExprType.Int (Tree.local int n)

abbrev ints : Tree → BinaryOp → Tree → Tree
ints a op b = Tree.binary ExprType.Int a op b

abbrev l : ℕ → Place
l n = Place.Local n []

-- Line 1: int f(int n) { 2: int k; 3: k = n; 4: if (n > 0) { f(n - 1); } 5: k = k + 1; 6: return k; 7: } 8: int main() { putint(f(2)); }
abbrev calling : List Small
calling =
    record {
      line = 1;
      result = Some int;
      parameters = 1;
      variables = variable 1 int ∷ variable 2 int ∷ [];
      body = Texts.also (Text.set 3 (Tree.local int 1) AssignOp.Plain (x 0))
          (Texts.also (Text.when 4 (ints (x 0) BinaryOp.Greater (Tree.num 0))
          (Text.block (Texts.also (Text.run 4 (Tree.call ExprType.Int 0 (Trees.also (ints (x 0) BinaryOp.Sub (Tree.num 1)) Trees.none))) Texts.none)))
          (Texts.also (Text.set 5 (Tree.local int 1) AssignOp.Plain (ints (x 1) BinaryOp.Add (Tree.num 1)))
          (Texts.also (Text.ret 6 (x 1)) Texts.none)));
      close = 7;
    }
    ∷ record {
      line = 8;
      result = Some int;
      parameters = 0;
      variables = [];
      body = Texts.also (Text.put 8 (Tree.call ExprType.Int 0 (Trees.also (Tree.num 2) Trees.none))) Texts.none;
      close = 8;
    } ∷ []

calling_row : code_of (program [] [] calling 1) ≡ record {
  shapes = Shape.Int ∷ Shape.Ptr ∷ [];
  globals = [];
  sites = [];
  main = 1;
  funs =
      record {
        params = 1;
        vars = 0 ∷ 0 ∷ [];
        line = 1;
        code =
            line 1 (Instr.Set (l 0) 0 1) ∷ line 3 (Instr.Get 1 (l 0) 1) ∷ line 3 (Instr.Set (l 1) 1 2)
            ∷ line 4 (Instr.Get 2 (l 0) 2) ∷ line 4 (Instr.Const 3 (pos 0)) ∷ line 4 (Instr.Bin 4 BinOp.Gt 2 3) ∷ line 4 (Instr.Test 4 7 11)
            ∷ line 4 (Instr.Get 5 (l 0) 3) ∷ line 4 (Instr.Const 6 (pos 1)) ∷ line 4 (Instr.Bin 7 BinOp.Sub 5 6) ∷ line 4 (Instr.Call 8 0 3 (7 ∷ []))
            ∷ line 5 (Instr.Get 9 (l 1) 4) ∷ line 5 (Instr.Const 10 (pos 1)) ∷ line 5 (Instr.Bin 11 BinOp.Add 9 10) ∷ line 5 (Instr.Set (l 1) 11 4)
            ∷ line 6 (Instr.Get 12 (l 1) 5) ∷ line 6 (Instr.Ret 12 (Some 6)) ∷ line 7 (Instr.Const 13 (pos 0)) ∷ line 7 (Instr.Ret 13 (Some 7)) ∷ [];
      }
      ∷ record {
        params = 0;
        vars = [];
        line = 8;
        code =
            line 8 (Instr.Const 0 (pos 2)) ∷ line 8 (Instr.Call 1 0 5 (0 ∷ [])) ∷ line 8 (Instr.Out 1)
            ∷ line 8 (Instr.Const 2 (pos 0)) ∷ line 8 (Instr.Ret 2 None) ∷ [];
      } ∷ [];
}
calling_row = coded [] [] calling 1 ∙ refl

-- Line 1: int main() { int i; 2: for (i = 0; i < 9; i++) { 3: if (i == 3) continue; 4: if (i == 5) break; 5: putint(i); } 6: while (i) { i -= 1; } 7: }
abbrev looping : List Small
looping = record {
  line = 1;
  result = Some int;
  parameters = 0;
  variables = variable 1 int ∷ [];
  body = Texts.also (Text.loop 2 (Text.set 2 (Tree.local int 0) AssignOp.Plain (Tree.num 0)) (ints (x 0) BinaryOp.Less (Tree.num 9)) (Text.inc 2 (Tree.local int 0))
      (Text.block (Texts.also (Text.when 3 (ints (x 0) BinaryOp.Equal (Tree.num 3)) (Text.cont 3))
      (Texts.also (Text.when 4 (ints (x 0) BinaryOp.Equal (Tree.num 5)) (Text.brk 4))
      (Texts.also (Text.put 5 (x 0)) Texts.none)))))
      (Texts.also (Text.repeat 6 (x 0) (Text.block (Texts.also (Text.set 6 (Tree.local int 0) AssignOp.Sub (Tree.num 1)) Texts.none))) Texts.none);
  close = 7;
} ∷ []

looping_row : code_of (program [] [] looping 0) ≡ record {
  shapes = Shape.Int ∷ Shape.Ptr ∷ [];
  globals = [];
  sites = [];
  main = 0;
  funs = record {
    params = 0;
    vars = 0 ∷ [];
    line = 1;
    code =
        line 2 (Instr.Const 0 (pos 0)) ∷ line 2 (Instr.Set (l 0) 0 1) ∷ line 2 Instr.Turn
        ∷ line 2 (Instr.Get 1 (l 0) 1) ∷ line 2 (Instr.Const 2 (pos 9)) ∷ line 2 (Instr.Bin 3 BinOp.Lt 1 2) ∷ line 2 (Instr.Test 3 7 24)
        ∷ line 3 (Instr.Get 4 (l 0) 2) ∷ line 3 (Instr.Const 5 (pos 3)) ∷ line 3 (Instr.Bin 6 BinOp.Eq 4 5) ∷ line 3 (Instr.Test 6 11 12) ∷ line 3 (Instr.Jump 19)
        ∷ line 4 (Instr.Get 7 (l 0) 3) ∷ line 4 (Instr.Const 8 (pos 5)) ∷ line 4 (Instr.Bin 9 BinOp.Eq 7 8) ∷ line 4 (Instr.Test 9 16 17) ∷ line 4 (Instr.Jump 24)
        ∷ line 5 (Instr.Get 10 (l 0) 4) ∷ line 5 (Instr.Out 10)
        ∷ line 2 (Instr.Get 11 (l 0) 5) ∷ line 2 (Instr.Const 12 (pos 1)) ∷ line 2 (Instr.Bin 13 BinOp.Add 11 12) ∷ line 2 (Instr.Set (l 0) 13 2) ∷ line 2 (Instr.Jump 2)
        ∷ line 6 Instr.Turn ∷ line 6 (Instr.Get 14 (l 0) 6) ∷ line 6 (Instr.Test 14 27 32)
        ∷ line 6 (Instr.Get 15 (l 0) 7) ∷ line 6 (Instr.Const 16 (pos 1)) ∷ line 6 (Instr.Bin 17 BinOp.Sub 15 16) ∷ line 6 (Instr.Set (l 0) 17 3) ∷ line 6 (Instr.Jump 24)
        ∷ line 7 (Instr.Const 18 (pos 0)) ∷ line 7 (Instr.Ret 18 None) ∷ [];
  } ∷ [];
}
looping_row = coded [] [] looping 0 ∙ refl

-- Line 1: int x; int *p; 2: int main() { 3: putint(x && p); 4: putint(x || !p); 5: }
abbrev p : Tree
p = Tree.read (ExprType.Pointer int) (Tree.global pointer 1)

abbrev deciding : List Small
deciding = record {
  line = 2;
  result = Some int;
  parameters = 0;
  variables = [];
  body = Texts.also (Text.put 3 (ints (g 0) BinaryOp.And p)) (Texts.also (Text.put 4 (ints (g 0) BinaryOp.Or (Tree.prefix PrefixOp.Not p))) Texts.none);
  close = 5;
} ∷ []

deciding_row : code_of (program [] (global 1 int ∷ global 1 pointer ∷ []) deciding 0) ≡ record {
  shapes = Shape.Int ∷ Shape.Ptr ∷ [];
  globals = record { shape = 0; start = pos 0; line = 1 } ∷ record { shape = 1; start = pos 0; line = 1 } ∷ [];
  sites = [];
  main = 0;
  funs = record {
    params = 0;
    vars = [];
    line = 2;
    code =
        line 3 (Instr.Get 0 (Place.Global 0 []) 1) ∷ line 3 (Instr.Test 0 2 8)
        ∷ line 3 (Instr.Get 1 (Place.Global 1 []) 2) ∷ line 3 (Instr.Null 2) ∷ line 3 (Instr.Same 3 true 1 2) ∷ line 3 (Instr.Test 3 6 8)
        ∷ line 3 (Instr.Const 4 (pos 1)) ∷ line 3 (Instr.Jump 9) ∷ line 3 (Instr.Const 4 (pos 0)) ∷ line 3 (Instr.Out 4)
        ∷ line 4 (Instr.Get 5 (Place.Global 0 []) 3) ∷ line 4 (Instr.Test 5 16 12)
        ∷ line 4 (Instr.Get 6 (Place.Global 1 []) 4) ∷ line 4 (Instr.Null 7) ∷ line 4 (Instr.Same 8 false 6 7) ∷ line 4 (Instr.Test 8 16 18)
        ∷ line 4 (Instr.Const 9 (pos 1)) ∷ line 4 (Instr.Jump 19) ∷ line 4 (Instr.Const 9 (pos 0)) ∷ line 4 (Instr.Out 9)
        ∷ line 5 (Instr.Const 10 (pos 0)) ∷ line 5 (Instr.Ret 10 None) ∷ [];
  } ∷ [];
}
deciding_row = coded [] (global 1 int ∷ global 1 pointer ∷ []) deciding 0 ∙ refl

-- Line 1: struct s { int a; int b[2][3]; struct s *next; }; 2: int main() { 3: struct s v; struct s *p;
-- 4: v.b[1][2] = 5; 5: p = malloc(sizeof(struct s)); 6: p = malloc(2 * sizeof(struct s)); 7: p->next = &v; 8: p = p - 1; 9: p->b[0][0] += v.a; 10: }
abbrev rows : ObjectType
rows = record { base = BaseType.Int; stars = 0; lengths = 2 ∷ 3 ∷ [] }

abbrev row : ObjectType
row = record { base = BaseType.Int; stars = 0; lengths = 3 ∷ [] }

abbrev node : ObjectType
node = record { base = BaseType.Struct 0; stars = 0; lengths = [] }

abbrev link : ObjectType
link = record { base = BaseType.Struct 0; stars = 1; lengths = [] }

abbrev structs : List Struct
structs = record { fields = int ∷ rows ∷ link ∷ []; words = 8 } ∷ []

abbrev v : Tree
v = Tree.local node 0

abbrev q : Tree
q = Tree.read (ExprType.Pointer node) (Tree.local link 1)

-- item i, j of the rows at a place
abbrev item : Tree → ℕ → ℕ → Tree
item place i j = Tree.index int (Tree.decay int (Tree.index row (Tree.decay row place) (Tree.num i))) (Tree.num j)

abbrev making : List Small
making = record {
  line = 2;
  result = Some int;
  parameters = 0;
  variables = variable 3 node ∷ variable 3 link ∷ [];
  body = Texts.also (Text.set 4 (item (Tree.field rows v 1) 1 2) AssignOp.Plain (Tree.num 5))
      (Texts.also (Text.set 5 (Tree.local link 1) AssignOp.Plain (Tree.new 0 node))
      (Texts.also (Text.set 6 (Tree.local link 1) AssignOp.Plain (Tree.news 1 node (Tree.num 2)))
      (Texts.also (Text.set 7 (Tree.arrow link q 2) AssignOp.Plain (Tree.address node v))
      (Texts.also (Text.set 8 (Tree.local link 1) AssignOp.Plain (Tree.binary (ExprType.Pointer node) q BinaryOp.Sub (Tree.num 1)))
      (Texts.also (Text.set 9 (item (Tree.arrow rows q 1) 0 0) AssignOp.Add (Tree.read ExprType.Int (Tree.field int v 0))) Texts.none)))));
  close = 10;
} ∷ []

making_row : code_of (program structs [] making 0) ≡ record {
  shapes = Shape.Int ∷ Shape.Ptr ∷ Shape.Array 3 0 ∷ Shape.Array 2 2 ∷ Shape.Struct (0 ∷ 3 ∷ 1 ∷ []) ∷ [];
  globals = [];
  sites = record { shape = 4; line = 5 } ∷ record { shape = 4; line = 6 } ∷ [];
  main = 0;
  funs = record {
    params = 0;
    vars = 4 ∷ 1 ∷ [];
    line = 2;
    code =
        line 4 (Instr.Addr 0 (Place.Local 0 (1 ∷ []))) ∷ line 4 (Instr.Decay 1 0 3) ∷ line 4 (Instr.Const 2 (pos 1)) ∷ line 4 (Instr.Index 3 1 2 3)
        ∷ line 4 (Instr.Decay 4 3 2) ∷ line 4 (Instr.Const 5 (pos 2)) ∷ line 4 (Instr.Index 6 4 5 1) ∷ line 4 (Instr.Const 7 (pos 5)) ∷ line 4 (Instr.Store 6 7 1)
        ∷ line 5 (Instr.Const 8 (pos 1)) ∷ line 5 (Instr.New 9 8 0) ∷ line 5 (Instr.Set (l 1) 9 2)
        ∷ line 6 (Instr.Const 10 (pos 2)) ∷ line 6 (Instr.New 11 10 1) ∷ line 6 (Instr.Set (l 1) 11 3)
        ∷ line 7 (Instr.Get 12 (l 1) 1) ∷ line 7 (Instr.Field 13 12 4 2) ∷ line 7 (Instr.Addr 14 (l 0)) ∷ line 7 (Instr.Store 13 14 4)
        ∷ line 8 (Instr.Get 15 (l 1) 2) ∷ line 8 (Instr.Const 16 (pos 1)) ∷ line 8 (Instr.Un 17 UnOp.Neg 16) ∷ line 8 (Instr.Index 18 15 17 8) ∷ line 8 (Instr.Set (l 1) 18 5)
        ∷ line 9 (Instr.Get 19 (l 1) 3) ∷ line 9 (Instr.Field 20 19 4 1) ∷ line 9 (Instr.Decay 21 20 3) ∷ line 9 (Instr.Const 22 (pos 0)) ∷ line 9 (Instr.Index 23 21 22 3)
        ∷ line 9 (Instr.Decay 24 23 2) ∷ line 9 (Instr.Const 25 (pos 0)) ∷ line 9 (Instr.Index 26 24 25 1) ∷ line 9 (Instr.Load 27 26 4)
        ∷ line 9 (Instr.Get 28 (Place.Local 0 (0 ∷ [])) 5) ∷ line 9 (Instr.Bin 29 BinOp.Add 27 28) ∷ line 9 (Instr.Store 26 29 6)
        ∷ line 10 (Instr.Const 30 (pos 0)) ∷ line 10 (Instr.Ret 30 None) ∷ [];
  } ∷ [];
}
unfolding struct_entry
making_row = coded structs [] making 0 ∙ refl
