-- Code whose shapes are nested deep.
use Rattle.std.specs.Prelude.{ℕ, zero, suc, List, [], ◌∷◌, ◌++◌, pos, None}
use Rattle.tac_ir.specs.declared.code.Code.{Code}
use Rattle.tac_ir.specs.declared.code.Shape.{Shape}
use Rattle.tac_ir.specs.declared.code.Instr.{Instr}
use Rattle.tac_ir.specs.declared.code.Fun.{Fun}
use Rattle.test_threads.specs.declared.deep.Nesting.{Nesting}

-- a shape round another one
abbrev pub level : Nesting → ℕ → Shape
level Nesting.Array inner = Shape.Array 1 inner
level Nesting.Struct inner = Shape.Struct (inner ∷ [])
level Nesting.Pair inner = Shape.Struct (inner ∷ 0 ∷ [])

-- so many, each round the one before it, the first round this one
abbrev pub levels : Nesting → ℕ → ℕ → List Shape
levels nesting at zero = []
levels nesting at (suc n) = level nesting at ∷ levels nesting (suc at) n

abbrev pub nested : Nesting → ℕ → List Shape
nested nesting n = Shape.Int ∷ Shape.Ptr ∷ levels nesting 1 n

-- and a pair round the last of them
abbrev pub deep_shapes : Nesting → ℕ → List Shape
deep_shapes nesting n = nested nesting n ++ level Nesting.Pair (suc n) ∷ []

abbrev pub short_main : Fun
short_main = record {
  params = 0;
  vars = [];
  code = record { line = 1; instr = Instr.Const 0 (pos 0) } ∷ record { line = 1; instr = Instr.Ret 0 None } ∷ [];
  line = 1;
}

abbrev pub deep_code : Nesting → ℕ → Code
deep_code nesting n = record { shapes = deep_shapes nesting n; globals = []; sites = []; main = 0; funs = short_main ∷ [] }
