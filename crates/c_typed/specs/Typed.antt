-- A typed program, as every definition sees it.
use Rattle.std.specs.Prelude.{ℕ, List}
use Rattle.c_typed.specs.declared.program.Struct.{Struct}
use Rattle.c_typed.specs.declared.program.Global.{Global}
use Rattle.c_typed.specs.declared.program.Function.{Function}

pub record Typed : Type 0 where
  pub structs : List Struct
  pub globals : List Global
  pub functions : List Function
  -- the number of `main`
  pub main : ℕ
