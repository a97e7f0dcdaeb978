-- Code whose shapes and globals have sizes of 32 bits.
use Rattle.std.specs.Prelude.{ℕ, ◌+◌, ◌<◌, ◌^◌, Bool, true, ◌&&◌, nat_lt, List, [], ◌∷◌, length, reverse, IsTrue}
use Rattle.tac_ir.specs.declared.code.Code.{Code}
use Rattle.tac_ir.specs.declared.code.Shape.{Shape}
use Rattle.tac_ir.specs.Layout.{words_by, words_in, words_before, shapes_of_globals, globals_from}

-- each of these shapes, listed with the last one first, has a number of words below 2 ^ 32
abbrev pub are_sized : List Shape → Bool
are_sized [] = true
are_sized (shape ∷ earlier) = nat_lt (words_by (words_in earlier) shape) (2 ^ 32) && are_sized earlier

-- the first word of global g; for the number of globals, the first word after all of them
abbrev pub global_start : Code → ℕ → ℕ
global_start c g = globals_from + words_before c (shapes_of_globals c) g

pub record IsLaidOut (c : Code) : Type 0 where
  pub shapes : IsTrue (are_sized (reverse c.shapes))
  pub globals : global_start c (length c.globals) < 2 ^ 32
