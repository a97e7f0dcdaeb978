-- Points, and their numbers in the order of the code.
use Rattle.std.specs.Prelude.{ℕ, ◌+◌, length, map, sum, take}
use Rattle.dfi_base.specs.declared.numbers.Point.{Point}
use Rattle.tac_ir.specs.declared.code.Code.{Code}

-- index i of function f
abbrev pub point_at : ℕ → ℕ → Point
point_at f i = record { fun = f; at = i }

-- where functions are entered
abbrev pub entry : ℕ → Point
entry f = point_at f 0

-- how many points stand before it: those of earlier functions, and the earlier ones of its own
abbrev pub point_number : Code → Point → ℕ
point_number c p = sum (map (λ fun. length fun.code) (take p.fun c.funs)) + p.at
