-- Which functions call which, through any chain of calls; and which have at most one frame at a time.
use Rattle.std.specs.Prelude.{◌≡◌, ℕ, true}
use Rattle.dfi_base.specs.declared.numbers.Point.{Point}
use Rattle.tac_ir.specs.declared.code.Code.{Code}
use Rattle.tac_ir.specs.Layout.{instr_at}
use Rattle.tac_ir.specs.Edges.{calls_fun}
use Rattle.tac_ir.specs.Bodies.{Parallel}
use Rattle.flow_rules.specs.PointNumber.{entry}

-- function g can be called from function f, by one call or more
pub data CanCall (c : Code) (f : ℕ) : ℕ → Type 0 where
  one : (p : Point) (g : ℕ) → p.fun ≡ f → calls_fun g (instr_at c p) ≡ true → CanCall c f g
  more : (p : Point) (g : ℕ) → CanCall c f p.fun → calls_fun g (instr_at c p) ≡ true → CanCall c f g

-- it never calls itself, and never runs beside itself
pub record HasOneFrame (c : Code) (f : ℕ) : Type 0 where
  pub once : CanCall c f f → ⊥
  pub alone : Parallel c (entry f) (entry f) → ⊥
