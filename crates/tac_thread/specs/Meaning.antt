-- What a domain of values answers: V are its values, and S its stacks.
use Rattle.std.specs.Prelude.{ℕ, ℤ, Bool, true, false, ◌&&◌, Option, Some}
use Rattle.obj_mem.specs.declared.Maker.{Maker}
use Rattle.tac_ir.specs.declared.code.Code.{Code}
use Rattle.tac_ir.specs.declared.code.Place.{Place}
use Rattle.tac_ir.specs.declared.code.UnOp.{UnOp}
use Rattle.tac_ir.specs.declared.code.BinOp.{BinOp}
use Rattle.tac_ir.specs.Effect.{divides}

pub record Meaning (V S : Type 0) : Type 0 where
  pub int : ℤ → V
  pub null : V
  -- whether a value is not 0
  pub truth : V → Option Bool
  pub un : UnOp → V → Option V
  pub bin : BinOp → V → V → Option V
  -- a pointer to a place of a function, whose frame is that of the stack
  pub place : Code → ℕ → S → Place → V
  pub field : Code → V → ℕ → ℕ → Option V
  pub decay : Code → V → ℕ → Option V
  pub index : V → V → ℕ → Option V
  -- the stack with a frame for a function on top; none where there is no room
  pub enter : Code → S → ℕ → Maker → Option S
  -- with a number of branches n and i from 1: the i-th of n equal shares of a stack; none where it is empty
  pub share : S → ℕ → ℕ → Option S
  -- the word of the frame's return link, where the domain has such words
  pub link : S → Option ℕ
  -- whether a stack has a frame of this function
  pub has_frame : Code → ℕ → S → Bool

-- whether the operator divides, and by a value that is 0
abbrev pub divides_by_zero : {V S : Type 0} → Meaning V S → BinOp → V → Bool
divides_by_zero m op b = divides op && elim (m.truth b) [ Some false ↦ true | _ ↦ false ]
