-- The writes of a word in a history.
use Rattle.std.specs.Prelude.{ℕ, Option, Some, None, List, [], ◌∷◌}
use Rattle.tac_ir.specs.declared.run.Entry.{Entry}
use Rattle.tac_ir.specs.Last.{write_to}

-- the definition of the last write of word w in a history
unfoldable pub writer_in : List Entry → ℕ → Option ℕ
writer_in [] w = None
writer_in (e ∷ h) w = elim (write_to w e.op e.answer) [ Some written ↦ Some written.def | None ↦ writer_in h w ]
