-- Places within the words of their variables.
use Rattle.std.specs.Prelude.{ℕ, ◌+◌, ◌<◌, ◌≤◌, List, length, slice_index}
use Rattle.tac_ir.specs.declared.code.Code.{Code}
use Rattle.tac_ir.specs.Layout.{words_before, along}
use Rattle.code_layout.specs.LeadsTo.{LeadsTo}

-- variable v of these shapes exists, and so does the path of fields behind it, within so many words
pub record IsFitting (c : Code) (shapes : List ℕ) (v : ℕ) (path : List ℕ) (limit : ℕ) : Type 0 where
  pub exists : v < length shapes
  pub leads : LeadsTo c (slice_index shapes v) path
  pub fits : words_before c shapes v + along c (slice_index shapes v) path ≤ limit
