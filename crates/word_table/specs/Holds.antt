-- Words beside the history of a run.
use Rattle.std.specs.Prelude.{◌≡◌, ℕ, ◌<◌, List, length, slice_index}
use Rattle.tac_ir.specs.declared.run.Entry.{Entry}
use Rattle.tac_ir.specs.Module.{Module}
use Rattle.tac_ir.specs.Layout.{memory_words}
use Rattle.tac_ir.specs.Last.{last_write}
use Rattle.tac_ir.specs.Answers.{class_of}
use Rattle.word_table.specs.Words.{Words}
use Rattle.word_table.specs.tools.BitRows.{AreRowsOf}

-- each word of memory has the value of its last write, and the class of the definition that wrote it; the rows are those of the module
pub record HoldsAfter (m : Module) (h : List Entry) (t : Words) : Type 0 where
  pub values : length t.values ≡ memory_words m.size
  pub classes : length t.classes ≡ memory_words m.size
  pub value : (w : ℕ) → w < memory_words m.size → slice_index t.values w ≡ (last_write m.code h w).value
  pub class : (w : ℕ) → w < memory_words m.size → slice_index t.classes w ≡ class_of m (last_write m.code h w).def
  pub rows : AreRowsOf m t.rows
